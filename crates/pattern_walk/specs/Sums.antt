-- What is known of the operations of a program, and the forms of sums and multiples.
use Rattle.std.specs.Prelude.{ℕ, nat_eq, List, slice_index, ℤ, pos, neg_ℤ}
use Rattle.std.specs.Option.{option_map_or, unwrap_or}
use Rattle.std.specs.Map.{lookup}
use Rattle.fhe_text.specs.declared.source.OpName.{OpName}
use Rattle.fhe_text.specs.declared.source.OpName.TheVariants.{AddEint, AddEintInt, SubEint, SubEintInt, SubIntEint, NegEint, MulEintInt, Zero, ApplyLookupTable}
use Rattle.fhe_text.specs.declared.source.Entries.{Entries}
use Rattle.fhe_text.specs.declared.source.Entries.TheVariants as tables
use Rattle.linear_forms.specs.declared.linear.Form.{Form}
use Rattle.linear_forms.specs.Forms.{constant_form, combined}
use Rattle.fhe_level.specs.declared.level.FheOp.{FheOp}
use Rattle.fhe_level.specs.declared.level.FheOp.TheVariants as ops
use Rattle.fhe_level.specs.Clearing.{op_with}

-- ---- operands

-- the form of the operation with a number, and that of 0 where there is none
abbrev pub form_at : List (ℕ × Form) → ℕ → Form
form_at forms wanted = unwrap_or (lookup (nat_eq wanted) forms) (constant_form (pos 0))

-- the number of a constant of the text, which has no form
abbrev pub constant_of : FheOp → ℤ
constant_of (ops.Int value bits) = value
constant_of _ = pos 0

abbrev pub constant_with : List (ℕ × FheOp) → ℕ → ℤ
constant_with operations wanted = option_map_or constant_of (op_with operations wanted) (pos 0)

-- and its table
abbrev pub table_of : FheOp → Entries
table_of (ops.Dense found count bits) = found
table_of _ = tables.Splat (pos 0)

abbrev pub table_with : List (ℕ × FheOp) → ℕ → Entries
table_with operations wanted = option_map_or table_of (op_with operations wanted) (tables.Splat (pos 0))

-- ---- forms of sums and multiples, on so many leaves

-- a number, and a number times a form
abbrev pub multiple : ℕ → ℤ → ℤ → Form → Form
multiple leaves moved factor form = combined leaves moved factor form (pos 0) (constant_form (pos 0))

-- a form, and a number times another
abbrev pub total : ℕ → Form → ℤ → Form → Form
total leaves form factor other = combined leaves (pos 0) (pos 1) form factor other

-- the form of an operation on these operands that is no look-up
abbrev pub sum_form : ℕ → List (ℕ × FheOp) → List (ℕ × Form) → OpName → List ℕ → Form
sum_form leaves operations forms AddEint operands =
    total leaves (form_at forms (slice_index operands 0)) (pos 1) (form_at forms (slice_index operands 1))
sum_form leaves operations forms AddEintInt operands =
    multiple leaves (constant_with operations (slice_index operands 1)) (pos 1) (form_at forms (slice_index operands 0))
sum_form leaves operations forms SubEint operands =
    total leaves (form_at forms (slice_index operands 0)) (neg_ℤ (pos 1)) (form_at forms (slice_index operands 1))
sum_form leaves operations forms SubEintInt operands =
    multiple leaves
    (neg_ℤ (constant_with operations (slice_index operands 1)))
    (pos 1) (form_at forms (slice_index operands 0))
sum_form leaves operations forms SubIntEint operands =
    multiple leaves
    (constant_with operations (slice_index operands 0))
    (neg_ℤ (pos 1)) (form_at forms (slice_index operands 1))
sum_form leaves operations forms NegEint operands =
    multiple leaves (pos 0) (neg_ℤ (pos 1)) (form_at forms (slice_index operands 0))
sum_form leaves operations forms MulEintInt operands =
    multiple leaves (pos 0)
    (constant_with operations (slice_index operands 1)) (form_at forms (slice_index operands 0))
sum_form leaves operations forms Zero operands = constant_form (pos 0)
sum_form leaves operations forms ApplyLookupTable operands = constant_form (pos 0)
