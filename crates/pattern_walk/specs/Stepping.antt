-- A step goes one operation on. These facts are proved on this page, so that each crate may cite them.
use Rattle.std.proofs.Common.{◌≡◌, ℕ, ◌+◌, Bool, true, false, cond, List, length, sym, ap, Ok}
use Rattle.std.specs.Prelude.{ℤ, slice_index}
use Rattle.std.specs.Ordering.{int_eq}
use Rattle.linear_forms.specs.declared.linear.Form.{Form}
use Rattle.linear_forms.specs.Forms.{constant_form, leaf_form}
use Rattle.fhe_text.specs.declared.source.WrittenType.{WrittenType}
use Rattle.fhe_text.specs.declared.source.OpName.{OpName}
use Rattle.fhe_text.specs.declared.source.OpName.TheVariants.{AddEint, AddEintInt, SubEint, SubEintInt, SubIntEint, NegEint, MulEintInt, Zero, ApplyLookupTable}
use Rattle.fhe_text.specs.declared.source.Entries.{Entries}
use Rattle.fhe_level.specs.declared.level.FheOp.{FheOp}
use Rattle.fhe_level.specs.declared.level.FheOp.TheVariants as ops
use Rattle.fhe_level.specs.Programs.{entry_of}
use Rattle.pattern_walk.specs.Sums.{form_at, sum_form, table_with}
use Rattle.pattern_walk.specs.Looking.{range_on, pattern_on, place_in}
use Rattle.pattern_walk.specs.Walking.{Walked, with_form, with_constant, with_leaf, with_statement, with_look_up, with_operation, step}
use Rattle.pattern_walk.specs.Passing.{statement_passed, ok_same}

either : {A : Type 0} (P : Type 0) (test : Bool) (first last value : A) → (first ≡ value → P) → (last ≡ value → P)
    → cond test first last ≡ value → P
either P true first last value one other e = one e
either P false first last value one other e = other e

statement_place : (inputs : ℕ) (walked : Walked) (number : ℕ) (ty : WrittenType) (form : Form) (next : Walked)
    → with_statement inputs walked number ty form ≡ Ok next → next.place ≡ walked.place + 1
statement_place inputs walked number ty form next e =
    sym (ap (λ (w : Walked). w.place) (statement_passed inputs walked number ty form next e).1.is)

look_up_place : (inputs : ℕ) (walked : Walked) (number : ℕ) (ty : WrittenType) (range : ℤ × ℤ) (input : Form) (found : Entries) (next : Walked)
    → with_look_up inputs walked number ty range input found ≡ Ok next → next.place ≡ walked.place + 1
look_up_place inputs walked number ty range input found next e =
    let look = pattern_on range input found in
    either (next.place ≡ walked.place + 1) (int_eq range.0 range.1)
    (with_statement inputs walked number ty (constant_form (entry_of found range.0)))
    (with_statement inputs (with_leaf walked look) number ty (leaf_form (inputs + place_in walked.looks look))) (Ok next)
    (statement_place inputs walked number ty (constant_form (entry_of found range.0)) next)
    (statement_place inputs (with_leaf walked look) number ty (leaf_form (inputs + place_in walked.looks look)) next) e

operation_place : (inputs : ℕ) (operations : List (ℕ × FheOp)) (walked : Walked) (number : ℕ) (name : OpName) (operands : List ℕ) (ty : WrittenType) (next : Walked)
    → with_operation inputs operations walked number name operands ty ≡ Ok next → next.place ≡ walked.place + 1
operation_place inputs operations walked number AddEint operands ty next e =
    statement_place inputs walked number ty (sum_form (length walked.ranges) operations walked.forms AddEint operands) next e
operation_place inputs operations walked number AddEintInt operands ty next e =
    statement_place inputs walked number ty (sum_form (length walked.ranges) operations walked.forms AddEintInt operands) next e
operation_place inputs operations walked number SubEint operands ty next e =
    statement_place inputs walked number ty (sum_form (length walked.ranges) operations walked.forms SubEint operands) next e
operation_place inputs operations walked number SubEintInt operands ty next e =
    statement_place inputs walked number ty (sum_form (length walked.ranges) operations walked.forms SubEintInt operands) next e
operation_place inputs operations walked number SubIntEint operands ty next e =
    statement_place inputs walked number ty (sum_form (length walked.ranges) operations walked.forms SubIntEint operands) next e
operation_place inputs operations walked number NegEint operands ty next e =
    statement_place inputs walked number ty (sum_form (length walked.ranges) operations walked.forms NegEint operands) next e
operation_place inputs operations walked number MulEintInt operands ty next e =
    statement_place inputs walked number ty (sum_form (length walked.ranges) operations walked.forms MulEintInt operands) next e
operation_place inputs operations walked number Zero operands ty next e =
    statement_place inputs walked number ty (sum_form (length walked.ranges) operations walked.forms Zero operands) next e
operation_place inputs operations walked number ApplyLookupTable operands ty next e =
    look_up_place inputs walked number ty (range_on walked.ranges (form_at walked.forms (slice_index operands 0)))
    (form_at walked.forms (slice_index operands 0)) (table_with operations (slice_index operands 1)) next e

-- one operation more
pub step_place : (inputs : ℕ) (operations : List (ℕ × FheOp)) (walked : Walked) (number : ℕ) (op : FheOp) (next : Walked)
    → step inputs operations walked number op ≡ Ok next → next.place ≡ walked.place + 1
step_place inputs operations walked number (ops.Arg ty) next e =
    sym (ap (λ (w : Walked). w.place) (ok_same (with_form walked number (leaf_form walked.place)) next e))
step_place inputs operations walked number (ops.Int value bits) next e = sym (ap (λ (w : Walked). w.place) (ok_same (with_constant walked) next e))
step_place inputs operations walked number (ops.Dense found count bits) next e = sym (ap (λ (w : Walked). w.place) (ok_same (with_constant walked) next e))
step_place inputs operations walked number (ops.Apply name operands ty) next e =
    operation_place inputs operations walked number name operands ty next e
