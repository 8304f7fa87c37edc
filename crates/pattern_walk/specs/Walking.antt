-- The statements of a program, taken in the order of the text: what they come to, or the first fault.
use Rattle.std.specs.Prelude.{ℕ, ◌+◌, ◌-◌, ◌^◌, ◌&&◌, nat_eq, nat_le, Bool, true, List, [], ◌∷◌, ◌++◌, length, map, slice_index, Result, Ok, Err, ℤ, pos, int_le, if◌then◌else◌}
use Rattle.std.specs.Ordering.{int_eq}
use Rattle.indexmap.specs.IndexMap.{insert_entry}
use Rattle.refusals.specs.Reading.{◌>>=◌, unless}
use Rattle.forms.specs.Limits.{most_weight}
use Rattle.forms.specs.Ranges.{range_of_entries}
use Rattle.linear_forms.specs.declared.linear.Form.{Form}
use Rattle.linear_forms.specs.Forms.{constant_form, leaf_form, size_of}
use Rattle.live_patterns.specs.declared.patterns.Look.{Look}
use Rattle.live_patterns.specs.declared.patterns.Patterns.{Patterns}
use Rattle.fhe_text.specs.declared.source.WrittenType.{WrittenType}
use Rattle.fhe_text.specs.declared.source.WrittenType.TheVariants as types
use Rattle.fhe_text.specs.declared.source.Entries.{Entries}
use Rattle.fhe_text.specs.declared.source.OpName.{OpName}
use Rattle.fhe_text.specs.declared.source.OpName.TheVariants.{ApplyLookupTable}
use Rattle.fhe_level.specs.declared.level.FheOp.{FheOp}
use Rattle.fhe_level.specs.declared.level.FheOp.TheVariants as ops
use Rattle.fhe_level.specs.declared.program.Program.{Program}
use Rattle.fhe_level.specs.declared.fault.LimitName.TheVariants.{Weight, Weights}
use Rattle.fhe_level.specs.declared.fault.LimitFault.{LimitFault}
use Rattle.fhe_level.specs.Programs.{entry_of}
use Rattle.pattern_walk.specs.declared.fault.FormFault.{FormFault}
use Rattle.pattern_walk.specs.declared.fault.FormFault.TheVariants.{Range, Limit}
use Rattle.pattern_walk.specs.Sums.{form_at, table_with, sum_form}
use Rattle.pattern_walk.specs.Looking.{range_on, pattern_on, place_in, is_new}

-- the non-zero weights over the forms of the statements up to and with one
abbrev pub most_weights : ℕ
most_weights = 2 ^ 20

-- what the operations so far come to
pub record Walked : Type 0 where
  -- the forms of those that have one, each with its number
  pub forms : List (ℕ × Form)
  -- the ranges of the leaves: the arguments, and then the look-ups
  pub ranges : List (ℤ × ℤ)
  pub looks : List Look
  -- how many operations there are
  pub place : ℕ
  -- the non-zero weights over the forms of the statements among them
  pub weights : ℕ

-- before the first
abbrev pub nothing_walked : List (ℤ × ℤ) → Walked
nothing_walked args = record { forms = []; ranges = args; looks = []; place = 0; weights = 0 }

-- ---- the checks of a statement

-- no number of the form is too large
abbrev pub check_weight : ℕ → Result (Unit {0}) FormFault
check_weight size =
    unless (nat_le size most_weight) (Limit (record { what = Weight; count = size; most = most_weight }))

-- the forms so far do not have too many weights
abbrev pub check_weights : ℕ → Result (Unit {0}) FormFault
check_weights weights =
    unless (nat_le weights most_weights) (Limit (record { what = Weights; count = weights; most = most_weights }))

-- a range lies in an encrypted type
abbrev pub is_in_type : WrittenType → ℤ × ℤ → Bool
is_in_type (types.Eint width) range = int_le (pos 0) range.0 && int_le range.1 (pos (2 ^ width - 1))
is_in_type _ range = true

-- the range of the statement with this number lies in its type
abbrev pub check_range : ℕ → WrittenType → ℤ × ℤ → Result (Unit {0}) FormFault
check_range statement ty range = unless (is_in_type ty range) (Range statement range.0 range.1)

-- ---- what an operation more leaves

-- the form of the operation with this number
abbrev pub with_form : Walked → ℕ → Form → Walked
with_form walked number form =
    record walked { forms = insert_entry nat_eq walked.forms number form; place = walked.place + 1 }

-- the weights of a form more
abbrev pub with_weights : Walked → ℕ → Walked
with_weights walked more = record walked { weights = walked.weights + more }

-- no form, for a constant of the text
abbrev pub with_constant : Walked → Walked
with_constant walked = record walked { place = walked.place + 1 }

-- a pattern more, unless the same is there
abbrev pub with_look : List Look → Look → List Look
with_look looks look = if is_new looks look then looks ++ look ∷ [] else looks

-- the range of a leaf more, where it is new
abbrev pub with_range : Bool → List (ℤ × ℤ) → ℤ × ℤ → List (ℤ × ℤ)
with_range new ranges range = if new then ranges ++ range ∷ [] else ranges

-- the leaf of a pattern, which may be there
abbrev pub with_leaf : Walked → Look → Walked
with_leaf walked look = record walked {
  looks = with_look walked.looks look;
  ranges = with_range (is_new walked.looks look) walked.ranges (range_of_entries look.entries);
}

-- ---- one operation, where the program has so many arguments

-- so many weights more, and then a statement's range, are checked
abbrev pub check_small : ℕ → Walked → WrittenType → ℤ × ℤ → ℕ → Result (Unit {0}) FormFault
check_small inputs walked ty range more =
    check_weights (walked.weights + more) >>= λ _. check_range (walked.place - inputs) ty range

-- a statement with a small form of this range, which passes these checks
abbrev pub with_small_form : ℕ → Walked → ℕ → WrittenType → ℤ × ℤ → Form → Result Walked FormFault
with_small_form inputs walked number ty range form =
    check_small inputs walked ty range (length form.terms) >>= λ _.
    Ok (with_form (with_weights walked (length form.terms)) number form)

-- a form whose numbers are not too large
abbrev pub small_form : Form → Result Form FormFault
small_form form = check_weight (size_of form) >>= λ _. Ok form

-- a statement whose form passes all checks, in their order
abbrev pub with_statement : ℕ → Walked → ℕ → WrittenType → Form → Result Walked FormFault
with_statement inputs walked number ty form =
    small_form form >>= λ small. with_small_form inputs walked number ty (range_on walked.ranges small) small

-- a look-up in a table, on an input of this range: the entry there, where the range is one number, and else the leaf of
-- a pattern
abbrev pub with_look_up : ℕ → Walked → ℕ → WrittenType → ℤ × ℤ → Form → Entries → Result Walked FormFault
with_look_up inputs walked number ty range input found =
    if int_eq range.0 range.1
    then with_statement inputs walked number ty (constant_form (entry_of found range.0))
    else (
    let look = pattern_on range input found in
    with_statement inputs (with_leaf walked look) number ty (leaf_form (inputs + place_in walked.looks look)))

-- an operation on these operands
abbrev pub with_operation : ℕ → List (ℕ × FheOp) → Walked → ℕ → OpName → List ℕ → WrittenType → Result Walked FormFault
with_operation inputs operations walked number ApplyLookupTable operands ty =
    with_look_up inputs walked number ty
    (range_on walked.ranges (form_at walked.forms (slice_index operands 0)))
    (form_at walked.forms (slice_index operands 0))
    (table_with operations (slice_index operands 1))
with_operation inputs operations walked number name operands ty =
    with_statement inputs walked number ty (sum_form (length walked.ranges) operations walked.forms name operands)

-- the next operation, with its number: the leaf of an argument has its place
abbrev pub step : ℕ → List (ℕ × FheOp) → Walked → ℕ → FheOp → Result Walked FormFault
step inputs operations walked number (ops.Arg ty) = Ok (with_form walked number (leaf_form walked.place))
step inputs operations walked number (ops.Int value bits) = Ok (with_constant walked)
step inputs operations walked number (ops.Dense found count bits) = Ok (with_constant walked)
step inputs operations walked number (ops.Apply name operands ty) =
    with_operation inputs operations walked number name operands ty

-- ---- the whole

-- the operations from here on, among all operations
abbrev pub walk : ℕ → List (ℕ × FheOp) → Walked → List (ℕ × FheOp) → Result Walked FormFault
walk inputs operations walked [] = Ok walked
walk inputs operations walked (entry ∷ later) =
    step inputs operations walked entry.0 entry.1 >>= λ next. walk inputs operations next later

-- all operations of a program
abbrev pub walked : Program → Result Walked FormFault
walked program =
    walk (length program.args) program.graph.list (nothing_walked program.args) program.graph.list

-- the patterns, those that no result hangs on too, and the forms of the results
abbrev pub patterns_in : Program → Walked → Patterns
patterns_in program reached = record {
  inputs = program.args;
  looks = reached.looks;
  outs = map (form_at reached.forms) program.results;
}

-- the patterns that a program comes to, or the first fault
abbrev pub patterns_found : Program → Result Patterns FormFault
patterns_found program = walked program >>= λ reached. Ok (patterns_in program reached)
