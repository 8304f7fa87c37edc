-- What patterns compute on whole numbers, operation by operation.
use Rattle.std.specs.Prelude.{List, [], length, map, filter, filter_map, Option, Some, None, ℤ, unsigned_abs}
use Rattle.std.specs.List.{zip}
use Rattle.ir_core.specs.Placed.{operations_of}
use Rattle.forms.specs.Forms.{number_at, form_value, form_range}
use Rattle.forms.specs.Ranges.{range_of_entries}
use Rattle.forms.specs.FromEarlier.{from_earlier}
use Rattle.ap_level.specs.declared.level.ApOp.{ApOp}
use Rattle.ap_level.specs.declared.level.ApOp.TheVariants.{Input, Look, Out}
use Rattle.ap_level.specs.declared.program.ApProgram.{ApProgram}
use Rattle.ap_level.specs.Operations.{is_out}

-- the operations of a program, in order
abbrev pub patterns_of : ApProgram → List ApOp
patterns_of program = operations_of program.graph

-- ---- values

-- the value of an operation, from the values of the arguments and of the operations before it: a look-up gives the
-- entry at its form's value
abbrev pub value_of : List ℤ → List ℤ → ApOp → ℤ
value_of inputs earlier (Input lo hi) = number_at inputs (length earlier)
value_of inputs earlier (Look constant terms entries) =
    number_at entries (unsigned_abs (form_value constant terms earlier))
value_of inputs earlier (Out constant terms) = form_value constant terms earlier

-- the values of all operations
abbrev pub pattern_values : List ApOp → List ℤ → List ℤ
pattern_values operations inputs = from_earlier (value_of inputs) [] operations

-- what the results have
abbrev pub at_outs : {A : Type 0} → List ApOp → List A → List A
at_outs operations found = map (λ op. op.1) (filter (λ op. is_out op.0) (zip operations found))

-- the values of the results, in order, where the arguments have these values
abbrev pub clear_values : List ApOp → List ℤ → List ℤ
clear_values operations inputs = at_outs operations (pattern_values operations inputs)

-- ---- ranges

-- the range of an operation, from those of the operations before it
abbrev pub range_of : List (ℤ × ℤ) → ApOp → ℤ × ℤ
range_of earlier (Input lo hi) = (lo, hi)
range_of earlier (Look constant terms entries) = range_of_entries entries
range_of earlier (Out constant terms) = form_range constant terms earlier

-- the ranges of all operations
abbrev pub pattern_ranges : List ApOp → List (ℤ × ℤ)
pattern_ranges operations = from_earlier range_of [] operations

-- the range of an argument
abbrev pub argument_range : ApOp → Option (ℤ × ℤ)
argument_range (Input lo hi) = Some (lo, hi)
argument_range _ = None

-- the ranges of the arguments, in order
abbrev pub argument_ranges : List ApOp → List (ℤ × ℤ)
argument_ranges operations = filter_map argument_range operations
