use Rattle.std.proofs.Common.{◌≡◌, take}
use Rattle.std.specs.String.{string_bytes}
use Rattle.value_files.specs.Values.{values_text}
use Rattle.value_files.proofs.printer.print_values.Given as goal

-- the lines of the values so far
abbrev pub invariant-loop-value : goal.invariant-loop-value
invariant-loop-value l = string_bytes l.text ≡ values_text (take l.value-index l.values)
