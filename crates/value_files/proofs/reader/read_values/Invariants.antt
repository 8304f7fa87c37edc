use Rattle.std.proofs.Common.{◌≡◌, ◌+◌, drop}
use Rattle.value_files.specs.Values.{values_from, values_of}
use Rattle.value_files.proofs.LineLemmas.{with_front}
use Rattle.value_files.proofs.reader.read_values.Given as goal

-- the values that were read, and those that are still to be, are all values
abbrev pub invariant-loop-place : goal.invariant-loop-place
invariant-loop-place l = with_front l.values.items (values_from (l.place + 1) l.rest (drop l.place l.ranges)) ≡ values_of l.bytes l.ranges
