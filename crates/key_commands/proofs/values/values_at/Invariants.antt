use Rattle.std.proofs.Common.{◌≡◌, ◌+◌, drop}
use Rattle.key_commands.specs.Decrypt.{values_at}
use Rattle.key_commands.proofs.ValueLemmas.{with_front}
use Rattle.key_commands.proofs.values.values_at.Given as goal

-- the values that were decoded, and those that are still to be, are all values
abbrev pub invariant-loop-place : goal.invariant-loop-place
invariant-loop-place l = with_front l.values.items (values_at (l.place + 1) l.width l.key (drop l.place l.ranges) (drop l.place l.list)) ≡ values_at 1 l.width l.key l.ranges l.list
