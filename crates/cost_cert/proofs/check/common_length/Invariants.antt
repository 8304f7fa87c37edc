use Rattle.std.proofs.Common.{◌≡◌, ◌≤◌, take, length}
use Rattle.cost_cert.proofs.check.common_length.Given as goal

-- so far they are the same
abbrev pub invariant-loop-at : goal.invariant-loop-at
invariant-loop-at l = record {
  same : take l.at l.text ≡ take l.at l.bytes;
  low : l.at ≤ length l.text;
  high : l.at ≤ length l.bytes;
}
