use Rattle.std.proofs.Common.{◌≡◌, length, take}
use Rattle.circuit_run.specs.Running.{weighted_row}
use Rattle.circuit_run.proofs.node.weighted_into.Given as goal

-- the terms so far are added up
abbrev pub invariant-loop-term : goal.invariant-loop-term
invariant-loop-term l = record {
  words : l.out ≡ weighted_row (length l.fn.out) (take l.term-index l.terms) l.earlier;
  length : length l.out ≡ length l.fn.out;
}
