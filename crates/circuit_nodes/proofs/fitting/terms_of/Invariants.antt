use Rattle.std.proofs.Common.{◌≡◌, map, take}
use Rattle.std.specs.Prelude.{unsigned_abs}
use Rattle.circuit_nodes.proofs.fitting.terms_of.Given as goal

-- the terms so far
abbrev pub invariant-loop-term : goal.invariant-loop-term
invariant-loop-term l = l.made.items ≡ map (λ t. (unsigned_abs t.0, t.1)) (take l.term-index l.terms)
