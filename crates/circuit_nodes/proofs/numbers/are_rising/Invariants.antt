use Rattle.std.proofs.Common.{◌≡◌, drop}
use Rattle.circuit_nodes.specs.Tests.{are_rising}
use Rattle.circuit_nodes.proofs.numbers.are_rising.Given as goal

-- the terms so far rise
abbrev pub invariant-loop-term : goal.invariant-loop-term
invariant-loop-term l = are_rising 0 l.terms ≡ are_rising l.low (drop l.term-index l.terms)
