use Rattle.std.proofs.Common.{◌≡◌, take}
use Rattle.place_pass.specs.Placing.{on_nodes}
use Rattle.place_pass.proofs.places.on_nodes.Given as goal

-- the terms so far are moved
abbrev pub invariant-loop-term : goal.invariant-loop-term
invariant-loop-term l = l.moved.items ≡ on_nodes l.leaves (take l.term-index l.terms)
