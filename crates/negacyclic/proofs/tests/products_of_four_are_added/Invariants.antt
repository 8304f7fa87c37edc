use Rattle.std.proofs.Common.{◌≡◌}
use Rattle.negacyclic.proofs.tests.products_of_four_are_added.Given as goal

-- the room keeps its size
abbrev pub invariant-loop-p : goal.invariant-loop-p
invariant-loop-p g l = l.scratch ≡ 2
