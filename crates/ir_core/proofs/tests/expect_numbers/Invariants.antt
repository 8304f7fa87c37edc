use Rattle.std.proofs.Common.{ℕ, ◌-◌, Option, Some, None, length}
use Rattle.std.specs.Option.{IfSome}
use Rattle.ir_core.specs.Graph.{Holds, place_of}
use Rattle.ir_core.proofs.tests.expect_numbers.Given as goal

-- how many operations are left to meet
abbrev pub left_from : Option ℕ → (ℕ → ℕ) → ℕ → ℕ
left_from None place count = 0
left_from (Some value) place count = count - place value

-- the number to meet next is there
abbrev pub invariant-loop-at : goal.invariant-loop-at
invariant-loop-at g l = IfSome l.at (Holds l.graph.list)

abbrev pub decreases-loop-at : goal.decreases-loop-at
decreases-loop-at g l = left_from l.at (place_of l.graph.list) (length l.graph.list)
