use Rattle.std.proofs.Common.{ℕ, ◌+◌, ◌<◌, ◌≡◌, Option, Some, None, length, arith}
use Rattle.std.specs.Option.{IfSome}
use Rattle.ir_core.specs.Graph.{place_of}
use Rattle.ir_core.proofs.Places.{place_within}
use Rattle.ir_core.proofs.tests.expect_numbers.Invariants.{left_from}
use Rattle.ir_core.proofs.tests.expect_numbers.Goals as goal

-- the next number stands further, and before the end
fewer_left : (place : ℕ → ℕ) (count value : ℕ) (next : Option ℕ) → place value < count → IfSome next (λ n. place n ≡ place value + 1) → left_from next place count < left_from (Some value) place count
fewer_left place count value None within further = omega arith
fewer_left place count value (Some n) within further = omega arith

pub loop-at-smaller : goal.loop-at-smaller
loop-at-smaller g c =
    let list = c.args.graph.now.list in
    let there = rw c.in-Some.is at c.loop-at.invariant in
    rw c.in-Some.is (fewer_left (place_of list) (length list) c.in-Some.value c.next-at.result (place_within list c.in-Some.value there) c.next-at.ensures.place)
