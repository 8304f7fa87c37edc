use Rattle.std.proofs.Common.{◌≡◌, ◌<◌, length, ap, sym, ◌∙◌, arith}
use Rattle.circuit_nodes.specs.Walk.{Walk}
use Rattle.circuit_nodes.proofs.Unused.{unused_here, used_here, all_used}
use Rattle.circuit_nodes.proofs.walk.LineWalk.first_broken.Goals as goal

pub returns-then-is_unused-clause-place : goal.returns-then-is_unused-clause-place
returns-then-is_unused-clause-place c = unused_here c.args.self.now c.loop-place.place (omega (arith, c.loop-place-test.true, c.count-count.ensures.number, ap (λ (w : Walk). length w.operations) c.self.view_is)) c.loop-place.invariant (sym c.is_unused.ensures ∙ c.if-is_unused.true)

pub loop-place-preserved : goal.loop-place-preserved
loop-place-preserved c = used_here c.args.self.now c.loop-place.place (omega (arith, c.loop-place-test.true, c.count-count.ensures.number, ap (λ (w : Walk). length w.operations) c.self.view_is)) c.loop-place.invariant (sym c.is_unused.ensures ∙ c.if-is_unused.false)
