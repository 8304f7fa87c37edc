use Rattle.std.proofs.Common.{◌≡◌, ◌<◌, length, sym, ◌∙◌, arith}
use Rattle.std.specs.List.{list_all}
use Rattle.tfhe_level.specs.Rules.{message_ranges}
use Rattle.circuit_nodes.specs.Tests.{holds_range}
use Rattle.circuit_nodes.proofs.Messages.{held_here, not_held_here}
use Rattle.circuit_nodes.proofs.nodes.Nodes.holds_messages.Goals as goal

pub loop-place-preserved : goal.loop-place-preserved
loop-place-preserved c =
    let within : c.loop-place.place < length c.args.self.now = omega (arith, c.loop-place-test.true, c.count-place-end.ensures.number) in
    held_here c.args.width c.loop-place.place c.args.self.now (list_all (holds_range c.args.width) (message_ranges c.args.self.now)) within c.loop-place.invariant (sym c.is_held_at.ensures ∙ c.if-not-is_held_at.false)

pub returns-then-not-is_held_at : goal.returns-then-not-is_held_at
returns-then-not-is_held_at c =
    let within : c.loop-place.place < length c.args.self.now = omega (arith, c.loop-place-test.true, c.count-place-end.ensures.number) in
    not_held_here c.args.width c.loop-place.place c.args.self.now (list_all (holds_range c.args.width) (message_ranges c.args.self.now)) within c.loop-place.invariant (sym c.is_held_at.ensures ∙ c.if-not-is_held_at.true)
