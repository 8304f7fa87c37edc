use Rattle.std.proofs.Common.{◌≡◌, ap, sym, Ok, ◌∙◌}
use Rattle.circuit_nodes.proofs.Walking.{take_kept}
use Rattle.circuit_nodes.proofs.walk.LineWalk.take.Goals as goal

pub returns-in_ok-push-in-Some : goal.returns-in_ok-push-in-Some
returns-in_ok-push-in-Some c =
    ap (λ w. Ok w) (take_kept c.args.self c.self.inside.nodes c.in_ok-push-in-Some.field-0 c.self.inside.broken c.self.inside.named.items c.name.new.named.items c.args.line.now c.in-Some.op c.self.view_is c.if-broken.false c.name.ensures.named (c.in_ok-op.ensures.op ∙ ap (λ o. Ok o) c.in-Some.is) c.in_ok-push-in-Some.ensures)
