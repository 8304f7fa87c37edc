use Rattle.std.proofs.Common.{[], sym, arith}
use Rattle.glwe_core.proofs.PartLoops.{length_at, adds_products}
use Rattle.glwe_core.proofs.parts.add_products.Goals as goal

pub mul_add-requires-clause-second : goal.mul_add-requires-clause-second
mul_add-requires-clause-second c =
    sym (length_at c.loop-i.parts c.args.parts.now c.args.others.now c.loop-i.i c.index-parts-i.result c.index-others-i.result
    c.requires.shape c.loop-i.auto.parts (omega arith) (c.loop-i.invariant.rest c.loop-i.i (omega arith)) c.index-others-i.is)

pub returns : goal.returns
returns c =
    let all = adds_products c.laws.ensures.products c.args.p.now c.loop-i.parts c.args.parts.now c.args.others.now c.loop-i.auto.parts c.requires.shape c.requires.degree (λ k inside. c.loop-i.invariant.done k (omega arith)) in
    record { parts = all.0; shape = all.1; room_stays = c.loop-i.invariant.room }
