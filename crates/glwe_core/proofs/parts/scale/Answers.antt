use Rattle.std.proofs.Common.{arith}
use Rattle.word_ring.specs.Words.{word_product}
use Rattle.glwe_core.proofs.PartLoops.{maps}
use Rattle.glwe_core.proofs.parts.scale.Goals as goal

pub returns : goal.returns
returns c =
    let all = maps (word_product c.args.factor) c.loop-i.parts c.args.parts.now c.loop-i.auto.parts (λ k inside. c.loop-i.invariant.done k (omega arith)) in
    record { parts = all.parts; shape = all.shape; words = all.words }
