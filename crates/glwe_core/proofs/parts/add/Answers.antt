use Rattle.std.proofs.Common.{arith}
use Rattle.word_ring.specs.Words.{word_sum}
use Rattle.glwe_core.proofs.PartLoops.{zips, fits_at}
use Rattle.glwe_core.proofs.parts.add.Goals as goal

pub add_assign-requires : goal.add_assign-requires
add_assign-requires c =
    fits_at c.loop-i.parts c.args.parts.now c.args.others.now c.loop-i.i c.index-parts-i.result c.index-others-i.result
    c.requires c.loop-i.auto.parts (omega arith) (c.loop-i.invariant.rest c.loop-i.i (omega arith)) c.index-others-i.is

pub returns : goal.returns
returns c =
    let all = zips word_sum c.loop-i.parts c.args.parts.now c.args.others.now c.loop-i.auto.parts c.requires (λ k inside. c.loop-i.invariant.done k (omega arith)) in
    record { parts = all.parts; shape = all.shape; words = all.words }
