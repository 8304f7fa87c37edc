use Rattle.std.proofs.Common.{[], sym, arith}
use Rattle.glwe_core.proofs.PartLoops.{length_at, rotates}
use Rattle.glwe_core.proofs.parts.rotate.Goals as goal

pub rotate_into-requires-clause-one_length : goal.rotate_into-requires-clause-one_length
rotate_into-requires-clause-one_length c =
    sym (length_at c.loop-i.parts c.args.parts.now c.args.others.now c.loop-i.i c.index-parts-i.result c.index-others-i.result
    c.requires.shape c.loop-i.auto.parts (omega arith) (c.loop-i.invariant.rest c.loop-i.i (omega arith)) c.index-others-i.is)

pub returns : goal.returns
returns c =
    let all = rotates c.laws.ensures.rotations c.args.by c.loop-i.parts c.args.parts.now c.args.others.now c.loop-i.auto.parts c.requires.shape (λ k inside. c.loop-i.invariant.done k (omega arith)) in
    record { parts = all.0; shape = all.1 }
