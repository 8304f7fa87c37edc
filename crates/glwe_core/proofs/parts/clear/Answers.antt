use Rattle.std.proofs.Common.{arith}
use Rattle.glwe_core.proofs.PartLoops.{clears}
use Rattle.glwe_core.proofs.parts.clear.Goals as goal

pub returns : goal.returns
returns c =
    let all = clears c.loop-i.parts c.args.parts.now c.loop-i.auto.parts (λ k inside. c.loop-i.invariant.done k (omega arith)) in
    record { parts = all.parts; shape = all.shape; words = all.words }
