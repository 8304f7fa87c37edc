use Rattle.std.proofs.Common.{◌≡◌, ◌+◌, ◌^◌, replicate, subst, sym, ◌∙◌, ap, arith}
use Rattle.glwe_core.specs.Glwe.{HasShape}
use Rattle.glwe_core.proofs.PartLoops.{zeros_shape}
use Rattle.glwe_core.proofs.glwe.Glwe.new.Goals as goal

pub invariant_of-result : goal.invariant_of-result
invariant_of-result c =
    let k = c.args.k in
    let made : c.loop-part.parts.items ≡ replicate (k + 1) (replicate (2 ^ c.args.log_n) 0) =
    c.loop-part.invariant ∙ ap (λ n. replicate n (replicate (2 ^ c.args.log_n) 0)) (omega arith) in
    subst HasShape (sym made) (zeros_shape (k + 1) c.args.log_n (omega arith) (omega arith) c.requires.one_or_more c.requires.thirteen_or_less)
