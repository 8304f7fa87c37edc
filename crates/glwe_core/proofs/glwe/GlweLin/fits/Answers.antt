use Rattle.std.proofs.Common.{◌≡◌, length, sym, ◌∙◌, arith}
use Rattle.glwe_core.specs.Glwe.{lengths_of}
use Rattle.glwe_core.proofs.PartLoops.{same_lengths, first_lengths}
use Rattle.glwe_core.proofs.glwe.GlweLin.fits.Goals as goal

pub returns-then-len : goal.returns-then-len
returns-then-len c =
    let xs = c.self.inside.parts.items in
    let ys = c.other.inside.parts.items in
    let here : lengths_of c.args.self.now ≡ lengths_of xs = cc in
    let there : lengths_of c.args.other.now ≡ lengths_of ys = cc in
    let number : length xs ≡ length ys = omega (arith, c.len.ensures, c.len-2.ensures, c.if-len.true) in (
      λ yes. here ∙ same_lengths xs ys _ _ c.self.invariant c.other.invariant number c.index.ensures c.index-then-len.ensures (c.fits.ensures.0 yes) ∙ sym there,
      λ e. c.fits.ensures.1 (first_lengths xs ys _ _ c.self.invariant c.other.invariant c.index.ensures c.index-then-len.ensures (sym here ∙ e ∙ there)),
    )
