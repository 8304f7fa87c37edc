use Rattle.std.proofs.Common.{◌≡◌, length, arith, sym, subst, ◌∙◌}
use Rattle.gadget_decomp.specs.Decomposition.{IsDecomposition}
use Rattle.gadget_decomp.proofs.Decompositions.{one}
use Rattle.gadget_decomp.proofs.Machine.{placed_digits}
use Rattle.gadget_decomp.proofs.digits.digits_into.Goals as goal

pub returns : goal.returns
returns c =
    let long : length c.loop-t.out ≡ c.args.level = c.loop-t.auto.out ∙ c.requires.places in
    subst (IsDecomposition c.args.word c.args.base c.args.level)
    (sym (placed_digits c.args.word c.args.base c.args.level c.loop-t.out long (λ k below. c.loop-t.invariant k (omega arith))))
    (one c.args.word c.args.base c.args.level c.requires.some_bits c.requires.fits)
