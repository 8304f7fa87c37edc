use Rattle.std.proofs.Common.{length, get_or, arith, ap, sym, ◌∙◌}
use Rattle.word_ring.specs.Signed.{word_of}
use Rattle.gadget_decomp.specs.Decomposition.{digit_of, digits_of}
use Rattle.gadget_decomp.proofs.Decompositions.{one}
use Rattle.gadget_decomp.proofs.Machine.{mapped, placed_digit}
use Rattle.gadget_decomp.proofs.digits.poly_digit_into.Goals as goal

pub returns-clause-digits : goal.returns-clause-digits
returns-clause-digits c = λ k within.
    let word = get_or c.args.source.now k 0 in (
      digits_of word c.args.base c.args.level,
      one word c.args.base c.args.level c.requires.some_bits c.requires.fits,
      c.loop-at.invariant.each k (omega (arith, ap length c.coeffs-word-items.ensures)) ∙ ap word_of (sym (placed_digit word c.args.base c.args.level c.args.t c.requires.first c.requires.last)),
    )

pub returns-clause-words : goal.returns-clause-words
returns-clause-words c =
    mapped (λ word. word_of (digit_of word c.args.base c.args.level c.args.t)) c.loop-at.out c.args.source.now c.loop-at.invariant.long
    (λ k within. c.loop-at.invariant.each k (omega (arith, ap length c.coeffs-word-items.ensures)))
