use Rattle.gadget_decomp.proofs.Decompositions.{one, no-other}
use Rattle.gadget_decomp.proofs.DigitSizes.{digit_facts}
use Rattle.gadget_decomp.proofs.Polynomials.{polynomial_facts}
use Rattle.gadget_decomp.proofs.laws.laws.Goals as goal

pub returns-clause-decomposition : goal.returns-clause-decomposition
returns-clause-decomposition _ = record {
  one = λ word base level is. one word base level is.some_bits is.fits;
  no_other = λ word base level digits others is. no-other word base level is.some_bits is.fits digits others;
}

pub returns-clause-digits : goal.returns-clause-digits
returns-clause-digits c = digit_facts c.laws.ensures.ring c.laws.ensures.rounding

pub returns-clause-polynomials : goal.returns-clause-polynomials
returns-clause-polynomials c = polynomial_facts c.laws.ensures.ring c.laws.ensures.rounding c.laws.ensures.signed c.laws.ensures.row_totals c.laws.ensures.combined
