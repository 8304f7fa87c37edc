use Rattle.negacyclic.proofs.Polynomials as polynomials
use Rattle.negacyclic.proofs.Rotations.{product_by_rotations}
use Rattle.negacyclic.proofs.RotatedProducts as rotated
use Rattle.negacyclic.proofs.laws.product_laws.Goals as goal

pub returns : goal.returns
returns c = record {
  product_length = polynomials.product_length;
  product_words = polynomials.product_words;
  zero_product = polynomials.zero_product;
  product_commutative = polynomials.product_commutative;
  product_associative = polynomials.product_associative;
  sum_product = polynomials.sum_product c.laws.ensures.rows;
  product_sum = polynomials.product_sum c.laws.ensures.rows;
  difference_product = polynomials.difference_product c.laws.ensures.rows;
  product_difference = polynomials.product_difference c.laws.ensures.rows;
  scaled_product = polynomials.scaled_product;
  product_scaled = polynomials.product_scaled;
  product_by_rotations = product_by_rotations;
  product_zero = rotated.product_zero;
  product_one = rotated.product_one;
  product_coefficient = rotated.product_coefficient;
  first_additive = rotated.first_additive c.laws.ensures.rows;
  second_additive = rotated.second_additive c.laws.ensures.rows;
}
