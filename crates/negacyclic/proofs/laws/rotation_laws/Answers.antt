use Rattle.negacyclic.proofs.Rotations as rotations
use Rattle.negacyclic.proofs.RotatedProducts as rotated
use Rattle.negacyclic.proofs.laws.rotation_laws.Goals as goal

pub returns : goal.returns
returns c = record {
  monomial_length = rotations.monomial_length;
  monomial_none = rotations.monomial_none;
  monomial_product = rotations.monomial_product;
  monomial_turned = rotations.monomial_turned;
  rotation_length = rotations.rotation_length;
  rotation_words = rotations.rotation_words;
  rotation_none = rotations.rotation_none;
  rotation_rotation = rotations.rotation_rotation;
  rotation_moves = rotations.rotation_moves;
  rotation_is = rotated.rotation_is;
  rotation_residue = rotated.rotation_residue;
  rotation_half = rotated.rotation_half;
  rotation_zero = rotated.rotation_zero;
  rotation_sum = rotated.rotation_sum c.laws.ensures.rows;
  rotation_difference = rotated.rotation_difference c.laws.ensures.rows;
  rotation_scaled = rotated.rotation_scaled;
  rotation_product = rotated.rotation_product;
  product_rotation = rotated.product_rotation;
  rotation_additive = rotated.rotation_additive c.laws.ensures.rows;
}
