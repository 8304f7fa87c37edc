use Rattle.negacyclic.proofs.Sizes as sizes
use Rattle.negacyclic.proofs.laws.product_size_laws.Goals as goal

pub returns : goal.returns
returns c = record {
  product_size = sizes.product_size c.laws.ensures.sizes;
  rotation_size = sizes.rotation_size;
  rotation_bound = sizes.rotation_bound;
  product_bound = sizes.product_bound c.laws.ensures.sizes;
  product_with_bits = sizes.product_with_bits c.laws.ensures.sizes;
}
