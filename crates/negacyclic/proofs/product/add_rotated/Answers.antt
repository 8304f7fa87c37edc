use Rattle.negacyclic.proofs.ProductLoops.{scaled_rotation}
use Rattle.negacyclic.proofs.product.add_rotated.Goals as goal

pub returns : goal.returns
returns c = cc (scaled_rotation c.laws.ensures.rows c.args.by c.args.factor c.args.into.now c.args.b.now c.requires.one_length c.requires.below)
