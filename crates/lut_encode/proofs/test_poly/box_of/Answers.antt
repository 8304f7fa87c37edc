use Rattle.std.proofs.Common.{arith}
use Rattle.lut_encode.proofs.Bits.{below_64}
use Rattle.lut_encode.proofs.test_poly.box_of.Goals as goal

pub overflow_shr-result : goal.overflow_shr-result
overflow_shr-result c = below_64 c.args.width (omega (arith, c.requires, c.ranges.n.fits))

pub returns-clause-few_bits : goal.returns-clause-few_bits
returns-clause-few_bits c = below_64 c.args.width (omega (arith, c.requires, c.ranges.n.fits))
