use Rattle.std.proofs.Common.{◌-◌, arith}
use Rattle.noise_model.proofs.Products.{shifted_most}
use Rattle.noise_model.proofs.noise.greatest_digit.Goals as goal

pub returns-clause-most : goal.returns-clause-most
returns-clause-most c = shifted_most (c.args.gadget.base - 1) 30 (omega (arith, c.requires.base_high)) (omega arith)
