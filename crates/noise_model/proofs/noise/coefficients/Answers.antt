use Rattle.std.proofs.Common.{arith}
use Rattle.noise_model.proofs.Products.{shifted_most}
use Rattle.noise_model.proofs.noise.coefficients.Goals as goal

pub returns-clause-most : goal.returns-clause-most
returns-clause-most c = shifted_most c.args.glwe.log_n 13 c.requires (omega arith)
