use Rattle.std.proofs.Common.{◌-◌, arith}
use Rattle.noise_model.proofs.Products.{shifted_most}
use Rattle.noise_model.proofs.constraints.half_step.Goals as goal

pub returns-clause-most : goal.returns-clause-most
returns-clause-most c = shifted_most (62 - c.args.width) 62 (omega arith) (omega arith)
