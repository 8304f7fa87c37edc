use Rattle.std.proofs.Common.{◌-◌, ◌*◌, ◌≤◌, arith}
use Rattle.std.proofs.Math.Nat.{mul-le-mul}
use Rattle.noise_model.proofs.Products.{shifted_most}
use Rattle.noise_model.proofs.noise.half_last_place.Goals as goal

pub returns-clause-most : goal.returns-clause-most
returns-clause-most c =
    let bits : 1 * 1 ≤ c.args.gadget.base * c.args.gadget.level = mul-le-mul c.requires.base_low c.requires.level_low in
    shifted_most (63 - c.args.gadget.base * c.args.gadget.level) 62 (omega arith) (omega arith)
