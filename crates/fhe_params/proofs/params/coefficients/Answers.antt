use Rattle.std.proofs.Common.{◌≡◌, ◌≤◌, ◌*◌, ◌%◌, ◌^◌, arith}
use Rattle.std.proofs.lemmas.Nat.{one_shl}
use Rattle.fhe_params.proofs.KeySizes.{coefficients_few}
use Rattle.fhe_params.proofs.params.coefficients.Goals as goal

pub returns-clause-most : goal.returns-clause-most
returns-clause-most c =
    let log_n = c.args.glwe.now.log_n in
    let few : 2 ^ log_n ≤ 2 ^ 13 = coefficients_few log_n c.requires.log_n_high in
    let whole : 1 * 2 ^ log_n % 2 ^ 32 ≡ 2 ^ log_n = one_shl log_n 32 (omega (arith, c.requires.log_n_high)) in
    omega (arith, few, whole)
