use Rattle.std.proofs.Common.{◌≤◌, arith}
use Rattle.noise_model.proofs.Products.{two_most, ones_most}
use Rattle.noise_model.proofs.noise.digits_noise.Goals as goal

pub returns-clause-most : goal.returns-clause-most
returns-clause-most c =
    let g = c.args.params.now.glwe in
    let few : g.ones ≤ 24576 = ones_most g.k g.log_n g.ones c.requires.glwe.k_high c.requires.glwe.log_n_high c.requires.glwe.ones in
    let one_more : c.from.result ≤ 24577 = omega (arith, c.from.ensures, few) in
    omega (arith, two_most c.from.result c.half_last_place.result 24577 4611686018427387904 one_more c.half_last_place.ensures.most)
