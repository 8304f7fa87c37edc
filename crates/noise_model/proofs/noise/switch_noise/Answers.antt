use Rattle.std.proofs.Common.{◌≤◌, arith}
use Rattle.noise_model.proofs.Products.{two_most, four_most, level_most, ones_most}
use Rattle.noise_model.proofs.noise.switch_noise.Goals as goal

pub overflow_mul-errors-2 : goal.overflow_mul-errors-2
overflow_mul-errors-2 c =
    let switch = c.args.params.now.switch in
    let dimension : c.from.result ≤ 24576 = omega (arith, c.from.ensures, c.dimension.ensures.most) in
    let level : c.from-2.result ≤ 63 = omega (arith, c.from-2.ensures, level_most switch.base switch.level c.requires.switch.base_low c.requires.switch.bits) in
    let error : c.from-3.result ≤ 4611686018427387904 = omega (arith, c.from-3.ensures, c.requires.lwe.error) in
    omega (arith, four_most c.from.result c.from-2.result c.greatest_digit.result c.from-3.result 24576 63 1073741824 4611686018427387904 dimension level c.greatest_digit.ensures.most error)

pub overflow_add-result : goal.overflow_add-result
overflow_add-result c =
    let switch = c.args.params.now.switch in
    let g = c.args.params.now.glwe in
    let dimension : c.from.result ≤ 24576 = omega (arith, c.from.ensures, c.dimension.ensures.most) in
    let level : c.from-2.result ≤ 63 = omega (arith, c.from-2.ensures, level_most switch.base switch.level c.requires.switch.base_low c.requires.switch.bits) in
    let error : c.from-3.result ≤ 4611686018427387904 = omega (arith, c.from-3.ensures, c.requires.lwe.error) in
    let few : g.ones ≤ 24576 = ones_most g.k g.log_n g.ones c.requires.glwe.k_high c.requires.glwe.log_n_high c.requires.glwe.ones in
    let ones : c.from-4.result ≤ 24576 = omega (arith, c.from-4.ensures, few) in
    omega (
      arith,
      four_most c.from.result c.from-2.result c.greatest_digit.result c.from-3.result 24576 63 1073741824 4611686018427387904 dimension level c.greatest_digit.ensures.most error,
      two_most c.from-4.result c.half_last_place.result 24576 4611686018427387904 ones c.half_last_place.ensures.most,
    )
