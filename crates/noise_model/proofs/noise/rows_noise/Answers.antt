use Rattle.std.proofs.Common.{◌≤◌, arith}
use Rattle.noise_model.proofs.Products.{four_most, five_most, level_most}
use Rattle.noise_model.proofs.noise.rows_noise.Goals as goal

pub overflow_mul-result-2 : goal.overflow_mul-result-2
overflow_mul-result-2 c =
    let boot = c.args.params.now.boot in
    let parts : c.from.result ≤ 4 = omega (arith, c.from.ensures, c.requires.glwe.k_high) in
    let level : c.from-2.result ≤ 63 = omega (arith, c.from-2.ensures, level_most boot.base boot.level c.requires.boot.base_low c.requires.boot.bits) in
    omega (arith, four_most c.from.result c.from-2.result c.coefficients.result c.greatest_digit.result 4 63 8192 1073741824 parts level c.coefficients.ensures.most c.greatest_digit.ensures.most)

pub overflow_mul-result-3 : goal.overflow_mul-result-3
overflow_mul-result-3 c =
    let boot = c.args.params.now.boot in
    let parts : c.from.result ≤ 4 = omega (arith, c.from.ensures, c.requires.glwe.k_high) in
    let level : c.from-2.result ≤ 63 = omega (arith, c.from-2.ensures, level_most boot.base boot.level c.requires.boot.base_low c.requires.boot.bits) in
    let error : c.from-3.result ≤ 4611686018427387904 = omega (arith, c.from-3.ensures, c.requires.glwe.error) in
    omega (arith, five_most c.from.result c.from-2.result c.coefficients.result c.greatest_digit.result c.from-3.result 4 63 8192 1073741824 4611686018427387904 parts level c.coefficients.ensures.most c.greatest_digit.ensures.most error)

pub returns-clause-most : goal.returns-clause-most
returns-clause-most c =
    let boot = c.args.params.now.boot in
    let parts : c.from.result ≤ 4 = omega (arith, c.from.ensures, c.requires.glwe.k_high) in
    let level : c.from-2.result ≤ 63 = omega (arith, c.from-2.ensures, level_most boot.base boot.level c.requires.boot.base_low c.requires.boot.bits) in
    let error : c.from-3.result ≤ 4611686018427387904 = omega (arith, c.from-3.ensures, c.requires.glwe.error) in
    omega (arith, five_most c.from.result c.from-2.result c.coefficients.result c.greatest_digit.result c.from-3.result 4 63 8192 1073741824 4611686018427387904 parts level c.coefficients.ensures.most c.greatest_digit.ensures.most error)
