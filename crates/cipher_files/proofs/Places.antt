-- Where rows stand in files, and how many words there are.
use Rattle.std.proofs.Common.{◌≡◌, ℕ, suc, ◌+◌, ◌*◌, ◌%◌, ◌^◌, ◌≤◌, ◌<◌, ap, arith, mul-le-mul, ◌∙◌}
use Rattle.std.proofs.Math.Nat.{mod-eq_of_lt, pow-le-pow_right}
use Rattle.fhe_params.specs.declared.params.Gadget.{Gadget}
use Rattle.fhe_params.specs.declared.params.Params.{Params}
use Rattle.fhe_params.specs.Params.{IsGadget, IsParams}
use Rattle.fhe_params.specs.Cost.{boot_key_words}
use Rattle.cipher_files.specs.EvalFile.{boot_place, rows_of_bit, row_words, boot_row_at}

pub level_small : (g : Gadget) → IsGadget g → g.level ≤ 63
level_small g is =
    let here : g.level ≤ g.level = omega arith in
    let product : 1 * g.level ≤ g.base * g.level = mul-le-mul is.base_low here in
    omega (arith, product, is.bits)

pub coefficients_few : (log_n : ℕ) → log_n ≤ 13 → 2 ^ log_n ≤ 8192
coefficients_few log_n high = pow-le-pow_right {n = 2} (omega arith) {i = log_n} {j = 13} high

pub switch_few : (dim level words : ℕ) → dim ≤ 24576 → level ≤ 63 → words ≤ 1025 → dim * level * words ≤ 1586995200
switch_few dim level words dim_high level_high words_high = mul-le-mul (mul-le-mul dim_high level_high) words_high

-- the words of a row are few
pub boot_row_small : (p : Params) → IsParams p → row_words p ≤ 32768
boot_row_small p is =
    let parts : p.glwe.k + 1 ≤ 4 = omega (arith, is.glwe.k_high) in
    mul-le-mul parts (coefficients_few p.glwe.log_n is.glwe.log_n_high)

-- there are few rows
pub boot_rows_few : (p : Params) → IsParams p → p.lwe.n * rows_of_bit p ≤ 258048
boot_rows_few p is =
    let parts : p.glwe.k + 1 ≤ 4 = omega (arith, is.glwe.k_high) in
    mul-le-mul is.lwe.n_high (mul-le-mul parts (level_small p.boot is.boot))

-- the number of coefficients, as code shifts it
pub shifted_one : (log_n : ℕ) → log_n ≤ 13 → 1 * 2 ^ log_n % 2 ^ 64 ≡ 2 ^ log_n
shifted_one log_n few =
    let most : 2 ^ log_n ≤ 8192 = coefficients_few log_n few in
    let same : 1 * 2 ^ log_n ≡ 2 ^ log_n = omega arith in
    ap (λ (m : ℕ). m % 2 ^ 64) same ∙ mod-eq_of_lt (omega (arith, most))

-- each row ends before the boot key does
pub boot_row_inside : (p : Params) (r : ℕ) → r < p.lwe.n * rows_of_bit p → boot_row_at p r + row_words p ≤ boot_place p + boot_key_words p
boot_row_inside p r below =
    let words : ℕ = row_words p in
    let here : words ≤ words = omega arith in
    let rows : suc r * words ≤ p.lwe.n * rows_of_bit p * words = mul-le-mul (omega (arith, below)) here in
    omega (arith, rows)
