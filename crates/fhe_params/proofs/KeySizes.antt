-- How large keys and costs are at most.
use Rattle.std.proofs.Common.{◌≡◌, ℕ, ◌+◌, ◌*◌, ◌^◌, ◌≤◌, ◌<◌, arith, mul-le-mul}
use Rattle.std.proofs.Math.Nat.{pow-le-pow_right}
use Rattle.fhe_params.specs.declared.params.Gadget.{Gadget}
use Rattle.fhe_params.specs.Params.{IsGadget}

pub level_small : (g : Gadget) → IsGadget g → g.level ≤ 63
level_small g is =
    let here : g.level ≤ g.level = omega arith in
    let product : 1 * g.level ≤ g.base * g.level = mul-le-mul is.base_low here in
    omega (arith, product, is.bits)

pub coefficients_few : (log_n : ℕ) → log_n ≤ 13 → 2 ^ log_n ≤ 2 ^ 13
coefficients_few log_n high = pow-le-pow_right {n = 2} (omega arith) {i = log_n} {j = 13} high

pub switch_digits : (dim level : ℕ) → dim ≤ 24576 → level ≤ 63 → dim * level ≤ 1548288
switch_digits dim level dim_high level_high = mul-le-mul dim_high level_high

pub switch_words : (dim level words : ℕ) → dim ≤ 24576 → level ≤ 63 → words ≤ 1025 → dim * level * words < 2 ^ 31
switch_words dim level words dim_high level_high words_high =
    let most : dim * level * words ≤ 1548288 * 1025 = mul-le-mul (switch_digits dim level dim_high level_high) words_high in
    omega arith

pub boot_rows : (n parts level : ℕ) → n ≤ 1024 → parts ≤ 4 → level ≤ 63 → n * (parts * parts) * level ≤ 1032192
boot_rows n parts level n_high parts_high level_high = mul-le-mul (mul-le-mul n_high (mul-le-mul parts_high parts_high)) level_high

pub boot_words : (n parts level words : ℕ) → n ≤ 1024 → parts ≤ 4 → level ≤ 63 → words ≤ 8192 → n * (parts * parts) * level * words < 2 ^ 33
boot_words n parts level words n_high parts_high level_high words_high =
    let most : n * (parts * parts) * level * words ≤ 1032192 * 8192 = mul-le-mul (boot_rows n parts level n_high parts_high level_high) words_high in
    omega arith

pub part_small : (weight count words : ℕ) → weight ≤ 2 ^ 20 → count < 2 ^ 64 → words < 2 ^ 37 → weight * count * words ≤ 2 ^ 121
part_small weight count words weight_high count_high words_high =
    let count_most : count ≤ 2 ^ 64 = omega arith in
    let words_most : words ≤ 2 ^ 37 = omega arith in
    mul-le-mul (mul-le-mul weight_high count_most) words_most
