-- How many words files have at most.
use Rattle.std.proofs.Common.{ℕ, ◌*◌, ◌^◌, ◌≤◌, arith, mul-le-mul}
use Rattle.std.proofs.Math.Nat.{pow-le-pow_right}

pub coefficients_few : (log_n : ℕ) → log_n ≤ 13 → 2 ^ log_n ≤ 2 ^ 13
coefficients_few log_n high = pow-le-pow_right {n = 2} (omega arith) {i = log_n} {j = 13} high

pub switch_dimension : (k degree : ℕ) → k ≤ 3 → degree ≤ 8192 → k * degree ≤ 24576
switch_dimension k degree k_high degree_high = mul-le-mul k_high degree_high

pub switch_rows : (k degree level : ℕ) → k ≤ 3 → degree ≤ 8192 → level ≤ 63 → k * degree * level ≤ 1548288
switch_rows k degree level k_high degree_high level_high = mul-le-mul (switch_dimension k degree k_high degree_high) level_high

pub switch_few : (k degree level words : ℕ) → k ≤ 3 → degree ≤ 8192 → level ≤ 63 → words ≤ 1025 → k * degree * level * words ≤ 1586995200
switch_few k degree level words k_high degree_high level_high words_high = mul-le-mul (switch_rows k degree level k_high degree_high level_high) words_high

pub boot_parts : (n parts : ℕ) → n ≤ 1024 → parts ≤ 4 → n * (parts * parts) ≤ 16384
boot_parts n parts n_high parts_high = mul-le-mul n_high (mul-le-mul parts_high parts_high)

pub boot_rows : (n parts level : ℕ) → n ≤ 1024 → parts ≤ 4 → level ≤ 63 → n * (parts * parts) * level ≤ 1032192
boot_rows n parts level n_high parts_high level_high = mul-le-mul (boot_parts n parts n_high parts_high) level_high

pub boot_few : (n parts level degree : ℕ) → n ≤ 1024 → parts ≤ 4 → level ≤ 63 → degree ≤ 8192 → n * (parts * parts) * level * degree ≤ 8455716864
boot_few n parts level degree n_high parts_high level_high degree_high = mul-le-mul (boot_rows n parts level n_high parts_high level_high) degree_high

pub cipher_few : (number words : ℕ) → number ≤ 64 → words ≤ 24577 → number * words ≤ 1572928
cipher_few number words number_high words_high = mul-le-mul number_high words_high
