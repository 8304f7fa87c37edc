-- how large powers of two and products are
use Rattle.std.proofs.Common.{◌≡◌, ℕ, ◌*◌, ◌%◌, ◌^◌, ◌<◌, ◌≤◌, arith}
use Rattle.std.proofs.Math.Nat.{mul-le-mul, pow-le-pow_right}
use Rattle.std.proofs.lemmas.Nat.{one_shl}

-- a one that is shifted
pub shifted_most : (i j : ℕ) → i ≤ j → j < 128 → 1 * 2 ^ i % 2 ^ 128 ≤ 2 ^ j
shifted_most i j le few =
    let whole : 1 * 2 ^ i % 2 ^ 128 ≡ 2 ^ i = one_shl i 128 (omega arith) in
    omega (arith, whole, pow-le-pow_right {n = 2} (omega arith) {i = i} {j = j} le)

pub two_most : (a b x y : ℕ) → a ≤ x → b ≤ y → a * b ≤ x * y
two_most a b x y p q = mul-le-mul p q

pub four_most : (a b c d x y z w : ℕ) → a ≤ x → b ≤ y → c ≤ z → d ≤ w → a * b * c * d ≤ x * y * z * w
four_most a b c d x y z w p q r s = mul-le-mul (mul-le-mul (mul-le-mul p q) r) s

pub five_most : (a b c d e x y z w v : ℕ) → a ≤ x → b ≤ y → c ≤ z → d ≤ w → e ≤ v → a * b * c * d * e ≤ x * y * z * w * v
five_most a b c d e x y z w v p q r s t = mul-le-mul (mul-le-mul (mul-le-mul (mul-le-mul p q) r) s) t

-- a cut into digits has at most 63 of them
pub level_most : (base level : ℕ) → 1 ≤ base → base * level ≤ 63 → level ≤ 63
level_most base level low bits = let more : 1 * level ≤ base * level = mul-le-mul low (let same : level ≤ level = omega arith in same) in omega arith

-- a big key has at most 24,576 ones
pub ones_most : (k log_n ones : ℕ) → k ≤ 3 → log_n ≤ 13 → ones ≤ k * 2 ^ log_n → ones ≤ 24576
ones_most k log_n ones few short le =
    let power : 2 ^ log_n ≤ 2 ^ 13 = pow-le-pow_right {n = 2} (omega arith) {i = log_n} {j = 13} short in
    let most : k * 2 ^ log_n ≤ 3 * 2 ^ 13 = mul-le-mul few power in
    omega arith
