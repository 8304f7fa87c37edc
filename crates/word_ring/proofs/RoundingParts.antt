-- Rounding and switching.
use Rattle.std.proofs.Common.{◌≡◌, ℕ, ◌+◌, ◌-◌, ◌*◌, ◌/◌, ◌%◌, ◌^◌, ◌<◌, ◌≤◌, arith, ap, sym, ◌∙◌}
use Rattle.std.proofs.Math.Nat.{mul-mod_left, pow-le-pow_right}
use Rattle.std.proofs.lemmas.Nat.{pow-add, pow_pos, mod_below, div-add-mod', field_of}
use lib.Pow.{mod-mod-pow}
use Rattle.word_ring.specs.Words.{word_difference, size}
use Rattle.word_ring.specs.Rounding.{rounded, rounding_step, mod_switched, RoundingLaws, SwitchingLaws}

-- a power of 2 as the product of two
pub pow_parts : (n i j : ℕ) → n ≡ i + j → 2 ^ n ≡ 2 ^ i * 2 ^ j
pow_parts n i j e = ap (λ k. 2 ^ k) e ∙ pow-add 2 i j

-- a power of 2 is twice the one below
pub pow_twice : (n j : ℕ) → n ≡ j + 1 → 2 ^ n ≡ 2 * 2 ^ j
pow_twice n j e = omega (arith, pow_parts n j 1 e)

-- a power of 2 has half the power below
pub pow_half : (n j : ℕ) → n ≡ j + 1 → 2 ^ n / 2 ≡ 2 ^ j
pow_half n j e = omega (arith, pow_twice n j e)

-- what is left by a higher power of 2, and then by a lower one, is what the lower one leaves
pub left_twice : (x k n : ℕ) → k ≤ n → x % 2 ^ n % 2 ^ k ≡ x % 2 ^ k
left_twice x k n below =
    let e : n ≡ n - k + k = omega arith in
    ap (λ m. x % 2 ^ m % 2 ^ k) e ∙ mod-mod-pow x (n - k) k

-- to cut the low bits of what is left modulo 2^64 is to cut those of the number
pub cut_residue : (x k : ℕ) → k ≤ 64 → x % 2 ^ 64 / 2 ^ k * 2 ^ k % 2 ^ 64 ≡ x / 2 ^ k * 2 ^ k % 2 ^ 64
cut_residue x k below =
    omega (arith, div-add-mod' (x % 2 ^ 64) (2 ^ k), div-add-mod' x (2 ^ k), left_twice x k 64 below)

-- two numbers that leave the same have the same quotient by a power of 2, modulo what is left of 2^64
pub quotient_residue : (x k : ℕ) → k ≤ 64 → x % 2 ^ 64 / 2 ^ k ≡ x / 2 ^ k % 2 ^ (64 - k)
quotient_residue x k below =
    let e : 64 ≡ 64 - k + k = omega arith in
    ap (λ m. x % 2 ^ m / 2 ^ k) e ∙ field_of x (64 - k) k

-- a multiple of a step that stands below w and half a step, by less than a step, is within half a step
pub cut_error : (w half step cut left : ℕ) → step ≡ 2 * half → half ≤ 2 ^ 62 → (cut + left) % 2 ^ 64 ≡ (w + half) % 2 ^ 64 → left < step → size (word_difference cut w) ≤ half
cut_error w half step cut left e small parts below = omega arith

-- and w and half a step lie less than a step above it
pub cut_window : (w half step cut left : ℕ) → step ≡ 2 * half → half ≤ 2 ^ 62 → (cut + left) % 2 ^ 64 ≡ (w + half) % 2 ^ 64 → left < step → word_difference (w + half) cut < step
cut_window w half step cut left e small parts below = omega arith

-- a product of numbers from 1 is from 1
pub some_product : (a b : ℕ) → 1 ≤ a → 1 ≤ b → 1 ≤ a * b
some_product a b p q = grind arith

-- the facts of one rounding: half a step is 2^(63 - n), and what is cut adds up
pub half_step : (n : ℕ) → n ≤ 63 → 2 ^ (64 - n) / 2 ≡ 2 ^ (63 - n)
half_step n below = pow_half (64 - n) (63 - n) (omega arith)

-- a greater exponent gives a greater power
pub pow_up : (i j : ℕ) → i ≤ j → 2 ^ i ≤ 2 ^ j
pow_up i j below = pow-le-pow_right (omega arith) below

-- a power of 2 up to the 62nd is no larger than that
pub pow_most : (k : ℕ) → k ≤ 62 → 2 ^ k ≤ 2 ^ 62
pow_most k below = pow_up k 62 below

-- the rounded word and what was cut off make w and half a step
rounded_parts : (w n : ℕ) → n ≤ 63 → let step : ℕ = 2 ^ (64 - n) in ((w + step / 2) / step * step % 2 ^ 64 + (w + step / 2) % step) % 2 ^ 64 ≡ (w + 2 ^ (63 - n)) % 2 ^ 64
rounded_parts w n fits =
    let step : ℕ = 2 ^ (64 - n) in
    omega (arith, half_step n fits, div-add-mod' (w + step / 2) step)

pub rounding-error : (w base level : ℕ) → 1 ≤ base → 1 ≤ level → base * level ≤ 63 → size (word_difference (rounded w base level) w) ≤ 2 ^ (63 - base * level)
rounding-error w base level some_bits some_digits fits =
    let n : ℕ = base * level in
    let some : 1 ≤ n = some_product base level some_bits some_digits in
    let step : ℕ = 2 ^ (64 - n) in
    cut_error w (2 ^ (63 - n)) step (rounded w base level) ((w + step / 2) % step)
    (pow_twice (64 - n) (63 - n) (omega arith)) (pow_most (63 - n) (omega arith))
    (rounded_parts w n fits) (mod_below (w + step / 2) step (pow_pos (64 - n)))

pub rounding-window : (w base level : ℕ) → 1 ≤ base → 1 ≤ level → base * level ≤ 63 → word_difference (w + 2 ^ (63 - base * level)) (rounded w base level) < rounding_step base level
rounding-window w base level some_bits some_digits fits =
    let n : ℕ = base * level in
    let some : 1 ≤ n = some_product base level some_bits some_digits in
    let step : ℕ = 2 ^ (64 - n) in
    cut_window w (2 ^ (63 - n)) step (rounded w base level) ((w + step / 2) % step)
    (pow_twice (64 - n) (63 - n) (omega arith)) (pow_most (63 - n) (omega arith))
    (rounded_parts w n fits) (mod_below (w + step / 2) step (pow_pos (64 - n)))

pub rounded-multiple : (w base level : ℕ) → base * level ≤ 63 → rounded w base level % rounding_step base level ≡ 0
rounded-multiple w base level fits =
    let step : ℕ = 2 ^ (64 - base * level) in
    left_twice ((w + step / 2) / step * step) (64 - base * level) 64 (omega arith) ∙ mul-mod_left ((w + step / 2) / step) step

pub rounded-residue : (w base level : ℕ) → base * level ≤ 63 → rounded (w % 2 ^ 64) base level ≡ rounded w base level
rounded-residue w base level fits =
    let n : ℕ = 64 - base * level in
    let h : ℕ = 2 ^ n / 2 in
    sym (cut_residue (w % 2 ^ 64 + h) n (omega arith))
    ∙ ap (λ x. x / 2 ^ n * 2 ^ n % 2 ^ 64) (let same : (w % 2 ^ 64 + h) % 2 ^ 64 ≡ (w + h) % 2 ^ 64 = omega arith in same)
    ∙ cut_residue (w + h) n (omega arith)

pub roundings : RoundingLaws
roundings = record {
  rounding_error = rounding-error;
  rounding_window = rounding-window;
  rounded_multiple = λ w base level _ _ fits. rounded-multiple w base level fits;
  rounded_word = λ w base level. mod_below ((w + rounding_step base level / 2) / rounding_step base level * rounding_step base level) (2 ^ 64) (pow_pos 64);
  rounded_residue = λ w base level _ _ fits. rounded-residue w base level fits;
}

-- the places of a circle are what is left of a word after its low bits
places : (log_n : ℕ) → log_n ≤ 13 → 2 ^ (64 - (63 - log_n)) ≡ 2 * 2 ^ log_n
places log_n below = pow_twice (64 - (63 - log_n)) log_n (omega arith)

pub switched_is : (w log_n : ℕ) → log_n ≤ 13 → (w + 2 ^ (62 - log_n)) % 2 ^ 64 / 2 ^ (63 - log_n) ≡ mod_switched w log_n
switched_is w log_n below =
    quotient_residue (w + 2 ^ (62 - log_n)) (63 - log_n) (omega arith)
    ∙ ap (λ m. (w + 2 ^ (62 - log_n)) / 2 ^ (63 - log_n) % m) (places log_n below)

pub switched-below : (w log_n : ℕ) → mod_switched w log_n < 2 * 2 ^ log_n
switched-below w log_n = mod_below ((w + 2 ^ (62 - log_n)) / 2 ^ (63 - log_n)) (2 * 2 ^ log_n) (omega (arith, pow_pos log_n))

pub switched_small : (w log_n : ℕ) → log_n ≤ 13 → mod_switched w log_n < 2 ^ 32
switched_small w log_n below = omega (arith, switched-below w log_n, pow_up log_n 13 below)

pub switching-error : (w log_n : ℕ) → log_n ≤ 13 → size (word_difference (mod_switched w log_n * 2 ^ (63 - log_n)) w) ≤ 2 ^ (62 - log_n)
switching-error w log_n below =
    let k : ℕ = 63 - log_n in
    let x : ℕ = (w + 2 ^ (62 - log_n)) % 2 ^ 64 in
    let parts : mod_switched w log_n * 2 ^ k + x % 2 ^ k ≡ x = ap (λ q. q * 2 ^ k + x % 2 ^ k) (sym (switched_is w log_n below)) ∙ div-add-mod' x (2 ^ k) in
    cut_error w (2 ^ (62 - log_n)) (2 ^ k) (mod_switched w log_n * 2 ^ k) (x % 2 ^ k)
    (pow_twice k (62 - log_n) (omega arith)) (pow_most (62 - log_n) (omega arith))
    (omega (arith, parts)) (mod_below x (2 ^ k) (pow_pos k))

pub switchings : SwitchingLaws
switchings = record { switching_error = switching-error; switched_below = switched-below }
