-- The coefficients of the powers of X.
use Rattle.std.proofs.Common.{◌≡◌, ◌≢◌, ◌⊎◌, ⊎_elim, inl, inr, ℕ, ◌+◌, ◌-◌, ◌*◌, ◌%◌, ◌^◌, ◌<◌, ◌≤◌, arith, ap, sym, refl, ◌∙◌, cond, eqb, one-mul, zero-mul}
use Rattle.std.proofs.Math.Nat.{mod-add-mod, mod-lt, mod-eq_of_lt, add-mod_right}
use Rattle.std.proofs.lemmas.Bool.{eq-eqb, ne_eqb, cond-true, cond-false, cases_lt, cases_eq}
use Rattle.negacyclic.specs.Product.{sum_below, monomial_coefficient}
use Rattle.negacyclic.proofs.Sums.{sum-single}

-- the word of -1
abbrev pub minus_one : ℕ
minus_one = 18446744073709551615

-- a number below twice m, modulo m
pub mod_once : (m x : ℕ) → 0 < m → x < 2 * m → ((x < m) × (x % m ≡ x)) ⊎ ((m ≤ x) × (x % m ≡ x - m))
mod_once m x pos below =
    ⊎_elim
    (λ (low : x < m). inl (low, mod-eq_of_lt low))
    (λ (high : m ≤ x).
    let small : x - m < m = omega arith in
    let split : (x - m) + m ≡ x = omega arith in
    inr (high, ap (λ t. t % m) (sym split) ∙ add-mod_right (x - m) m ∙ mod-eq_of_lt small))
    (cases_lt x m)

-- a power at the place of its exponent
pub sign-here : (n k c : ℕ) → k % (2 * n) ≡ c → monomial_coefficient n k c ≡ 1
unfolding monomial_coefficient
sign-here n k c e = cond-true (eqb (k % (2 * n)) c) 1 _ (eq-eqb _ _ e)

-- at the place N before it
pub sign-turned : (n k c : ℕ) → 0 < n → k % (2 * n) ≡ c + n → monomial_coefficient n k c ≡ minus_one
unfolding monomial_coefficient
sign-turned n k c pos e =
    cond-false (eqb (k % (2 * n)) c) 1 _ (ne_eqb _ _ (λ d. absurd (omega arith))) ∙ cond-true (eqb (k % (2 * n)) (c + n)) minus_one 0 (eq-eqb _ _ e)

-- and at every other place
pub sign-none : (n k c : ℕ) → k % (2 * n) ≢ c → k % (2 * n) ≢ c + n → monomial_coefficient n k c ≡ 0
unfolding monomial_coefficient
sign-none n k c d e =
    cond-false (eqb (k % (2 * n)) c) 1 _ (ne_eqb _ _ d) ∙ cond-false (eqb (k % (2 * n)) (c + n)) minus_one 0 (ne_eqb _ _ e)

-- only the exponent modulo 2N counts
pub sign-same : (n k l c : ℕ) → k % (2 * n) ≡ l % (2 * n) → monomial_coefficient n k c ≡ monomial_coefficient n l c
unfolding monomial_coefficient
sign-same n k l c e = ap (λ r. cond (eqb r c) 1 (cond (eqb r (c + n)) minus_one 0)) e

-- N more turns the sign
pub sign-half : (n k c : ℕ) → 0 < n → c < n → monomial_coefficient n (k + n) c % 2 ^ 64 ≡ (minus_one * monomial_coefficient n k c) % 2 ^ 64
sign-half n k c pos inside =
    let r : ℕ = k % (2 * n) in
    let r_below : r < 2 * n = mod-lt k (omega arith) in
    let moved : (k + n) % (2 * n) ≡ (r + n) % (2 * n) = sym (mod-add-mod k (2 * n) n) in
    let at : (x y : ℕ) → monomial_coefficient n (k + n) c ≡ x → monomial_coefficient n k c ≡ y → x % 2 ^ 64 ≡ (minus_one * y) % 2 ^ 64 → monomial_coefficient n (k + n) c % 2 ^ 64 ≡ (minus_one * monomial_coefficient n k c) % 2 ^ 64 =
    λ x y e f g. ap (λ t. t % 2 ^ 64) e ∙ g ∙ ap (λ t. (minus_one * t) % 2 ^ 64) (sym f) in
    ⊎_elim
    (λ (low : (r + n < 2 * n) × ((r + n) % (2 * n) ≡ r + n)).
    ⊎_elim
    (λ (e : r ≡ c). at minus_one 1 (sign-turned n (k + n) c pos (moved ∙ low.1 ∙ ap (λ t. t + n) e)) (sign-here n k c e) refl)
    (λ (d : r ≢ c). at 0 0 (sign-none n (k + n) c (λ e. let f : r + n ≡ c = sym low.1 ∙ sym moved ∙ e in absurd (omega arith)) (λ e. let f : r + n ≡ c + n = sym low.1 ∙ sym moved ∙ e in d (omega arith))) (sign-none n k c d (λ e. absurd (omega arith))) refl)
    (cases_eq r c))
    (λ (high : (2 * n ≤ r + n) × ((r + n) % (2 * n) ≡ r + n - 2 * n)).
    ⊎_elim
    (λ (e : r ≡ c + n). at 1 minus_one (sign-here n (k + n) c (moved ∙ high.1 ∙ omega arith)) (sign-turned n k c pos e) refl)
    (λ (d : r ≢ c + n). at 0 0 (sign-none n (k + n) c (λ e. let f : r + n - 2 * n ≡ c = sym high.1 ∙ sym moved ∙ e in d (omega arith)) (λ e. let f : r + n - 2 * n ≡ c + n = sym high.1 ∙ sym moved ∙ e in absurd (omega arith))) (sign-none n k c (λ e. absurd (omega arith)) d) refl)
    (cases_eq r (c + n)))
    (mod_once (2 * n) (r + n) (omega arith) (omega arith))

-- X^a * X^k is X^(a + k)
pub sign-sum : (n a k c : ℕ) → 0 < n → c < n → sum_below n (λ m. monomial_coefficient n a m * monomial_coefficient n (m + k) c) % 2 ^ 64 ≡ monomial_coefficient n (a + k) c % 2 ^ 64
sign-sum n a k c pos inside =
    let r : ℕ = a % (2 * n) in
    let r_below : r < 2 * n = mod-lt a (omega arith) in
    let term : ℕ → ℕ = λ m. monomial_coefficient n a m * monomial_coefficient n (m + k) c in
    let none : (m : ℕ) → r ≢ m → r ≢ m + n → term m ≡ 0 = λ m d e. ap (λ t. t * monomial_coefficient n (m + k) c) (sign-none n a m d e) ∙ zero-mul (monomial_coefficient n (m + k) c) in
    let whole : monomial_coefficient n (r + k) c ≡ monomial_coefficient n (a + k) c = sign-same n (r + k) (a + k) c (mod-add-mod a (2 * n) k) in
    ⊎_elim
    (λ (low : r < n).
    let single : sum_below n term ≡ term r = sum-single n r term low (λ m l d. none m (λ e. d (sym e)) (λ e. absurd (omega arith))) in
    ap (λ t. t % 2 ^ 64) (single ∙ ap (λ t. t * monomial_coefficient n (r + k) c) (sign-here n a r refl) ∙ one-mul (monomial_coefficient n (r + k) c) ∙ whole))
    (λ (high : n ≤ r).
    let m : ℕ = r - n in
    let back : m + n ≡ r = omega arith in
    let single : sum_below n term ≡ term m = sum-single n m term (omega arith) (λ i l d. none i (λ e. absurd (omega arith)) (λ e. d (omega arith))) in
    let turned : m + k + n ≡ r + k = omega arith in
    ap (λ t. t % 2 ^ 64) (single ∙ ap (λ t. t * monomial_coefficient n (m + k) c) (sign-turned n a m pos (sym back)))
    ∙ sym (sign-half n (m + k) c pos inside)
    ∙ ap (λ t. t % 2 ^ 64) (ap (λ t. monomial_coefficient n t c) turned ∙ whole))
    (cases_lt r n)
