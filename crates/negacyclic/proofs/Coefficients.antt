-- Products of polynomials as functions from places to numbers, modulo 2^64.
use Rattle.std.proofs.Common.{◌≡◌, ⊎_elim, ℕ, ◌+◌, ◌-◌, ◌*◌, ◌%◌, ◌^◌, ◌<◌, ◌≤◌, arith, ap, sym, refl, ◌∙◌, add_comm, add_assoc, one-mul, mul_comm, mul_assoc, zero-mul}
use Rattle.std.proofs.Math.Nat.{add-mul, mod-add-mod, mod-lt}
use Rattle.std.proofs.lemmas.Nat.{mul-mod}
use Rattle.negacyclic.specs.Product.{sum_below, monomial_coefficient}
use Rattle.negacyclic.proofs.Sums.{sum-same, sum-congruent, sum-add, sum-scaled, sum-regroup, sum-single}
use Rattle.negacyclic.proofs.Signs.{minus_one, sign-here, sign-turned, sign-none, sign-sum, mod_once}

-- coefficient c of X^a * p
abbrev pub shift : ℕ → ℕ → (ℕ → ℕ) → ℕ → ℕ
shift n a p c = sum_below n (λ k. monomial_coefficient n (a + k) c * p k)

-- coefficient c of the sum over i of p_i * X^i * q
abbrev pub product_at : ℕ → (ℕ → ℕ) → (ℕ → ℕ) → ℕ → ℕ
product_at n p q c = sum_below n (λ i. p i * shift n i q c)

-- factors that are equal modulo 2^64
pub mul-congruent : (a b c d : ℕ) → a % 2 ^ 64 ≡ b % 2 ^ 64 → c % 2 ^ 64 ≡ d % 2 ^ 64 → (a * c) % 2 ^ 64 ≡ (b * d) % 2 ^ 64
mul-congruent a b c d e f = mul-mod a c (2 ^ 64) ∙ ap (λ x. (x * (c % 2 ^ 64)) % 2 ^ 64) e ∙ ap (λ x. (b % 2 ^ 64 * x) % 2 ^ 64) f ∙ sym (mul-mod b d (2 ^ 64))

pub shift-congruent : (n a : ℕ) (p q : ℕ → ℕ) (c : ℕ) → ((k : ℕ) → k < n → p k % 2 ^ 64 ≡ q k % 2 ^ 64) → shift n a p c % 2 ^ 64 ≡ shift n a q c % 2 ^ 64
shift-congruent n a p q c h =
    sum-congruent n (λ k. monomial_coefficient n (a + k) c * p k) (λ k. monomial_coefficient n (a + k) c * q k)
    (λ k l. mul-congruent (monomial_coefficient n (a + k) c) (monomial_coefficient n (a + k) c) (p k) (q k) refl (h k l))

pub product-congruent : (n : ℕ) (p q r s : ℕ → ℕ) (c : ℕ) → ((k : ℕ) → k < n → p k % 2 ^ 64 ≡ q k % 2 ^ 64) → ((k : ℕ) → k < n → r k % 2 ^ 64 ≡ s k % 2 ^ 64) → product_at n p r c % 2 ^ 64 ≡ product_at n q s c % 2 ^ 64
product-congruent n p q r s c f g =
    sum-congruent n (λ i. p i * shift n i r c) (λ i. q i * shift n i s c)
    (λ i l. mul-congruent (p i) (q i) (shift n i r c) (shift n i s c) (f i l) (shift-congruent n i r s c g))

-- the factors may change places
pub product-comm : (n : ℕ) (p q : ℕ → ℕ) (c : ℕ) → product_at n p q c ≡ product_at n q p c
product-comm n p q c =
    sum-regroup n p (λ i j. monomial_coefficient n (i + j) c) q
    ∙ sum-same n (λ j. sum_below n (λ i. p i * monomial_coefficient n (i + j) c) * q j) (λ j. q j * shift n j p c)
    (λ j _. mul_comm (sum_below n (λ i. p i * monomial_coefficient n (i + j) c)) (q j)
    ∙ ap (λ s. q j * s)
    (sum-same n (λ i. p i * monomial_coefficient n (i + j) c) (λ i. monomial_coefficient n (j + i) c * p i)
    (λ i _. mul_comm (p i) (monomial_coefficient n (i + j) c) ∙ ap (λ t. monomial_coefficient n t c * p i) (add_comm i j))))

-- a sum in the first factor
pub product-add : (n : ℕ) (p q r : ℕ → ℕ) (c : ℕ) → product_at n (λ i. p i + q i) r c ≡ product_at n p r c + product_at n q r c
product-add n p q r c =
    sum-same n (λ i. (p i + q i) * shift n i r c) (λ i. p i * shift n i r c + q i * shift n i r c) (λ i _. add-mul (p i) (q i) (shift n i r c))
    ∙ sum-add n (λ i. p i * shift n i r c) (λ i. q i * shift n i r c)

-- a factor of the first factor
pub product-scaled : (n k : ℕ) (p q : ℕ → ℕ) (c : ℕ) → product_at n (λ i. k * p i) q c ≡ k * product_at n p q c
product-scaled n k p q c =
    sum-same n (λ i. k * p i * shift n i q c) (λ i. k * (p i * shift n i q c)) (λ i _. mul_assoc k (p i) (shift n i q c))
    ∙ sum-scaled n k (λ i. p i * shift n i q c)

-- X^a * (X^b * p) is X^(a + b) * p
pub shift-shift : (n a b : ℕ) (p : ℕ → ℕ) (c : ℕ) → 0 < n → c < n → shift n a (shift n b p) c % 2 ^ 64 ≡ shift n (a + b) p c % 2 ^ 64
shift-shift n a b p c pos inside =
    ap (λ s. s % 2 ^ 64) (sum-regroup n (λ m. monomial_coefficient n (a + m) c) (λ m k. monomial_coefficient n (b + k) m) p)
    ∙ sum-congruent n (λ k. sum_below n (λ m. monomial_coefficient n (a + m) c * monomial_coefficient n (b + k) m) * p k) (λ k. monomial_coefficient n (a + b + k) c * p k)
    (λ k _. mul-congruent (sum_below n (λ m. monomial_coefficient n (a + m) c * monomial_coefficient n (b + k) m)) (monomial_coefficient n (a + b + k) c) (p k) (p k)
    (ap (λ s. s % 2 ^ 64)
    (sum-same n (λ m. monomial_coefficient n (a + m) c * monomial_coefficient n (b + k) m) (λ m. monomial_coefficient n (b + k) m * monomial_coefficient n (m + a) c)
    (λ m _. mul_comm (monomial_coefficient n (a + m) c) (monomial_coefficient n (b + k) m) ∙ ap (λ t. monomial_coefficient n (b + k) m * monomial_coefficient n t c) (add_comm a m)))
    ∙ sign-sum n (b + k) a c pos inside
    ∙ ap (λ t. monomial_coefficient n t c % 2 ^ 64) (omega arith))
    refl)

-- the product with X^a
pub shift_by_monomial : (n a : ℕ) (p : ℕ → ℕ) (c : ℕ) → 0 < n → c < n → product_at n (monomial_coefficient n a) p c % 2 ^ 64 ≡ shift n a p c % 2 ^ 64
shift_by_monomial n a p c pos inside =
    ap (λ s. s % 2 ^ 64) (sum-regroup n (monomial_coefficient n a) (λ m k. monomial_coefficient n (m + k) c) p)
    ∙ sum-congruent n (λ k. sum_below n (λ m. monomial_coefficient n a m * monomial_coefficient n (m + k) c) * p k) (λ k. monomial_coefficient n (a + k) c * p k)
    (λ k _. mul-congruent (sum_below n (λ m. monomial_coefficient n a m * monomial_coefficient n (m + k) c)) (monomial_coefficient n (a + k) c) (p k) (p k) (sign-sum n a k c pos inside) refl)

-- X^a * X^b is X^(a + b)
pub shift-monomial : (n a b c : ℕ) → 0 < n → c < n → shift n a (monomial_coefficient n b) c % 2 ^ 64 ≡ monomial_coefficient n (a + b) c % 2 ^ 64
shift-monomial n a b c pos inside =
    ap (λ s. s % 2 ^ 64)
    (sum-same n (λ k. monomial_coefficient n (a + k) c * monomial_coefficient n b k) (λ k. monomial_coefficient n b k * monomial_coefficient n (k + a) c)
    (λ k _. mul_comm (monomial_coefficient n (a + k) c) (monomial_coefficient n b k) ∙ ap (λ t. monomial_coefficient n b k * monomial_coefficient n t c) (add_comm a k)))
    ∙ sign-sum n b a c pos inside
    ∙ ap (λ t. monomial_coefficient n t c % 2 ^ 64) (add_comm b a)

-- X^i * (q * r) is the sum over j of q_j * X^(i + j) * r
shift-product : (n i : ℕ) (q r : ℕ → ℕ) (c : ℕ) → 0 < n → c < n → shift n i (product_at n q r) c % 2 ^ 64 ≡ sum_below n (λ j. q j * shift n (i + j) r c) % 2 ^ 64
shift-product n i q r c pos inside =
    ap (λ s. s % 2 ^ 64)
    (sum-same n (λ m. monomial_coefficient n (i + m) c * product_at n q r m) (λ m. monomial_coefficient n (i + m) c * sum_below n (λ j. shift n j r m * q j))
    (λ m _. ap (λ s. monomial_coefficient n (i + m) c * s) (sum-same n (λ j. q j * shift n j r m) (λ j. shift n j r m * q j) (λ j _. mul_comm (q j) (shift n j r m))))
    ∙ sum-regroup n (λ m. monomial_coefficient n (i + m) c) (λ m j. shift n j r m) q)
    ∙ sum-congruent n (λ j. shift n i (shift n j r) c * q j) (λ j. q j * shift n (i + j) r c)
    (λ j _. mul-congruent (shift n i (shift n j r) c) (shift n (i + j) r c) (q j) (q j) (shift-shift n i j r c pos inside) refl
    ∙ ap (λ s. s % 2 ^ 64) (mul_comm (shift n (i + j) r c) (q j)))

-- and so is (X^i * q) * r
product-shift : (n i : ℕ) (q r : ℕ → ℕ) (c : ℕ) → 0 < n → c < n → product_at n (shift n i q) r c % 2 ^ 64 ≡ sum_below n (λ j. q j * shift n (i + j) r c) % 2 ^ 64
product-shift n i q r c pos inside =
    ap (λ s. s % 2 ^ 64)
    (sum-same n (λ m. shift n i q m * shift n m r c) (λ m. sum_below n (λ j. q j * monomial_coefficient n (i + j) m) * shift n m r c)
    (λ m _. ap (λ s. s * shift n m r c) (sum-same n (λ j. monomial_coefficient n (i + j) m * q j) (λ j. q j * monomial_coefficient n (i + j) m) (λ j _. mul_comm (monomial_coefficient n (i + j) m) (q j))))
    ∙ sym (sum-regroup n q (λ j m. monomial_coefficient n (i + j) m) (λ m. shift n m r c)))
    ∙ sum-congruent n (λ j. q j * sum_below n (λ m. monomial_coefficient n (i + j) m * shift n m r c)) (λ j. q j * shift n (i + j) r c)
    (λ j _. mul-congruent (q j) (q j) (product_at n (monomial_coefficient n (i + j)) r c) (shift n (i + j) r c) refl (shift_by_monomial n (i + j) r c pos inside))

-- a product may be taken in any grouping
pub product-assoc : (n : ℕ) (p q r : ℕ → ℕ) (c : ℕ) → 0 < n → c < n → product_at n (product_at n p q) r c % 2 ^ 64 ≡ product_at n p (product_at n q r) c % 2 ^ 64
product-assoc n p q r c pos inside =
    ap (λ s. s % 2 ^ 64) (sym (sum-regroup n p (λ i m. shift n i q m) (λ m. shift n m r c)))
    ∙ sum-congruent n (λ i. p i * product_at n (shift n i q) r c) (λ i. p i * shift n i (product_at n q r) c)
    (λ i _. mul-congruent (p i) (p i) (product_at n (shift n i q) r c) (shift n i (product_at n q r) c) refl
    (product-shift n i q r c pos inside ∙ sym (shift-product n i q r c pos inside)))

-- the place whose coefficient X^a * p has at place c, past N with the sign turned
abbrev pub source : ℕ → ℕ → ℕ → ℕ
source n a c = (c + (2 * n - a % (2 * n))) % (2 * n)

-- that place is below 2N, and by places on from it is c
arrives : (n a c : ℕ) → 0 < n → c < n → (source n a c < 2 * n) × ((a + source n a c) % (2 * n) ≡ c)
arrives n a c pos inside =
    let r : ℕ = a % (2 * n) in
    let t : ℕ = source n a c in
    let r_below : r < 2 * n = mod-lt a (omega arith) in
    let t_below : t < 2 * n = mod-lt (c + (2 * n - r)) (omega arith) in
    let moved : (a + t) % (2 * n) ≡ (r + t) % (2 * n) = sym (mod-add-mod a (2 * n) t) in (
      t_below,
      ⊎_elim
          (λ (low : (c + (2 * n - r) < 2 * n) × (t ≡ c + (2 * n - r))).
          ⊎_elim
          (λ (x : (r + t < 2 * n) × ((r + t) % (2 * n) ≡ r + t)). absurd (omega arith))
          (λ (x : (2 * n ≤ r + t) × ((r + t) % (2 * n) ≡ r + t - 2 * n)). omega arith)
          (mod_once (2 * n) (r + t) (omega arith) (omega arith)))
          (λ (high : (2 * n ≤ c + (2 * n - r)) × (t ≡ c + (2 * n - r) - 2 * n)).
          ⊎_elim
          (λ (x : (r + t < 2 * n) × ((r + t) % (2 * n) ≡ r + t)). omega arith)
          (λ (x : (2 * n ≤ r + t) × ((r + t) % (2 * n) ≡ r + t - 2 * n)). absurd (omega arith))
          (mod_once (2 * n) (r + t) (omega arith) (omega arith)))
          (mod_once (2 * n) (c + (2 * n - r)) (omega arith) (omega arith)),
    )

-- two places that a rotation takes to one are one
one_source : (n a k l : ℕ) → k < 2 * n → l < 2 * n → (a + k) % (2 * n) ≡ (a + l) % (2 * n) → k ≡ l
one_source n a k l p q e =
    let r : ℕ = a % (2 * n) in
    let r_below : r < 2 * n = mod-lt a (omega arith) in
    let f : (r + k) % (2 * n) ≡ (r + l) % (2 * n) = mod-add-mod a (2 * n) k ∙ e ∙ sym (mod-add-mod a (2 * n) l) in
    ⊎_elim
    (λ (x : (r + k < 2 * n) × ((r + k) % (2 * n) ≡ r + k)).
    ⊎_elim
    (λ (y : (r + l < 2 * n) × ((r + l) % (2 * n) ≡ r + l)). omega arith)
    (λ (y : (2 * n ≤ r + l) × ((r + l) % (2 * n) ≡ r + l - 2 * n)). absurd (omega arith))
    (mod_once (2 * n) (r + l) (omega arith) (omega arith)))
    (λ (x : (2 * n ≤ r + k) × ((r + k) % (2 * n) ≡ r + k - 2 * n)).
    ⊎_elim
    (λ (y : (r + l < 2 * n) × ((r + l) % (2 * n) ≡ r + l)). absurd (omega arith))
    (λ (y : (2 * n ≤ r + l) × ((r + l) % (2 * n) ≡ r + l - 2 * n)). omega arith)
    (mod_once (2 * n) (r + l) (omega arith) (omega arith)))
    (mod_once (2 * n) (r + k) (omega arith) (omega arith))

-- N places on is N places on
half_on : (n a k c : ℕ) → 0 < n → c < n → (a + k) % (2 * n) ≡ c + n → (a + (k + n)) % (2 * n) ≡ c
half_on n a k c pos inside e =
    ap (λ x. x % (2 * n)) (sym (add_assoc a k n)) ∙ sym (mod-add-mod (a + k) (2 * n) n) ∙ ap (λ x. (x + n) % (2 * n)) e
    ∙ ⊎_elim
    (λ (x : (c + n + n < 2 * n) × ((c + n + n) % (2 * n) ≡ c + n + n)). absurd (omega arith))
    (λ (x : (2 * n ≤ c + n + n) × ((c + n + n) % (2 * n) ≡ c + n + n - 2 * n)). x.1 ∙ omega arith)
    (mod_once (2 * n) (c + n + n) (omega arith) (omega arith))

-- N places before, too
half_before : (n a k c : ℕ) → 0 < n → c < n → n ≤ k → (a + k) % (2 * n) ≡ c → (a + (k - n)) % (2 * n) ≡ c + n
half_before n a k c pos inside enough e =
    let m : ℕ = k - n in
    let x : ℕ = (a + m) % (2 * n) in
    let below : x < 2 * n = mod-lt (a + m) (omega arith) in
    let back : a + m + n ≡ a + k = omega arith in
    let g : (x + n) % (2 * n) ≡ c = mod-add-mod (a + m) (2 * n) n ∙ ap (λ y. y % (2 * n)) back ∙ e in
    ⊎_elim
    (λ (y : (x + n < 2 * n) × ((x + n) % (2 * n) ≡ x + n)). absurd (omega arith))
    (λ (y : (2 * n ≤ x + n) × ((x + n) % (2 * n) ≡ x + n - 2 * n)). omega arith)
    (mod_once (2 * n) (x + n) (omega arith) (omega arith))

-- coefficient c of X^a * p, where no sign is turned
pub shift-kept : (n a : ℕ) (p : ℕ → ℕ) (c : ℕ) → 0 < n → c < n → source n a c < n → shift n a p c ≡ p (source n a c)
shift-kept n a p c pos inside low =
    let t : ℕ = source n a c in
    let term : ℕ → ℕ = λ k. monomial_coefficient n (a + k) c * p k in
    let there = arrives n a c pos inside in
    sum-single n t term low
    (λ k l d.
    ap (λ s. s * p k)
    (sign-none n (a + k) c
    (λ e. d (one_source n a k t (omega arith) there.0 (e ∙ sym there.1)))
    (λ e. let same : k + n ≡ t = one_source n a (k + n) t (omega arith) there.0 (half_on n a k c pos inside e ∙ sym there.1) in absurd (omega arith)))
    ∙ zero-mul (p k))
    ∙ ap (λ s. s * p t) (sign-here n (a + t) c there.1)
    ∙ one-mul (p t)

-- and where it is
pub shift-turned : (n a : ℕ) (p : ℕ → ℕ) (c : ℕ) → 0 < n → c < n → n ≤ source n a c → shift n a p c ≡ minus_one * p (source n a c - n)
shift-turned n a p c pos inside high =
    let t : ℕ = source n a c in
    let term : ℕ → ℕ = λ k. monomial_coefficient n (a + k) c * p k in
    let there = arrives n a c pos inside in
    sum-single n (t - n) term (omega (arith, there.0))
    (λ k l d.
    ap (λ s. s * p k)
    (sign-none n (a + k) c
    (λ e. let same : k ≡ t = one_source n a k t (omega arith) there.0 (e ∙ sym there.1) in absurd (omega arith))
    (λ e. let same : k + n ≡ t = one_source n a (k + n) t (omega arith) there.0 (half_on n a k c pos inside e ∙ sym there.1) in d (omega arith)))
    ∙ zero-mul (p k))
    ∙ ap (λ s. s * p (t - n)) (sign-turned n (a + (t - n)) c pos (half_before n a t c pos inside high there.1))
