-- Finite sums.
use Rattle.std.proofs.Common.{◌≡◌, ◌≢◌, ⊎_elim, ℕ, zero, suc, ◌+◌, ◌*◌, ◌%◌, ◌^◌, ◌<◌, ◌≤◌, arith, ap, sym, refl, ◌∙◌, mul_assoc, mul-zero, zero-mul}
use Rattle.std.proofs.Math.Nat.{mul-add, add-mul}
use Rattle.std.proofs.lemmas.Bool.{cases_eq}
use Rattle.negacyclic.specs.Product.{sum_below}

-- equal terms
pub sum-same : (n : ℕ) (f g : ℕ → ℕ) → ((i : ℕ) → i < n → f i ≡ g i) → sum_below n f ≡ sum_below n g
sum-same zero f g h = refl
sum-same (suc n) f g h =
    let low : sum_below n f ≡ sum_below n g = sum-same n f g (λ i l. h i (omega arith)) in
    let last : f n ≡ g n = h n (omega arith) in
    omega arith

-- terms that are equal modulo 2^64
pub sum-congruent : (n : ℕ) (f g : ℕ → ℕ) → ((i : ℕ) → i < n → f i % 2 ^ 64 ≡ g i % 2 ^ 64) → sum_below n f % 2 ^ 64 ≡ sum_below n g % 2 ^ 64
sum-congruent zero f g h = refl
sum-congruent (suc n) f g h =
    let low : sum_below n f % 2 ^ 64 ≡ sum_below n g % 2 ^ 64 = sum-congruent n f g (λ i l. h i (omega arith)) in
    let last : f n % 2 ^ 64 ≡ g n % 2 ^ 64 = h n (omega arith) in
    omega arith

-- no term larger
pub sum-le : (n : ℕ) (f g : ℕ → ℕ) → ((i : ℕ) → i < n → f i ≤ g i) → sum_below n f ≤ sum_below n g
sum-le zero f g h = omega arith
sum-le (suc n) f g h =
    let low : sum_below n f ≤ sum_below n g = sum-le n f g (λ i l. h i (omega arith)) in
    let last : f n ≤ g n = h n (omega arith) in
    omega arith

-- terms that are all 0
pub sum-zero : (n : ℕ) (f : ℕ → ℕ) → ((i : ℕ) → i < n → f i ≡ 0) → sum_below n f ≡ 0
sum-zero zero f h = refl
sum-zero (suc n) f h =
    let low : sum_below n f ≡ 0 = sum-zero n f (λ i l. h i (omega arith)) in
    let last : f n ≡ 0 = h n (omega arith) in
    omega arith

-- terms that are 0 but for one
pub sum-single : (n m : ℕ) (f : ℕ → ℕ) → m < n → ((i : ℕ) → i < n → i ≢ m → f i ≡ 0) → sum_below n f ≡ f m
sum-single zero m f l h = absurd (omega arith)
sum-single (suc n) m f l h =
    ⊎_elim
    (λ (e : m ≡ n).
    let low : sum_below n f ≡ 0 = sum-zero n f (λ i k. h i (omega arith) (omega arith)) in
    let here : f m ≡ f n = ap f e in
    omega arith)
    (λ (e : m ≢ n).
    let low : sum_below n f ≡ f m = sum-single n m f (omega arith) (λ i k d. h i (omega arith) d) in
    let last : f n ≡ 0 = h n (omega arith) (λ d. e (sym d)) in
    omega arith)
    (cases_eq m n)

-- sums of sums
pub sum-add : (n : ℕ) (f g : ℕ → ℕ) → sum_below n (λ i. f i + g i) ≡ sum_below n f + sum_below n g
sum-add zero f g = refl
sum-add (suc n) f g = let low : sum_below n (λ i. f i + g i) ≡ sum_below n f + sum_below n g = sum-add n f g in omega arith

-- a factor goes out
pub sum-scaled : (n k : ℕ) (f : ℕ → ℕ) → sum_below n (λ i. k * f i) ≡ k * sum_below n f
sum-scaled zero k f = sym (mul-zero k)
sum-scaled (suc n) k f = ap (λ s. s + k * f n) (sum-scaled n k f) ∙ sym (mul-add k (sum_below n f) (f n))

-- and one on the right
pub sum_scaled_right : (n k : ℕ) (f : ℕ → ℕ) → sum_below n (λ i. f i * k) ≡ sum_below n f * k
sum_scaled_right zero k f = sym (zero-mul k)
sum_scaled_right (suc n) k f = ap (λ s. s + f n * k) (sum_scaled_right n k f) ∙ sym (add-mul (sum_below n f) (f n) k)

-- the order of two sums is free
pub sum-exchange : (m n : ℕ) (f : ℕ → ℕ → ℕ) → sum_below m (λ i. sum_below n (f i)) ≡ sum_below n (λ j. sum_below m (λ i. f i j))
sum-exchange zero n f = sym (sum-zero n (λ j. 0) (λ j l. refl))
sum-exchange (suc m) n f = ap (λ s. s + sum_below n (f m)) (sum-exchange m n f) ∙ sym (sum-add n (λ j. sum_below m (λ i. f i j)) (f m))

-- a row times a table times a column
pub sum-regroup : (n : ℕ) (a : ℕ → ℕ) (b : ℕ → ℕ → ℕ) (r : ℕ → ℕ) → sum_below n (λ m. a m * sum_below n (λ k. b m k * r k)) ≡ sum_below n (λ k. sum_below n (λ m. a m * b m k) * r k)
sum-regroup n a b r =
    sum-same n (λ m. a m * sum_below n (λ k. b m k * r k)) (λ m. sum_below n (λ k. a m * (b m k * r k))) (λ m l. sym (sum-scaled n (a m) (λ k. b m k * r k)))
    ∙ sum-exchange n n (λ m k. a m * (b m k * r k))
    ∙ sum-same n (λ k. sum_below n (λ m. a m * (b m k * r k))) (λ k. sum_below n (λ m. a m * b m k) * r k)
    (λ k l. sum-same n (λ m. a m * (b m k * r k)) (λ m. a m * b m k * r k) (λ m _. sym (mul_assoc (a m) (b m k) (r k))) ∙ sum_scaled_right n (r k) (λ m. a m * b m k))
