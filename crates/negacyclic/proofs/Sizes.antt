-- The distances of the coefficients to 0.
use Rattle.std.proofs.Common.{◌≡◌, ⊎_elim, ℕ, zero, suc, ◌+◌, ◌-◌, ◌*◌, ◌%◌, ◌^◌, ◌<◌, ◌≤◌, min, List, take, length, get_or, arith, ap, sym, refl, ◌∙◌, subst, add-one, zero-add, mul_comm, mul_assoc}
use Rattle.std.proofs.Math.Nat.{mod-mod, mod-lt, add-mul-mod_self_right, mul-le-mul_left}
use Rattle.std.specs.List.{All, sum, sum_by, range_with_len}
use Rattle.std.proofs.lemmas.List.{get_or_default, take_all}
use Rattle.std.proofs.lemmas.List.FromFn.{length-range_with_len, get_or-range_with_len}
use Rattle.std.proofs.lemmas.List.Sums.{sum_by_more, sum_by-le, sum_by-le-sum_by}
use Rattle.std.proofs.lemmas.Bool.{cases_lt}
use Rattle.word_ring.specs.Words.{word_sum, word_product, word_negation, size, SizeLaws}
use Rattle.negacyclic.specs.Product.{sum_below, negacyclic_product, rotation}
use Rattle.negacyclic.proofs.Sums.{sum-same, sum-le, sum_scaled_right}
use Rattle.negacyclic.proofs.Signs.{minus_one, mod_once}
use Rattle.negacyclic.proofs.Coefficients.{shift, product_at, source, product-comm, shift-kept, shift-turned}
use Rattle.negacyclic.proofs.Polynomials.{at, product_length, product_coefficient}
use Rattle.negacyclic.proofs.Rotations.{rotation_length, rotation_kept, rotation_turned}

-- the size is that of what is left modulo 2^64
size_residue : (x : ℕ) → size (x % 2 ^ 64) ≡ size x
size_residue x = ap (λ r. min r (2 ^ 64 - r)) (mod-mod x (2 ^ 64))

size_turned : (x : ℕ) → size (minus_one * x) ≡ size x
size_turned x = omega arith

-- a sum is no larger than its terms together
size_sum_below : SizeLaws → (n : ℕ) (f : ℕ → ℕ) → size (sum_below n f) ≤ sum_below n (λ i. size (f i))
size_sum_below laws zero f = omega arith
size_sum_below laws (suc n) f =
    let low : size (sum_below n f) ≤ sum_below n (λ i. size (f i)) = size_sum_below laws n f in
    let joined : size (word_sum (sum_below n f) (f n)) ≤ size (sum_below n f) + size (f n) = laws.size_sum (sum_below n f) (f n) in
    let whole : size (word_sum (sum_below n f) (f n)) ≡ size (sum_below n f + f n) = size_residue (sum_below n f + f n) in
    omega arith

-- the coefficient that a rotation puts at a place has its size
shift_size : (bound n a : ℕ) (p : ℕ → ℕ) (c : ℕ) → 0 < n → c < n → ((k : ℕ) → k < n → size (p k) ≤ bound) → size (shift n a p c) ≤ bound
shift_size bound n a p c pos inside fit =
    let t : ℕ = source n a c in
    let below : t < 2 * n = mod-lt (c + (2 * n - a % (2 * n))) (omega arith) in
    ⊎_elim
    (λ (low : t < n). subst (λ x. size x ≤ bound) (sym (shift-kept n a p c pos inside low)) (fit t low))
    (λ (high : n ≤ t).
    subst (λ x. size x ≤ bound) (sym (shift-turned n a p c pos inside high))
    (subst (λ x. x ≤ bound) (sym (size_turned (p (t - n)))) (fit (t - n) (omega arith))))
    (cases_lt t n)

-- a sum over a list, place by place
sum_by_places : (f : ℕ → ℕ) (xs : List ℕ) (k : ℕ) → k ≤ length xs → sum_by f (take k xs) ≡ sum_below k (λ j. f (get_or xs j 0))
sum_by_places f xs zero h = refl
sum_by_places f xs (suc k) h =
    let low : sum_by f (take k xs) ≡ sum_below k (λ j. f (get_or xs j 0)) = sum_by_places f xs k (omega arith) in
    let more : sum_by f (take (k + 1) xs) ≡ sum_by f (take k xs) + f (get_or xs k 0) = sum_by_more f xs k 0 (omega arith) in
    ap (λ t. sum_by f (take t xs)) (sym (add-one k)) ∙ more ∙ ap (λ t. t + f (get_or xs k 0)) low

pub sum_of_places : (f : ℕ → ℕ) (xs : List ℕ) → sum_below (length xs) (λ i. f (get_or xs i 0)) ≡ sum_by f xs
sum_of_places f xs = sym (sum_by_places f xs (length xs) (omega arith)) ∙ ap (sum_by f) (take_all (length xs) xs (omega arith))

pub sum_of_range : (f : ℕ → ℕ) (n : ℕ) → sum_below n f ≡ sum_by f (range_with_len 0 n)
sum_of_range f n =
    let numbers : List ℕ = range_with_len 0 n in
    let long : length numbers ≡ n = length-range_with_len 0 n in
    sum-same n f (λ i. f (get_or numbers i 0)) (λ i l. ap f (sym (get_or-range_with_len 0 n i 0 l ∙ zero-add i)))
    ∙ ap (λ m. sum_below m (λ i. f (get_or numbers i 0))) (sym long)
    ∙ sum_of_places f numbers

pub product_size : SizeLaws → (bound : ℕ) (p q : List ℕ) → length p ≡ length q → All (λ w. size w ≤ bound) p → All (λ w. size w ≤ bound * sum_by size q) (negacyclic_product p q)
product_size laws bound p q e fit c d h =
    let n : ℕ = length q in
    let inside : c < n = omega (arith, product_length p q) in
    let x : ℕ = product_at n (at p) (at q) c in
    let term : ℕ → ℕ = λ j. at q j * shift n j (at p) c in
    let known : get_or (negacyclic_product p q) c d ≡ x % 2 ^ 64 = get_or_default (negacyclic_product p q) c d 0 h ∙ product_coefficient n p q c e refl inside in
    let same : size (get_or (negacyclic_product p q) c d) ≡ size (sum_below n term) = ap size known ∙ size_residue x ∙ ap size (product-comm n (at p) (at q) c) in
    let terms : size (sum_below n term) ≤ sum_below n (λ j. size (term j)) = size_sum_below laws n term in
    let each : sum_below n (λ j. size (term j)) ≤ sum_below n (λ j. size (at q j) * bound) =
    sum-le n (λ j. size (term j)) (λ j. size (at q j) * bound)
    (λ j l.
    let y : ℕ = shift n j (at p) c in
    let moved : size y ≤ bound = shift_size bound n j (at p) c (omega arith) inside (λ k m. fit k 0 (omega arith)) in
    let factors : size (word_product (at q j) y) ≤ size (at q j) * size y = laws.size_product (at q j) y in
    let whole : size (word_product (at q j) y) ≡ size (term j) = size_residue (at q j * y) in
    let grown : size (at q j) * size y ≤ size (at q j) * bound = mul-le-mul_left (size (at q j)) moved in
    omega arith) in
    let total : sum_below n (λ j. size (at q j) * bound) ≡ bound * sum_by size q =
    sum_scaled_right n bound (λ j. size (at q j)) ∙ ap (λ t. t * bound) (sum_of_places size q) ∙ mul_comm (sum_by size q) bound in
    omega arith

-- a bound on the sum of the second factor's sizes
product_sized : SizeLaws → (bound total : ℕ) (p q : List ℕ) → length p ≡ length q → All (λ w. size w ≤ bound) p → sum_by size q ≤ total → All (λ w. size w ≤ bound * total) (negacyclic_product p q)
product_sized laws bound total p q e fit most c d h =
    let grown : bound * sum_by size q ≤ bound * total = mul-le-mul_left bound most in
    let below : size (get_or (negacyclic_product p q) c d) ≤ bound * sum_by size q = product_size laws bound p q e fit c d h in
    omega arith

pub product_bound : SizeLaws → (bound most : ℕ) (p q : List ℕ) → length p ≡ length q → All (λ w. size w ≤ bound) p → All (λ w. size w ≤ most) q → All (λ w. size w ≤ length q * (bound * most)) (negacyclic_product p q)
product_bound laws bound most p q e fit each c d h =
    let below : size (get_or (negacyclic_product p q) c d) ≤ bound * (length q * most) = product_sized laws bound (length q * most) p q e fit (sum_by-le size most q each) c d h in
    let same : bound * (length q * most) ≡ length q * (bound * most) = sym (mul_assoc bound (length q) most) ∙ ap (λ t. t * most) (mul_comm bound (length q)) ∙ mul_assoc (length q) bound most in
    omega arith

-- a number is no smaller than its size
size-le : (w : ℕ) → size w ≤ w
size-le w = omega arith

pub product_with_bits : SizeLaws → (bound : ℕ) (p q : List ℕ) → length p ≡ length q → All (λ w. size w ≤ bound) p → All (λ w. size w ≤ sum q * bound) (negacyclic_product p q)
product_with_bits laws bound p q e fit c d h =
    let below : size (get_or (negacyclic_product p q) c d) ≤ bound * sum q = product_sized laws bound (sum q) p q e fit (sum_by-le-sum_by size (λ w. w) q size-le) c d h in
    let same : bound * sum q ≡ sum q * bound = mul_comm bound (sum q) in
    omega arith

pub rotation_size : (by : ℕ) (p : List ℕ) (c : ℕ) → c < length p → size (get_or (rotation by p) c 0) ≡ size (get_or p ((c + (2 * length p - by % (2 * length p))) % length p) 0)
rotation_size by p c inside =
    let n : ℕ = length p in
    let x : ℕ = c + (2 * n - by % (2 * n)) in
    let t : ℕ = source n by c in
    let r_below : by % (2 * n) < 2 * n = mod-lt by (omega arith) in
    let below : t < 2 * n = mod-lt x (omega arith) in
    let folded : x % n ≡ t % n =
    ⊎_elim
    (λ (y : (x < 2 * n) × (x % (2 * n) ≡ x)). ap (λ s. s % n) (sym y.1))
    (λ (y : (2 * n ≤ x) × (x % (2 * n) ≡ x - 2 * n)).
    let split : x ≡ t + 2 * n = omega arith in
    ap (λ s. s % n) split ∙ add-mul-mod_self_right t 2 n)
    (mod_once (2 * n) x (omega arith) (omega arith)) in
    ⊎_elim
    (λ (y : (t < n) × (t % n ≡ t)).
    ap size (rotation_kept by p c inside y.0) ∙ size_residue (get_or p t 0) ∙ ap (λ s. size (get_or p s 0)) (sym (folded ∙ y.1)))
    (λ (y : (n ≤ t) × (t % n ≡ t - n)).
    let negated : size (word_negation (get_or p (t - n) 0)) ≡ size (get_or p (t - n) 0) = omega arith in
    ap size (rotation_turned by p c inside y.0) ∙ negated ∙ ap (λ s. size (get_or p s 0)) (sym (folded ∙ y.1)))
    (mod_once n t (omega arith) below)

pub rotation_bound : (bound by : ℕ) (p : List ℕ) → All (λ w. size w ≤ bound) p → All (λ w. size w ≤ bound) (rotation by p)
rotation_bound bound by p fit c d h =
    let n : ℕ = length p in
    let inside : c < n = omega (arith, rotation_length by p) in
    let place : ℕ = (c + (2 * n - by % (2 * n))) % n in
    let there : place < n = mod-lt (c + (2 * n - by % (2 * n))) (omega arith) in
    subst (λ x. x ≤ bound) (sym (ap size (get_or_default (rotation by p) c d 0 h) ∙ rotation_size by p c inside)) (fit place 0 there)
