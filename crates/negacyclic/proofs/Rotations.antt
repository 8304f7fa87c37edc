-- Rotations: the products with the powers of X.
use Rattle.std.proofs.Common.{zero, suc, ◌∷◌, replicate, ◌≡◌, ⊎_elim, ℕ, ◌+◌, ◌-◌, ◌*◌, ◌%◌, ◌^◌, ◌<◌, ◌≤◌, List, ◌++◌, take, drop, length, map, get_or, arith, ap, sym, refl, ◌∙◌, cond, true, false, ltb, eqb, zero-add}
use Rattle.std.proofs.Math.Nat.{zero-mod, mod-mod, mod-eq_of_lt}
use Rattle.std.specs.List.{All}
use Rattle.std.proofs.lemmas.List.{length-replicate, get_or-replicate, ext_get_or, length-map, get_or-map, length-append, length-take, length-drop, get_or_append_left, get_or-append_right, get_or-take, get_or-drop}
use Rattle.std.proofs.lemmas.List.FromFn.{length-map-range_with_len, get_or-map-range_with_len}
use Rattle.std.proofs.lemmas.Bool.{cond-true, cond-false, cases_lt, lt-ltb, le-ltb}
use Rattle.word_ring.specs.Words.{IsWord, word_negation}
use Rattle.negacyclic.specs.Product.{sum_below, negacyclic_product, monomial, monomial_coefficient, rotation, coefficient}
use Rattle.negacyclic.proofs.Sums.{sum-congruent}
use Rattle.negacyclic.proofs.Signs.{sign-here, sign-none, minus_one, mod_once, sign-half}
use Rattle.negacyclic.proofs.Coefficients.{shift, source, mul-congruent, shift-congruent, product-congruent, shift_by_monomial, shift-monomial, shift-shift, shift-kept, shift-turned}
use Rattle.negacyclic.proofs.Polynomials.{product_words, at, product_length, product_coefficient}

pub monomial_length : (n by : ℕ) → length (monomial n by) ≡ n
unfolding monomial
monomial_length n by = length-map-range_with_len (monomial_coefficient n by) 0 n

pub get_or-monomial : (n by c : ℕ) → c < n → get_or (monomial n by) c 0 ≡ monomial_coefficient n by c
unfolding monomial
get_or-monomial n by c h = get_or-map-range_with_len (monomial_coefficient n by) 0 n c c 0 h (zero-add c)

-- it is a word
coefficient_small : (n by c : ℕ) → monomial_coefficient n by c % 2 ^ 64 ≡ monomial_coefficient n by c
unfolding monomial_coefficient
coefficient_small n by c =
    elim (eqb (by % (2 * n)) c) as (λ b. cond b 1 (cond (eqb (by % (2 * n)) (c + n)) minus_one 0) % 2 ^ 64 ≡ cond b 1 (cond (eqb (by % (2 * n)) (c + n)) minus_one 0)) [
      | true ↦ refl
      | false ↦ elim (eqb (by % (2 * n)) (c + n)) as (λ b. cond b minus_one 0 % 2 ^ 64 ≡ cond b minus_one 0) [ true ↦ refl | false ↦ refl ]
    ]

pub monomial_product : (n i j : ℕ) → 0 < n → negacyclic_product (monomial n i) (monomial n j) ≡ monomial n (i + j)
monomial_product n i j pos =
    ext_get_or 0 (negacyclic_product (monomial n i) (monomial n j)) (monomial n (i + j))
    (product_length (monomial n i) (monomial n j) ∙ monomial_length n i ∙ sym (monomial_length n (i + j)))
    (λ c h.
    let inside : c < n = omega (arith, product_length (monomial n i) (monomial n j), monomial_length n i) in
    product_coefficient n (monomial n i) (monomial n j) c (monomial_length n i) (monomial_length n j) inside
    ∙ product-congruent n (at (monomial n i)) (monomial_coefficient n i) (at (monomial n j)) (monomial_coefficient n j) c
    (λ k l. ap (λ t. t % 2 ^ 64) (get_or-monomial n i k l)) (λ k l. ap (λ t. t % 2 ^ 64) (get_or-monomial n j k l))
    ∙ shift_by_monomial n i (monomial_coefficient n j) c pos inside
    ∙ shift-monomial n i j c pos inside
    ∙ coefficient_small n (i + j) c
    ∙ sym (get_or-monomial n (i + j) c inside))

pub negation_is : (x : ℕ) → word_negation x ≡ (minus_one * x) % 2 ^ 64
negation_is x = omega arith

pub monomial_turned : (n i : ℕ) → 0 < n → monomial n (i + n) ≡ map word_negation (monomial n i)
monomial_turned n i pos =
    ext_get_or 0 (monomial n (i + n)) (map word_negation (monomial n i))
    (monomial_length n (i + n) ∙ sym (length-map (monomial n i) word_negation ∙ monomial_length n i))
    (λ c h.
    let inside : c < n = omega (arith, monomial_length n (i + n)) in
    get_or-monomial n (i + n) c inside
    ∙ sym (coefficient_small n (i + n) c)
    ∙ sign-half n i c pos inside
    ∙ sym (negation_is (monomial_coefficient n i c))
    ∙ ap word_negation (sym (get_or-monomial n i c inside))
    ∙ sym (get_or-map word_negation (monomial n i) c 0 0 (omega (arith, monomial_length n i))))

pub rotation_length : (by : ℕ) (p : List ℕ) → length (rotation by p) ≡ length p
unfolding rotation
rotation_length by p = product_length (monomial (length p) by) p ∙ monomial_length (length p) by

-- the only coefficient of 1
one_at : (n c : ℕ) → c < n → 0 % (2 * n) ≡ 0 → monomial_coefficient n 0 c ≡ get_or (1 ∷ replicate (n - 1) 0) c 0
one_at n zero inside e = sign-here n 0 0 e
one_at n (suc c) inside e =
    sign-none n 0 (suc c) (λ f. absurd (omega arith)) (λ f. absurd (omega arith)) ∙ sym (get_or-replicate (n - 1) c 0 0 (omega arith))

pub rotation_words : (by : ℕ) (p : List ℕ) → All IsWord (rotation by p)
unfolding rotation
rotation_words by p = product_words (monomial (length p) by) p

pub monomial_none : (n : ℕ) → 0 < n → monomial n 0 ≡ 1 ∷ replicate (n - 1) 0
monomial_none n pos =
    let zero_place : 0 % (2 * n) ≡ 0 = zero-mod (2 * n) in
    ext_get_or 0 (monomial n 0) (1 ∷ replicate (n - 1) 0) (monomial_length n 0 ∙ omega (arith, length-replicate {A = ℕ} (n - 1) 0))
    (λ c h.
    let inside : c < n = omega (arith, monomial_length n 0) in
    get_or-monomial n 0 c inside ∙ one_at n c inside zero_place)

-- a coefficient of a rotation
rotation_here : (by : ℕ) (p : List ℕ) (c : ℕ) → c < length p → get_or (rotation by p) c 0 ≡ shift (length p) by (at p) c % 2 ^ 64
unfolding rotation
rotation_here by p c inside =
    let n : ℕ = length p in
    product_coefficient n (monomial n by) p c (monomial_length n by) refl inside
    ∙ product-congruent n (at (monomial n by)) (monomial_coefficient n by) (at p) (at p) c (λ k l. ap (λ t. t % 2 ^ 64) (get_or-monomial n by k l)) (λ k l. refl)
    ∙ shift_by_monomial n by (at p) c (omega arith) inside

pub rotation_coefficient : (n by : ℕ) (p : List ℕ) (c : ℕ) → length p ≡ n → c < n → get_or (rotation by p) c 0 ≡ shift n by (at p) c % 2 ^ 64
rotation_coefficient n by p c e inside = rotation_here by p c (omega arith) ∙ ap (λ m. shift m by (at p) c % 2 ^ 64) e

pub rotation_rotation : (i j : ℕ) (p : List ℕ) → 0 < length p → rotation i (rotation j p) ≡ rotation (i + j) p
rotation_rotation i j p pos =
    let n : ℕ = length p in
    let q = rotation j p in
    let long : length q ≡ n = rotation_length j p in
    ext_get_or 0 (rotation i q) (rotation (i + j) p) (rotation_length i q ∙ long ∙ sym (rotation_length (i + j) p))
    (λ c h.
    let inside : c < n = omega (arith, rotation_length i q) in
    rotation_coefficient n i q c long inside
    ∙ shift-congruent n i (at q) (shift n j (at p)) c (λ k l. ap (λ t. t % 2 ^ 64) (rotation_coefficient n j p k refl l) ∙ mod-mod (shift n j (at p) k) (2 ^ 64))
    ∙ shift-shift n i j (at p) c pos inside
    ∙ sym (rotation_coefficient n (i + j) p c refl inside))

-- the coefficients in their new places
pub rotation_kept : (by : ℕ) (p : List ℕ) (c : ℕ) → c < length p → source (length p) by c < length p → get_or (rotation by p) c 0 ≡ get_or p (source (length p) by c) 0 % 2 ^ 64
rotation_kept by p c inside low = rotation_coefficient (length p) by p c refl inside ∙ ap (λ t. t % 2 ^ 64) (shift-kept (length p) by (at p) c (omega arith) inside low)

pub rotation_turned : (by : ℕ) (p : List ℕ) (c : ℕ) → c < length p → length p ≤ source (length p) by c → get_or (rotation by p) c 0 ≡ word_negation (get_or p (source (length p) by c - length p) 0)
rotation_turned by p c inside high =
    rotation_coefficient (length p) by p c refl inside ∙ ap (λ t. t % 2 ^ 64) (shift-turned (length p) by (at p) c (omega arith) inside high)
    ∙ sym (negation_is (get_or p (source (length p) by c - length p) 0))

pub rotation_moves : (by : ℕ) (p : List ℕ) (c : ℕ) → c < length p → get_or (rotation by p) c 0 ≡ coefficient p (c + (2 * length p - by % (2 * length p)))
rotation_moves by p c inside =
    let n : ℕ = length p in
    let place : ℕ = source n by c in
    let kept : ℕ = get_or p place 0 % 2 ^ 64 in
    let turned : ℕ = word_negation (get_or p (place - n) 0) in
    ⊎_elim
    (λ (low : place < n). rotation_kept by p c inside low ∙ sym (cond-true (ltb place n) kept turned (lt-ltb place n low)))
    (λ (high : n ≤ place). rotation_turned by p c inside high ∙ sym (cond-false (ltb place n) kept turned (le-ltb place n high)))
    (cases_lt place n)

-- where a coefficient comes from, by cases on the exponent
source_is : (n by c : ℕ) → c < n → by < 2 * n → (by ≤ c → source n by c ≡ c - by) × (c < by → source n by c ≡ c + 2 * n - by)
source_is n by c inside below =
    let small : by % (2 * n) ≡ by = mod-eq_of_lt below in
    let moved : source n by c ≡ (c + (2 * n - by)) % (2 * n) = ap (λ t. (c + (2 * n - t)) % (2 * n)) small in (
      λ enough.
          ⊎_elim
          (λ (x : (c + (2 * n - by) < 2 * n) × ((c + (2 * n - by)) % (2 * n) ≡ c + (2 * n - by))). absurd (omega arith))
          (λ (x : (2 * n ≤ c + (2 * n - by)) × ((c + (2 * n - by)) % (2 * n) ≡ c + (2 * n - by) - 2 * n)). omega arith)
          (mod_once (2 * n) (c + (2 * n - by)) (omega arith) (omega arith)),
      λ short.
          ⊎_elim
          (λ (x : (c + (2 * n - by) < 2 * n) × ((c + (2 * n - by)) % (2 * n) ≡ c + (2 * n - by))). omega arith)
          (λ (x : (2 * n ≤ c + (2 * n - by)) × ((c + (2 * n - by)) % (2 * n) ≡ c + (2 * n - by) - 2 * n)). absurd (omega arith))
          (mod_once (2 * n) (c + (2 * n - by)) (omega arith) (omega arith)),
    )

-- a coefficient that does not go past the end
pub rotation_above : (by : ℕ) (p : List ℕ) (c : ℕ) → c < length p → by ≤ c → get_or (rotation by p) c 0 ≡ get_or p (c - by) 0 % 2 ^ 64
rotation_above by p c inside enough =
    let from : source (length p) by c ≡ c - by = (source_is (length p) by c inside (omega arith)).0 enough in
    rotation_kept by p c inside (omega arith) ∙ ap (λ t. get_or p t 0 % 2 ^ 64) from

-- one that goes past it once
pub rotation_past : (by : ℕ) (p : List ℕ) (c : ℕ) → c < length p → c < by → by ≤ c + length p → get_or (rotation by p) c 0 ≡ word_negation (get_or p (c + length p - by) 0)
rotation_past by p c inside short once =
    let from : source (length p) by c ≡ c + 2 * length p - by = (source_is (length p) by c inside (omega arith)).1 short in
    let place : source (length p) by c - length p ≡ c + length p - by = omega arith in
    rotation_turned by p c inside (omega arith) ∙ ap (λ t. word_negation (get_or p t 0)) place

-- one that goes past it twice
pub rotation_around : (by : ℕ) (p : List ℕ) (c : ℕ) → c < length p → by < 2 * length p → c + length p < by → get_or (rotation by p) c 0 ≡ get_or p (c + 2 * length p - by) 0 % 2 ^ 64
rotation_around by p c inside below twice =
    let from : source (length p) by c ≡ c + 2 * length p - by = (source_is (length p) by c inside below).1 (omega arith) in
    rotation_kept by p c inside (omega arith) ∙ ap (λ t. get_or p t 0 % 2 ^ 64) from

pub rotation_none : (p : List ℕ) → 0 < length p → All IsWord p → rotation 0 p ≡ p
rotation_none p pos fit =
    ext_get_or 0 (rotation 0 p) p (rotation_length 0 p)
    (λ c h.
    let inside : c < length p = omega (arith, rotation_length 0 p) in
    rotation_above 0 p c inside (omega arith) ∙ let small : get_or p c 0 < 2 ^ 64 = fit c 0 inside in ap (λ t. get_or p t 0 % 2 ^ 64) (let e : c - 0 ≡ c = omega arith in e) ∙ mod-eq_of_lt small)

-- a rotation by less than N: the last coefficients come in at the front, turned
pub rotation_below : (by : ℕ) (p : List ℕ) → by < length p → All IsWord p → map word_negation (drop (length p - by) p) ++ take (length p - by) p ≡ rotation by p
rotation_below by p below fit =
    let n : ℕ = length p in
    let front : List ℕ = map word_negation (drop (n - by) p) in
    let back : List ℕ = take (n - by) p in
    let front_long : length front ≡ by = length-map (drop (n - by) p) word_negation ∙ length-drop (n - by) p ∙ omega arith in
    let back_long : length back ≡ n - by = length-take (n - by) p ∙ omega arith in
    ext_get_or 0 (front ++ back) (rotation by p) (length-append front back ∙ sym (rotation_length by p ∙ omega arith))
    (λ c h.
    let inside : c < n = omega (arith, length-append front back) in
    ⊎_elim
    (λ (short : c < by).
    let place : (n - by) + c ≡ c + n - by = omega arith in
    get_or_append_left front back 0 c (omega arith)
    ∙ get_or-map word_negation (drop (n - by) p) c 0 0 (omega (arith, length-drop (n - by) p))
    ∙ ap word_negation (get_or-drop (n - by) p c 0 ∙ ap (λ t. get_or p t 0) place)
    ∙ sym (rotation_past by p c inside short (omega arith)))
    (λ (enough : by ≤ c).
    let small : get_or p (c - by) 0 < 2 ^ 64 = fit (c - by) 0 (omega arith) in
    get_or-append_right front back by c 0 front_long enough
    ∙ get_or-take (n - by) p (c - by) 0 (omega arith)
    ∙ sym (mod-eq_of_lt small)
    ∙ sym (rotation_above by p c inside enough))
    (cases_lt c by))

-- and by N or more: the last coefficients come in at the front as they are, and the others are turned
pub rotation_from : (by : ℕ) (p : List ℕ) → length p ≤ by → by < 2 * length p → All IsWord p → drop (2 * length p - by) p ++ map word_negation (take (2 * length p - by) p) ≡ rotation by p
rotation_from by p from below fit =
    let n : ℕ = length p in
    let front : List ℕ = drop (2 * n - by) p in
    let kept : List ℕ = take (2 * n - by) p in
    let back : List ℕ = map word_negation kept in
    let front_long : length front ≡ by - n = length-drop (2 * n - by) p ∙ omega arith in
    let kept_long : length kept ≡ 2 * n - by = length-take (2 * n - by) p ∙ omega arith in
    let back_long : length back ≡ 2 * n - by = length-map kept word_negation ∙ kept_long in
    ext_get_or 0 (front ++ back) (rotation by p) (length-append front back ∙ sym (rotation_length by p ∙ omega arith))
    (λ c h.
    let inside : c < n = omega (arith, length-append front back) in
    ⊎_elim
    (λ (short : c < by - n).
    let place : (2 * n - by) + c ≡ c + 2 * n - by = omega arith in
    let small : get_or p (c + 2 * n - by) 0 < 2 ^ 64 = fit (c + 2 * n - by) 0 (omega arith) in
    get_or_append_left front back 0 c (omega arith)
    ∙ get_or-drop (2 * n - by) p c 0
    ∙ ap (λ t. get_or p t 0) place
    ∙ sym (mod-eq_of_lt small)
    ∙ sym (rotation_around by p c inside below (omega arith)))
    (λ (enough : by - n ≤ c).
    let place : c - (by - n) ≡ c + n - by = omega arith in
    get_or-append_right front back (by - n) c 0 front_long enough
    ∙ get_or-map word_negation kept (c - (by - n)) 0 0 (omega arith)
    ∙ ap word_negation (get_or-take (2 * n - by) p (c - (by - n)) 0 (omega arith) ∙ ap (λ t. get_or p t 0) place)
    ∙ sym (rotation_past by p c inside (omega arith) (omega arith)))
    (cases_lt c (by - n)))

-- p times q by the rotations of q
pub product_by_rotations : (p q : List ℕ) → length p ≡ length q → (c : ℕ) → c < length p → get_or (negacyclic_product p q) c 0 ≡ sum_below (length p) (λ i. get_or p i 0 * get_or (rotation i q) c 0) % 2 ^ 64
product_by_rotations p q e c inside =
    let n : ℕ = length p in
    product_coefficient n p q c refl (sym e) inside
    ∙ sym (sum-congruent n (λ i. at p i * get_or (rotation i q) c 0) (λ i. at p i * shift n i (at q) c)
    (λ i l. mul-congruent (at p i) (at p i) (get_or (rotation i q) c 0) (shift n i (at q) c) refl
    (ap (λ t. t % 2 ^ 64) (rotation_coefficient n i q c (sym e) inside) ∙ mod-mod (shift n i (at q) c) (2 ^ 64))))
