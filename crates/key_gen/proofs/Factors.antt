-- What the parts of a row count, coefficient by coefficient.
use Rattle.std.proofs.Common.{◌≡◌, ℕ, ◌+◌, ◌-◌, ◌*◌, ◌/◌, ◌<◌, ◌≤◌, Bool, false, List, [], ◌∷◌, length, take, drop, set, get_or, map, replicate, ⊎_elim, refl, sym, ap, arith, ◌∙◌}
use Prim.Native.Nat.{zero, suc}
use Rattle.std.proofs.lemmas.List.{ext_get_or, length-map, length-take-le, length-drop, get_or-map, get_or-take, get_or-drop, drop-drop, get_or_append_left, get_or_push}
use Rattle.std.proofs.lemmas.Nat.{mul-le, div-mul-add}
use Rattle.std.proofs.lemmas.Bool.{cases_lt}
use Rattle.word_ring.specs.Words.{word_negation}
use Rattle.lwe_core.specs.Secret.{bit_word, bit_words}
use Rattle.negacyclic.specs.Product.{monomial}
use Rattle.negacyclic.specs.Laws.{RotationLaws}
use Rattle.ggsw_core.specs.Noise.{part_factors}
use Rattle.blind_rotate.specs.Fits.{key_polynomials}

-- minus the bits of a key from a place on
pub minus_bits_are : (n at : ℕ) (key : List Bool) (out : List ℕ) → at + n ≤ length key → length out ≡ n → ((m : ℕ) → m < n → get_or out m 0 ≡ word_negation (bit_word (get_or key (at + m) false))) → out ≡ map word_negation (bit_words (take n (drop at key)))
minus_bits_are n at key out room long each =
    let bits : List Bool = take n (drop at key) in
    let number : length bits ≡ n = length-take-le n (drop at key) (omega (arith, length-drop at key, room)) in
    let count : length (map word_negation (bit_words bits)) ≡ n = length-map (bit_words bits) word_negation ∙ length-map bits bit_word ∙ number in
    ext_get_or 0 out (map word_negation (bit_words bits)) (long ∙ sym count)
    (λ m inside.
    let below : m < n = omega (arith, inside, long) in
    each m below ∙ ap (λ (b : Bool). word_negation (bit_word b)) (sym (get_or-drop at key m false) ∙ sym (get_or-take n (drop at key) m false below))
    ∙ sym (ap word_negation (get_or-map bit_word bits m false 0 (omega (arith, below, number))))
    ∙ sym (get_or-map word_negation (bit_words bits) m 0 0 (omega (arith, below, number, length-map bits bit_word))))

-- polynomial j of a flat key
pub polynomial_at : (k n j : ℕ) (flat : List Bool) → j < k → get_or (key_polynomials k n flat) j [] ≡ take n (drop (j * n) flat)
polynomial_at zero n j flat below = absurd (omega (arith, below))
polynomial_at (suc k) n zero flat below =
    let start : 0 ≡ zero * n = omega arith in
    ap (λ (m : ℕ). take n (drop m flat)) start
polynomial_at (suc k) n (suc j) flat below =
    polynomial_at k n j (drop n flat) (omega (arith, below)) ∙ ap (take n) (drop-drop (j * n) n flat) ∙ ap (λ (m : ℕ). take n (drop m flat)) (omega arith)

pub number_of_polynomials : (k n : ℕ) (flat : List Bool) → length (key_polynomials k n flat) ≡ k
number_of_polynomials zero n flat = refl
number_of_polynomials (suc k) n flat = ap suc (number_of_polynomials k n (drop n flat))

-- what part j counts: a mask polynomial
pub mask_factor : (k n j : ℕ) (flat : List Bool) → j < k → get_or (part_factors n (key_polynomials k n flat)) j [] ≡ map word_negation (bit_words (take n (drop (j * n) flat)))
mask_factor k n j flat below =
    let polys : List (List Bool) = key_polynomials k n flat in
    let minus : List Bool → List ℕ = λ bits. map word_negation (bit_words bits) in
    let number : length polys ≡ k = number_of_polynomials k n flat in
    get_or_append_left (map minus polys) (monomial n 0 ∷ []) [] j (omega (arith, length-map polys minus, number, below))
    ∙ get_or-map minus polys j [] [] (omega (arith, number, below)) ∙ ap minus (polynomial_at k n j flat below)

-- and the body
pub body_factor : (k n j : ℕ) (flat : List Bool) → j ≡ k → get_or (part_factors n (key_polynomials k n flat)) j [] ≡ monomial n 0
body_factor k n j flat last =
    let polys : List (List Bool) = key_polynomials k n flat in
    let minus : List Bool → List ℕ = λ bits. map word_negation (bit_words bits) in
    get_or_push (map minus polys) (monomial n 0) [] j (length-map polys minus ∙ number_of_polynomials k n flat ∙ sym last)

-- what the parts count has n coefficients
pub factor_long : RotationLaws → (k n j : ℕ) (flat : List Bool) → j ≤ k → length flat ≡ k * n → length (get_or (part_factors n (key_polynomials k n flat)) j []) ≡ n
factor_long laws k n j flat part long =
    ⊎_elim
    (λ (mask : j < k).
    let bits : List Bool = take n (drop (j * n) flat) in
    let room : (j + 1) * n ≤ k * n = mul-le (j + 1) n k n (omega (arith, mask)) (omega arith) in
    ap length (mask_factor k n j flat mask) ∙ length-map (bit_words bits) word_negation ∙ length-map bits bit_word ∙ length-take-le n (drop (j * n) flat) (omega (arith, length-drop (j * n) flat, long, room)))
    (λ (body : k ≤ j). ap length (body_factor k n j flat (omega (arith, body, part))) ∙ laws.monomial_length n 0)
    (cases_lt j k)

-- 0 with its first coefficient set to 1
pub one_set : (n : ℕ) → 0 < n → set {A = ℕ} (replicate n 0) 0 1 ≡ 1 ∷ replicate (n - 1) 0
one_set zero some = absurd (omega (arith, some))
one_set (suc n) some =
    let rest : n ≡ suc n - 1 = omega arith in
    ap (λ (m : ℕ). 1 ∷ replicate m 0) rest

-- how many coefficients a polynomial of a flat key has
pub polynomial_length : (k n j bits : ℕ) (flat : List Bool) → j < k → bits ≡ length flat → length flat ≡ k * n → bits / k ≡ n
polynomial_length k n j bits flat below is long =
    let whole : bits ≡ n * k + 0 = omega (arith, is, long) in
    ap (λ (m : ℕ). m / k) whole ∙ div-mul-add n k 0 (omega (arith, below))

-- and polynomial j lies within the key
pub polynomial_inside : (k n j : ℕ) (flat : List Bool) → j < k → length flat ≡ k * n → j * n + n ≤ length flat
polynomial_inside k n j flat below long =
    let room : (j + 1) * n ≤ k * n = mul-le (j + 1) n k n (omega (arith, below)) (omega arith) in
    omega (arith, room, long)
