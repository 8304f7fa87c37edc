-- What the code computes, over plain variables.
use Rattle.std.proofs.Common.{◌≡◌, ℕ, suc, zero, ◌+◌, ◌-◌, ◌*◌, ◌%◌, ◌^◌, ◌<◌, ◌≤◌, List, ◌∷◌, length, map, get_or, arith, refl, ap, sym, subst, ◌∙◌, add-one, bit_and, w64, FitsSigned, to_z, of_z}
use Rattle.std.proofs.Math.Nat.{mul-le-mul_left, pow-le-pow_right}
use Rattle.std.proofs.lemmas.Nat.{pow_pos, mod_below, one_shl, and_mask}
use Rattle.std.proofs.lemmas.Int.{ints, fits_signed_from_abs}
use Rattle.std.proofs.lemmas.List.{ext_get_or, length-map, get_or-map}
use Rattle.std.proofs.lemmas.List.FromFn.{sum_by-map-range_with_len_more, fill_by_all, get_or-map-range_with_len}
use Rattle.std.specs.Prelude.{ℤ, pos, ◌-ℤ◌}
use Rattle.std.specs.List.{sum, range_with_len}
use Rattle.gadget_decomp.specs.Decomposition.{digit_of, digits_of}
use Rattle.gadget_decomp.proofs.Places.{pow_parts}

-- places up to the last fit a word
pub place_fits : (base level t : ℕ) → base * level ≤ 63 → t ≤ level → base * t ≤ 63
place_fits base level t fits last = let h : base * t ≤ base * level = mul-le-mul_left base last in omega arith

-- and so does the base
pub base_fits : (base t : ℕ) → 1 ≤ t → base * t ≤ 63 → base ≤ 63
base_fits base t first fits = let h : base * 1 ≤ base * t = mul-le-mul_left base first in omega arith

-- one place more
pub halves_more : (base n : ℕ) → sum (map (λ t. 2 ^ (63 - base * t)) (range_with_len 0 (n + 1))) ≡ sum (map (λ t. 2 ^ (63 - base * t)) (range_with_len 0 n)) + 2 ^ (63 - base * n)
halves_more base n = sum_by-map-range_with_len_more (λ x. x) (λ t. 2 ^ (63 - base * t)) 0 n n (omega arith)

-- a greater exponent gives a greater power
pow_up : (i j : ℕ) → i ≤ j → 2 ^ i ≤ 2 ^ j
pow_up i j below = pow-le-pow_right (omega arith) below

-- the half weights of n places leave room for half of the next
pub halves_room : (base n : ℕ) → 1 ≤ base → base * n ≤ 64 → sum (map (λ t. 2 ^ (63 - base * t)) (range_with_len 0 n)) + 2 ^ (64 - base * n) ≤ 2 ^ 64
halves_room base zero some fits = omega (arith, ap (λ k. 2 ^ k) (let e : 64 - base * 0 ≡ 64 = omega arith in e))
halves_room base (suc n) some fits =
    let within : base * n + base ≤ 64 = omega (arith, fits) in
    let room = halves_room base n some (omega arith) in
    let twice : 2 ^ (64 - base * n) ≡ 2 ^ (63 - base * n) * 2 = pow_parts (64 - base * n) (63 - base * n) 1 (omega arith) in
    let next : base * (n + 1) ≡ base * n + base = omega arith in
    let below : 2 ^ (64 - base * (n + 1)) ≤ 2 ^ (63 - base * n) = pow_up (64 - base * (n + 1)) (63 - base * n) (omega arith) in
    subst (λ m. sum (map (λ t. 2 ^ (63 - base * t)) (range_with_len 0 m)) + 2 ^ (64 - base * m) ≤ 2 ^ 64) (add-one n) (omega (arith, halves_more base n, room, twice, below))

-- signed numbers from natural ones
pub difference_fits : (n h : ℕ) → n < 2 ^ 63 → h < 2 ^ 63 → FitsSigned w64 (to_z w64 n -ℤ to_z w64 h)
difference_fits n h small_n small_h = fits_signed_from_abs w64 (to_z w64 n -ℤ to_z w64 h) (grind (arith, ints))

pub difference_is : (n h : ℕ) → n < 2 ^ 63 → h < 2 ^ 63 → to_z w64 (of_z w64 (to_z w64 n -ℤ to_z w64 h)) ≡ pos n -ℤ pos h
difference_is n h small_n small_h = omega (arith, ints)

-- a field of `base` bits
pub field_is : (y base : ℕ) → base ≤ 63 → bit_and y (1 * 2 ^ base % 2 ^ 64 - 1) ≡ y % 2 ^ base
field_is y base fits = ap (λ m. bit_and y (m - 1)) (one_shl base 64 (omega arith)) ∙ and_mask y base

pub field_small : (y base : ℕ) → base ≤ 63 → y % 2 ^ base < 2 ^ 63
field_small y base fits = let h : 2 ^ base ≤ 2 ^ 63 = pow_up base 63 fits in omega (arith, h, mod_below y (2 ^ base) (pow_pos base))

pub half_small : (base : ℕ) → base ≤ 63 → 2 ^ (base - 1) < 2 ^ 63
half_small base fits = let h : 2 ^ (base - 1) ≤ 2 ^ 62 = pow_up (base - 1) 62 (omega arith) in omega (arith, h)

-- a list counted from 0 is one counted from 1
shifted : (g : ℕ → ℤ) (a n : ℕ) → map (λ k. g (k + 1)) (range_with_len a n) ≡ map g (range_with_len (a + 1) n)
shifted g a zero = refl
shifted g a (suc n) = ap (λ xs. g (a + 1) ∷ xs) (shifted g (a + 1) n)

-- the list of digits, place by place
pub placed_digits : (word base level : ℕ) (out : List ℤ) → length out ≡ level → ((k : ℕ) → k < level → get_or out k (pos 0) ≡ digit_of word base level (k + 1)) → out ≡ digits_of word base level
placed_digits word base level out long each = fill_by_all (λ k. digit_of word base level (k + 1)) out level (pos 0) long each ∙ shifted (digit_of word base level) 0 level

-- a list that is a function of another, place by place
pub mapped : (f : ℕ → ℕ) (out source : List ℕ) → length out ≡ length source → ((k : ℕ) → k < length source → get_or out k 0 ≡ f (get_or source k 0)) → out ≡ map f source
mapped f out source long each =
    ext_get_or 0 out (map f source) (long ∙ sym (length-map source f))
    (λ k within. each k (subst (λ n. k < n) long within) ∙ sym (get_or-map f source k 0 0 (subst (λ n. k < n) long within)))

-- digit t stands at place t - 1 of the decomposition
pub placed_digit : (word base level t : ℕ) → 1 ≤ t → t ≤ level → get_or (digits_of word base level) (t - 1) (pos 0) ≡ digit_of word base level t
placed_digit word base level t first last = get_or-map-range_with_len (digit_of word base level) 1 level (t - 1) t (pos 0) (omega arith) (omega arith)
