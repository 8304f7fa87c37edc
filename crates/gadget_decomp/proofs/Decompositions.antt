-- Each word has exactly one list of digits.
use Rattle.std.proofs.Common.{◌≡◌, ℕ, suc, zero, ◌+◌, ◌-◌, ◌*◌, ◌/◌, ◌%◌, ◌^◌, ◌<◌, ◌≤◌, List, [], ◌∷◌, length, map, arith, refl, ap, sym, subst, ◌∙◌, add-one}
use Rattle.std.proofs.Math.Nat.{add-mod-mod}
use Rattle.std.proofs.lemmas.Nat.{pow_pos, mod_below, div-add-mod'}
use Rattle.std.proofs.lemmas.Int.{ints}
use Rattle.std.proofs.lemmas.List.{length-map}
use Rattle.std.proofs.lemmas.List.Elements.{All-head, All-tail, All-map}
use Rattle.std.proofs.lemmas.List.FromFn.{length-map-range_with_len}
use Rattle.std.proofs.lemmas.List.Sums.{sum_by-cons}
use lib.Pow.{mod-mod-pow}
use Rattle.std.specs.Prelude.{ℤ, pos, negsuc, ◌+ℤ◌, ◌-ℤ◌, ◌<ℤ◌, ◌≤ℤ◌, neg_ℤ, All}
use Rattle.std.specs.List.{sum, range_with_len}
use Rattle.std.specs.Int.RustNames.{unsigned_abs}
use Rattle.word_ring.specs.Words.{word_sum, word_difference}
use Rattle.word_ring.specs.Rounding.{rounded, rounding_step}
use Rattle.word_ring.specs.Signed.{word_of}
use Rattle.gadget_decomp.specs.Decomposition.{IsDigit, IsDecomposition, place_weight, weighed_from, half_weights, digit_of, digits_of}
use Rattle.gadget_decomp.proofs.Places.{pow_parts, next_place, positional, halves, raised, raised_is, raised_below, weighed_raised, positional_below, positional_same, positional_quotients, halves_multiple}

-- the word of a number that is natural with h added
pub word_raised : (z : ℤ) (h r : ℕ) → z +ℤ pos h ≡ pos r → word_of z ≡ word_difference r h
word_raised (pos a) h r e = let sum : a + h ≡ r = omega (arith, ints, e) in omega arith
word_raised (negsuc a) h r e = let sum : h ≡ r + suc a = omega (arith, ints, e) in omega arith

-- place 0 counts 2^64
pub whole_weight : (base : ℕ) → place_weight base 0 ≡ 2 ^ 64
whole_weight base = ap (λ k. 2 ^ k) (let e : 64 - base * 0 ≡ 64 = omega arith in e)

-- ---- there is no second one

raised_all : (base : ℕ) (digits : List ℤ) → 1 ≤ base → All (IsDigit base) digits → All (λ n. n < 2 ^ base) (map (raised base) digits)
raised_all base digits some is = All-map (λ n. n < 2 ^ base) (raised base) digits (λ k d in_list. raised_below base _ some (is k d in_list))

-- the digits of a word, raised, are plain digits of a number below 2^64 that the word determines
raised_number :
    (word base level : ℕ) (digits : List ℤ) → 1 ≤ base → base * level ≤ 63 → IsDecomposition word base level digits
    → (positional base 0 (map (raised base) digits) < 2 ^ 64) × (word_difference (positional base 0 (map (raised base) digits)) (halves base 0 level) ≡ rounded word base level)
raised_number word base level digits some fits is =
    let long : length (map (raised base) digits) ≡ level = length-map digits (raised base) ∙ is.count in
    let within : base * (0 + length (map (raised base) digits)) ≤ 64 = subst (λ k. base * (0 + k) ≤ 64) (sym long) (omega arith) in
    let sum : weighed_from base 1 digits +ℤ pos (halves base 0 level) ≡ pos (positional base 0 (map (raised base) digits)) =
    subst (λ k. weighed_from base 1 digits +ℤ pos (halves base 0 k) ≡ pos (positional base 0 (map (raised base) digits))) is.count (weighed_raised base 0 digits is.range) in (
      subst (λ w. positional base 0 (map (raised base) digits) < w) (whole_weight base) (positional_below base 0 (map (raised base) digits) within (raised_all base digits some is.range)),
      sym (word_raised (weighed_from base 1 digits) (halves base 0 level) (positional base 0 (map (raised base) digits)) sum) ∙ is.sum,
    )

-- a digit is known by its raised number
raised_same : (d e : ℤ) (h n m : ℕ) → d +ℤ pos h ≡ pos n → e +ℤ pos h ≡ pos m → n ≡ m → d ≡ e
raised_same d e h n m p q same = omega (arith, ints)

lists_same : (base : ℕ) (digits others : List ℤ) → All (IsDigit base) digits → All (IsDigit base) others → map (raised base) digits ≡ map (raised base) others → digits ≡ others
lists_same base [] [] is are e = refl
lists_same base [] (o ∷ others) is are e = cc
lists_same base (d ∷ digits) [] is are e = cc
lists_same base (d ∷ digits) (o ∷ others) is are e =
    let heads : raised base d ≡ raised base o = cc in
    let tails : map (raised base) digits ≡ map (raised base) others = cc in
    let one : d ≡ o = raised_same d o (2 ^ (base - 1)) (raised base d) (raised base o) (raised_is base d (All-head (IsDigit base) d digits is)) (raised_is base o (All-head (IsDigit base) o others are)) heads in
    let rest = lists_same base digits others (All-tail (IsDigit base) d digits is) (All-tail (IsDigit base) o others are) tails in
    ap (λ x. x ∷ digits) one ∙ ap (λ xs. o ∷ xs) rest

pub no-other :
    (word base level : ℕ) → 1 ≤ base → base * level ≤ 63 → (digits others : List ℤ) → IsDecomposition word base level digits → IsDecomposition word base level others → digits ≡ others
no-other word base level some fits digits others is are =
    let one = raised_number word base level digits some fits is in
    let two = raised_number word base level others some fits are in
    let long : length (map (raised base) digits) ≡ level = length-map digits (raised base) ∙ is.count in
    let as_long : length (map (raised base) digits) ≡ length (map (raised base) others) = long ∙ sym (length-map others (raised base) ∙ are.count) in
    let within : base * (0 + length (map (raised base) digits)) ≤ 64 = subst (λ k. base * (0 + k) ≤ 64) (sym long) (omega arith) in
    let same : positional base 0 (map (raised base) digits) ≡ positional base 0 (map (raised base) others) = omega (arith, one.0, one.1, two.0, two.1) in
    lists_same base digits others is.range are.range
    (positional_same base 0 (map (raised base) digits) (map (raised base) others) as_long within (raised_all base digits some is.range) (raised_all base others some are.range) same)

-- ---- there is one

-- the half weights are those of the places and half a step of the rounding
halves_from : (base s k : ℕ) → 1 ≤ base → base * (s + k) ≤ 63 → sum (map (λ t. 2 ^ (63 - base * t)) (range_with_len s (suc k))) ≡ halves base s k + 2 ^ (63 - base * (s + k))
halves_from base s zero some fits = ap (λ j. 0 + 2 ^ (63 - base * j)) (let e : s ≡ s + 0 = omega arith in e)
halves_from base s (suc k) some fits =
    let f : ℕ → ℕ = λ t. 2 ^ (63 - base * t) in
    let within : base * (s + 1 + k) ≤ 63 = omega (arith, fits) in
    let split : sum (map f (range_with_len s (suc (suc k)))) ≡ f s + sum (map f (range_with_len (s + 1) (suc k))) = sum_by-cons (λ x. x) (f s) (map f (range_with_len (s + 1) (suc k))) in
    let rest = halves_from base (s + 1) k some within in
    let place : base * (s + 1) ≤ base * (s + 1 + k) = omega (arith, next_place base s) in
    let first : f s ≡ 2 ^ (base - 1) * place_weight base (s + 1) = pow_parts (63 - base * s) (base - 1) (64 - base * (s + 1)) (omega arith) in
    let last : 2 ^ (63 - base * (s + 1 + k)) ≡ 2 ^ (63 - base * (s + suc k)) = ap f (let e : s + 1 + k ≡ s + suc k = omega arith in e) in
    omega (arith, split, rest, first, last)

pub half_weights_is : (base level : ℕ) → 1 ≤ base → base * level ≤ 63 → half_weights base level ≡ halves base 0 level + 2 ^ (63 - base * level)
half_weights_is base level some fits =
    ap (λ n. sum (map (λ t. 2 ^ (63 - base * t)) (range_with_len 0 n))) (add-one level)
    ∙ halves_from base 0 level some (omega arith)
    ∙ ap (λ j. halves base 0 level + 2 ^ (63 - base * j)) (let e : 0 + level ≡ level = omega arith in e)

-- a digit by quotients is in range, and raised it is the quotient's remainder
balanced : (n h : ℕ) → n < 2 * h → (neg_ℤ (pos h) ≤ℤ (pos n -ℤ pos h)) × ((pos n -ℤ pos h) <ℤ pos h) × (unsigned_abs ((pos n -ℤ pos h) +ℤ pos h) ≡ n)
balanced n h below = (omega (arith, ints), omega (arith, ints), ap unsigned_abs (let e : (pos n -ℤ pos h) +ℤ pos h ≡ pos n = omega (arith, ints) in e))

-- 2^base is twice 2^(base-1)
base_twice : (base n : ℕ) → 1 ≤ base → n % 2 ^ base < 2 * 2 ^ (base - 1)
base_twice base n some = omega (arith, mod_below n (2 ^ base) (pow_pos base), pow_parts base (base - 1) 1 (omega arith))

pub digit_is : (word base level t : ℕ) → 1 ≤ base → IsDigit base (digit_of word base level t)
digit_is word base level t some =
    let facts = balanced (word_sum word (half_weights base level) / place_weight base t % 2 ^ base) (2 ^ (base - 1)) (base_twice base (word_sum word (half_weights base level) / place_weight base t) some) in
    record { least = facts.0; most = facts.1 }

pub raised_digits :
    (word base level : ℕ) (ts : List ℕ) → 1 ≤ base
    → map (raised base) (map (digit_of word base level) ts) ≡ map (λ t. word_sum word (half_weights base level) / place_weight base t % 2 ^ base) ts
raised_digits word base level [] some = refl
raised_digits word base level (t ∷ ts) some =
    let x : ℕ = word_sum word (half_weights base level) in
    let g : ℕ → ℕ = λ t. x / place_weight base t % 2 ^ base in
    let facts = balanced (g t) (2 ^ (base - 1)) (base_twice base (x / place_weight base t) some) in
    ap (λ n. n ∷ map (raised base) (map (digit_of word base level) ts)) facts.2 ∙ ap (λ ns. g t ∷ ns) (raised_digits word base level ts some)

-- half of a step
half_step : (n : ℕ) → n ≤ 63 → 2 ^ (64 - n) / 2 ≡ 2 ^ (63 - n)
half_step n fits = omega (arith, pow_parts (64 - n) (63 - n) 1 (omega arith))

-- what is left by 2^64, and then by a lower power of 2, is what the lower one leaves
left_twice : (x k : ℕ) → k ≤ 64 → x % 2 ^ 64 % 2 ^ k ≡ x % 2 ^ k
left_twice x k below = ap (λ m. x % 2 ^ m % 2 ^ k) (let e : 64 ≡ 64 - k + k = omega arith in e) ∙ mod-mod-pow x (64 - k) k

-- a multiple of a step leaves nothing
multiple_left : (y h step : ℕ) → h % step ≡ 0 → (y + h) % step ≡ y % step
multiple_left y h step e = sym (add-mod-mod y h step) ∙ ap (λ r. (y + r) % step) e ∙ ap (λ z. z % step) (let e : y + 0 ≡ y = omega arith in e)

-- the number that the raised digits make is the rounded word and the halves
quotients_sum :
    (word base level : ℕ) → 1 ≤ base → base * level ≤ 63
    → word_difference (positional base 0 (map (λ t. word_sum word (half_weights base level) / place_weight base t % 2 ^ base) (range_with_len 1 level))) (halves base 0 level) ≡ rounded word base level
quotients_sum word base level some fits =
    let x : ℕ = word_sum word (half_weights base level) in
    let step : ℕ = rounding_step base level in
    let y : ℕ = word + 2 ^ (63 - base * level) in
    let h : ℕ = halves base 0 level in
    let made : ℕ = positional base 0 (map (λ t. x / place_weight base t % 2 ^ base) (range_with_len 1 level)) in
    let x_is : x ≡ (y + h) % 2 ^ 64 = omega (arith, half_weights_is base level some fits) in
    let place : place_weight base (0 + level) ≡ step = ap (place_weight base) (let e : 0 + level ≡ level = omega arith in e) in
    let sum : made + x % step ≡ x % 2 ^ 64 =
    ap (λ w. made + x % w) (sym place) ∙ positional_quotients base 0 level x (omega arith) ∙ ap (λ w. x % w) (whole_weight base) in
    let multiple : h % step ≡ 0 = ap (λ w. h % w) (sym place) ∙ halves_multiple base 0 level (omega arith) in
    let left : x % step ≡ y % step = ap (λ z. z % step) x_is ∙ left_twice (y + h) (64 - base * level) (omega arith) ∙ multiple_left y h step multiple in
    let cut : y / step * step + y % step ≡ y = div-add-mod' y step in
    let rounding : rounded word base level ≡ y / step * step % 2 ^ 64 = ap (λ z. (word + z) / step * step % 2 ^ 64) (half_step (base * level) fits) in
    omega (arith, x_is, sum, left, cut, rounding)

pub one : (word base level : ℕ) → 1 ≤ base → base * level ≤ 63 → IsDecomposition word base level (digits_of word base level)
one word base level some fits =
    let ts : List ℕ = range_with_len 1 level in
    let long : length (digits_of word base level) ≡ level = length-map-range_with_len (digit_of word base level) 1 level in
    let range : All (IsDigit base) (digits_of word base level) = All-map (IsDigit base) (digit_of word base level) ts (λ k d _. digit_is word base level _ some) in
    let raised_sum : weighed_from base 1 (digits_of word base level) +ℤ pos (halves base 0 level) ≡ pos (positional base 0 (map (λ t. word_sum word (half_weights base level) / place_weight base t % 2 ^ base) ts)) =
    subst (λ k. weighed_from base 1 (digits_of word base level) +ℤ pos (halves base 0 k) ≡ pos (positional base 0 (map (λ t. word_sum word (half_weights base level) / place_weight base t % 2 ^ base) ts))) long
    (weighed_raised base 0 (digits_of word base level) range ∙ ap (λ ns. pos (positional base 0 ns)) (raised_digits word base level ts some)) in
    record {
      count = long;
      range = range;
      sum = word_raised (weighed_from base 1 (digits_of word base level)) (halves base 0 level) (positional base 0 (map (λ t. word_sum word (half_weights base level) / place_weight base t % 2 ^ base) ts)) raised_sum ∙ quotients_sum word base level some fits;
    }
