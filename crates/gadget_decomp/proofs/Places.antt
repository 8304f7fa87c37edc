-- Digits by places: balanced digits, each raised by 2^(base-1), are those of plain positional notation.
use Rattle.std.proofs.Common.{◌≡◌, ℕ, suc, zero, ◌+◌, ◌-◌, ◌*◌, ◌/◌, ◌%◌, ◌^◌, ◌<◌, ◌≤◌, List, [], ◌∷◌, length, map, arith, refl, ap, sym, subst, ◌∙◌, mul_assoc, zero-mul}
use Rattle.std.proofs.Math.Nat.{add-mul, mul-le-mul_left, mul-le-mul_right, mul-mod_left, add-mul-mod_self_right}
use Rattle.std.proofs.lemmas.Nat.{pow-add, pow_pos, mod-pow-add, same_from_place}
use Rattle.std.proofs.lemmas.Int.{ints}
use Rattle.std.proofs.lemmas.List.Elements.{All-head, All-tail}
use Rattle.std.specs.Prelude.{ℤ, pos, negsuc, ◌+ℤ◌, ◌*ℤ◌, ◌<ℤ◌, ◌≤ℤ◌, neg_ℤ, All}
use Rattle.std.specs.List.{range_with_len}
use Rattle.std.specs.Int.RustNames.{unsigned_abs}
use Rattle.gadget_decomp.specs.Decomposition.{IsDigit, place_weight, weighed_from}

-- ---- weights

-- a power of 2 as the product of two
pub pow_parts : (n i j : ℕ) → n ≡ i + j → 2 ^ n ≡ 2 ^ i * 2 ^ j
pow_parts n i j e = ap (λ k. 2 ^ k) e ∙ pow-add 2 i j

-- base times one place more
pub next_place : (base s : ℕ) → base * (s + 1) ≡ base * s + base
next_place base s = omega arith

-- a place counts 2^base times the next
pub weight_step : (base s : ℕ) → base * (s + 1) ≤ 64 → place_weight base s ≡ 2 ^ base * place_weight base (s + 1)
weight_step base s below = pow_parts (64 - base * s) base (64 - base * (s + 1)) (omega arith)

-- and 2^(base * k) times the one k places on
pub weight_multiple : (base s k : ℕ) → base * (s + k) ≤ 64 → place_weight base s ≡ 2 ^ (base * k) * place_weight base (s + k)
weight_multiple base s k below = pow_parts (64 - base * s) (base * k) (64 - base * (s + k)) (omega arith)

-- ---- plain positional notation, the first digit at place s + 1

abbrev pub positional : ℕ → ℕ → List ℕ → ℕ
positional base s [] = 0
positional base s (n ∷ ns) = n * place_weight base (s + 1) + positional base (s + 1) ns

-- 2^(base-1) at each of k places
abbrev pub halves : ℕ → ℕ → ℕ → ℕ
halves base s zero = 0
halves base s (suc k) = 2 ^ (base - 1) * place_weight base (s + 1) + halves base (s + 1) k

-- one digit more before
first_below : (n b w rest : ℕ) → n < b → rest < w → n * w + rest < b * w
first_below n b w rest p q = let h : (n + 1) * w ≤ b * w = mul-le-mul_right w (omega arith) in omega (arith, h, add-mul n 1 w)

-- places that fit
rest_fits : (base s k : ℕ) → base * (s + suc k) ≤ 64 → base * (s + 1 + k) ≤ 64
rest_fits base s k below = omega (arith, below)

first_fits : (base s k : ℕ) → base * (s + suc k) ≤ 64 → base * (s + 1) ≤ 64
first_fits base s k below = let h : base * (s + 1) ≤ base * (s + suc k) = mul-le-mul_left base (omega arith) in omega arith

-- digits below 2^base make less than the weight of the place before them
pub positional_below : (base s : ℕ) (ns : List ℕ) → base * (s + length ns) ≤ 64 → All (λ n. n < 2 ^ base) ns → positional base s ns < place_weight base s
positional_below base s [] below digits = pow_pos (64 - base * s)
positional_below base s (n ∷ ns) below digits =
    let rest = positional_below base (s + 1) ns (rest_fits base s (length ns) below) (All-tail (λ m. m < 2 ^ base) n ns digits) in
    subst (λ w. n * place_weight base (s + 1) + positional base (s + 1) ns < w) (sym (weight_step base s (first_fits base s (length ns) below)))
    (first_below n (2 ^ base) (place_weight base (s + 1)) (positional base (s + 1) ns) (All-head (λ m. m < 2 ^ base) n ns digits) rest)

-- so that no two lists of as many digits make one number
pub positional_same :
    (base s : ℕ) (ns ms : List ℕ) → length ns ≡ length ms → base * (s + length ns) ≤ 64 → All (λ n. n < 2 ^ base) ns → All (λ n. n < 2 ^ base) ms
    → positional base s ns ≡ positional base s ms → ns ≡ ms
positional_same base s [] [] long below digits others e = refl
positional_same base s [] (m ∷ ms) long below digits others e = absurd (omega arith)
positional_same base s (n ∷ ns) [] long below digits others e = absurd (omega arith)
positional_same base s (n ∷ ns) (m ∷ ms) long below digits others e =
    let as_long : length ns ≡ length ms = omega arith in
    let fits : base * (s + 1 + length ns) ≤ 64 = rest_fits base s (length ns) below in
    let ds = All-tail (λ k. k < 2 ^ base) n ns digits in
    let os = All-tail (λ k. k < 2 ^ base) m ms others in
    let both = same_from_place n (positional base (s + 1) ns) m (positional base (s + 1) ms) (place_weight base (s + 1))
    (positional_below base (s + 1) ns fits ds) (positional_below base (s + 1) ms (subst (λ k. base * (s + 1 + k) ≤ 64) as_long fits) os) e in
    let rest = positional_same base (s + 1) ns ms as_long fits ds os both.1 in
    ap (λ k. k ∷ ns) both.0 ∙ ap (λ ks. m ∷ ks) rest

here : (s : ℕ) → s + 0 ≡ s
here s = omega arith

-- the digits of a number x by quotients make what its low bits don't
pub positional_quotients :
    (base s k x : ℕ) → base * (s + k) ≤ 64
    → positional base s (map (λ t. x / place_weight base t % 2 ^ base) (range_with_len (s + 1) k)) + x % place_weight base (s + k) ≡ x % place_weight base s
positional_quotients base s zero x below = omega (arith, ap (λ j. x % place_weight base j) (here s))
positional_quotients base s (suc k) x below =
    let w : ℕ = place_weight base (s + 1) in
    let rest = positional_quotients base (s + 1) k x (rest_fits base s k below) in
    let e : 64 - base * s ≡ base + (64 - base * (s + 1)) = omega (arith, first_fits base s k below) in
    let first : x % place_weight base s ≡ x / w % 2 ^ base * w + x % w = ap (λ j. x % 2 ^ j) e ∙ mod-pow-add x base (64 - base * (s + 1)) in
    let last : x % place_weight base (s + suc k) ≡ x % place_weight base (s + 1 + k) = ap (λ j. x % place_weight base j) (omega arith) in
    omega (arith, rest, first, last)

zero_left : (m : ℕ) → 0 % m ≡ 0
zero_left m = ap (λ x. x % m) (sym (zero-mul m)) ∙ mul-mod_left 0 m

-- the halves of k places are a multiple of the weight of the last
pub halves_multiple : (base s k : ℕ) → base * (s + k) ≤ 64 → halves base s k % place_weight base (s + k) ≡ 0
halves_multiple base s zero below = zero_left (place_weight base (s + 0))
halves_multiple base s (suc k) below =
    let w : ℕ = place_weight base (s + 1 + k) in
    let many : 2 ^ (base - 1) * place_weight base (s + 1) ≡ 2 ^ (base - 1) * 2 ^ (base * k) * w =
    ap (λ x. 2 ^ (base - 1) * x) (weight_multiple base (s + 1) k (rest_fits base s k below)) ∙ sym (mul_assoc (2 ^ (base - 1)) (2 ^ (base * k)) w) in
    let rest = halves_multiple base (s + 1) k (rest_fits base s k below) in
    ap (λ j. halves base s (suc k) % place_weight base j) (let e : s + suc k ≡ s + 1 + k = omega arith in e)
    ∙ ap (λ x. x % w) (let e : 2 ^ (base - 1) * place_weight base (s + 1) + halves base (s + 1) k ≡ halves base (s + 1) k + 2 ^ (base - 1) * 2 ^ (base * k) * w = omega (arith, many) in e)
    ∙ add-mul-mod_self_right (halves base (s + 1) k) (2 ^ (base - 1) * 2 ^ (base * k)) w
    ∙ rest

-- ---- balanced digits

-- a digit and 2^(base-1)
abbrev pub raised : ℕ → ℤ → ℕ
raised base digit = unsigned_abs (digit +ℤ pos (2 ^ (base - 1)))

-- a number from -h on, with h added, is a natural number
raised_natural : (digit : ℤ) (h : ℕ) → neg_ℤ (pos h) ≤ℤ digit → digit +ℤ pos h ≡ pos (unsigned_abs (digit +ℤ pos h))
raised_natural digit h least = grind (arith, ints)

raised_small : (digit : ℤ) (h : ℕ) → neg_ℤ (pos h) ≤ℤ digit → digit <ℤ pos h → unsigned_abs (digit +ℤ pos h) < 2 * h
raised_small digit h least most = grind (arith, ints)

pub raised_is : (base : ℕ) (digit : ℤ) → IsDigit base digit → digit +ℤ pos (2 ^ (base - 1)) ≡ pos (raised base digit)
raised_is base digit is = raised_natural digit (2 ^ (base - 1)) is.least

pub raised_below : (base : ℕ) (digit : ℤ) → 1 ≤ base → IsDigit base digit → raised base digit < 2 ^ base
raised_below base digit some is = omega (arith, raised_small digit (2 ^ (base - 1)) is.least is.most, pow_parts base (base - 1) 1 (omega arith))

-- a raised digit times a weight
weigh : (digit : ℤ) (h n w : ℕ) → digit +ℤ pos h ≡ pos n → (digit *ℤ pos w) +ℤ pos (h * w) ≡ pos (n * w)
weigh (pos a) h n w e = let sum : a + h ≡ n = omega (arith, ints, e) in ap pos (sym (add-mul a h w) ∙ ap (λ x. x * w) sum)
weigh (negsuc a) h n w e =
    let sum : h ≡ n + suc a = omega (arith, ints, e) in
    let products : h * w ≡ n * w + suc a * w = ap (λ x. x * w) sum ∙ add-mul n (suc a) w in
    omega (arith, ints, products)

-- two sums that are raised to natural numbers are so together
raised_together : (first rest : ℤ) (h k n m : ℕ) → first +ℤ pos h ≡ pos n → rest +ℤ pos k ≡ pos m → (first +ℤ rest) +ℤ pos (h + k) ≡ pos (n + m)
raised_together first rest h k n m e f = omega (arith, ints)

-- a weighed sum, raised by 2^(base-1) at each place, is the sum of plain notation
pub weighed_raised :
    (base s : ℕ) (digits : List ℤ) → All (IsDigit base) digits
    → weighed_from base (s + 1) digits +ℤ pos (halves base s (length digits)) ≡ pos (positional base s (map (raised base) digits))
weighed_raised base s [] is = refl
weighed_raised base s (digit ∷ digits) is =
    let w : ℕ = place_weight base (s + 1) in
    raised_together (digit *ℤ pos w) (weighed_from base (s + 1 + 1) digits) (2 ^ (base - 1) * w) (halves base (s + 1) (length digits)) (raised base digit * w) (positional base (s + 1) (map (raised base) digits))
    (weigh digit (2 ^ (base - 1)) (raised base digit) w (raised_is base digit (All-head (IsDigit base) digit digits is)))
    (weighed_raised base (s + 1) digits (All-tail (IsDigit base) digit digits is))
