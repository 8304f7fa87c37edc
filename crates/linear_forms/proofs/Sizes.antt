-- How large products and sums of weights are, and that the code's numbers hold them.
use Rattle.std.proofs.Common.{◌≡◌, ℕ, ◌+◌, ◌^◌, ◌≤◌, ℤ, pos, ◌+ℤ◌, ◌*ℤ◌, ap, ◌∙◌, sym, subst, arith, w64, to_z, of_z, List, [], ◌∷◌, All, max, fold}
use lib.IntN.{negsuc}
use Rattle.std.specs.Int.{w128}
use Rattle.std.specs.Prelude.{FitsSigned, unsigned_abs}
use Rattle.std.specs.List.{AllByRecursion}
use Rattle.std.proofs.lemmas.Int.{ints, fits_signed_mul, fits_signed_from_abs, to_z-of_z}
use Rattle.std.proofs.lemmas.List.Elements.{All-from_recursion}
use Rattle.forms.specs.Limits.{most_weight}

pub product_fits : (factor number : ℤ) → unsigned_abs factor ≤ 2 ^ 63 → unsigned_abs number ≤ most_weight
    → FitsSigned w128 (factor *ℤ number)
product_fits factor number large small =
    fits_signed_mul w128 factor number (2 ^ 63) most_weight large small (omega arith)

-- a sum is no larger than its parts together
pub sum_size : (a b : ℤ) → unsigned_abs (a +ℤ b) ≤ unsigned_abs a + unsigned_abs b
sum_size (pos a) (pos b) = omega (arith, ints)
sum_size (pos a) (negsuc b) = omega (arith, ints)
sum_size (negsuc a) (pos b) = omega (arith, ints)
sum_size (negsuc a) (negsuc b) = omega (arith, ints)

-- a number of at most 104 bits is that of its 128 bits
pub back : (a : ℤ) → unsigned_abs a ≤ 2 ^ 105 → to_z w128 (of_z w128 a) ≡ a
back a small = to_z-of_z w128 a (fits_signed_from_abs w128 a (omega (arith, small)))

-- so is one of at most 40 bits that of its 64 bits
pub narrow_back : (a : ℤ) → unsigned_abs a ≤ most_weight → to_z w64 (of_z w64 a) ≡ a
narrow_back a small = to_z-of_z w64 a (fits_signed_from_abs w64 a (omega (arith, small)))

-- and so is a sum of two
pub sum_back : (a b : ℤ) → unsigned_abs a ≤ 2 ^ 104 → unsigned_abs b ≤ 2 ^ 104
    → to_z w128 (of_z w128 (to_z w128 (of_z w128 a) +ℤ to_z w128 (of_z w128 b))) ≡ a +ℤ b
sum_back a b small other =
    let first : to_z w128 (of_z w128 a) ≡ a = back a (omega (arith, small)) in
    let second : to_z w128 (of_z w128 b) ≡ b = back b (omega (arith, other)) in
    rw (first, second) (back (a +ℤ b) (omega (arith, sum_size a b, small, other)))

-- ---- the greatest size of a list

-- the greatest of a number and these sizes is as large as that number, and as each size
module _ (A : Type 0) (size : A → ℕ) where
  pub fold_most : (xs : List A) (start : ℕ) → start ≤ fold (λ most x. max most (size x)) start xs
  fold_most [] start = omega arith
  fold_most (x ∷ xs) start = omega (arith, fold_most xs (max start (size x)))

  pub fold_each : (xs : List A) (start : ℕ) → AllByRecursion (λ x. size x ≤ fold (λ most y. max most (size y)) start xs) xs
  fold_each [] start = tt
  fold_each (x ∷ xs) start = (omega (arith, fold_most xs (max start (size x))), fold_each xs (max start (size x)))

pub weights_within : (terms : List (ℕ × ℤ)) (start most : ℕ) → fold (λ most t. max most (unsigned_abs t.1)) start terms ≤ most
    → All (λ t. unsigned_abs t.1 ≤ most) terms
weights_within terms start most small = λ k d within.
    let each = All-from_recursion (λ (t : ℕ × ℤ). unsigned_abs t.1 ≤ fold (λ most t. max most (unsigned_abs t.1)) start terms) terms
    (fold_each (ℕ × ℤ) (λ t. unsigned_abs t.1) terms start) k d within in
    omega (arith, each, small)

pub constant_within : (terms : List (ℕ × ℤ)) (start most : ℕ) → fold (λ most t. max most (unsigned_abs t.1)) start terms ≤ most
    → start ≤ most
constant_within terms start most small = omega (arith, fold_most (ℕ × ℤ) (λ t. unsigned_abs t.1) terms start, small)

-- ---- numbers that are cast

-- 64 bits hold a small number that 128 bits held
pub cast_fits : (a : ℤ) → unsigned_abs a ≤ most_weight → FitsSigned w64 (to_z w128 (of_z w128 a))
cast_fits a small =
    subst (λ z. FitsSigned w64 z) (sym (back a (omega (arith, small)))) (fits_signed_from_abs w64 a (omega (arith, small)))

-- and it is the same
pub cast_back : (a : ℤ) → unsigned_abs a ≤ most_weight → to_z w64 (of_z w64 (to_z w128 (of_z w128 a))) ≡ a
cast_back a small = ap (λ z. to_z w64 (of_z w64 z)) (back a (omega (arith, small))) ∙ narrow_back a small

-- 128 bits hold a sum of two numbers of at most 104 bits
pub sum_fits : (a b : ℤ) → unsigned_abs a ≤ 2 ^ 104 → unsigned_abs b ≤ 2 ^ 104
    → FitsSigned w128 (to_z w128 (of_z w128 a) +ℤ to_z w128 (of_z w128 b))
sum_fits a b small other =
    let first : to_z w128 (of_z w128 a) ≡ a = back a (omega (arith, small)) in
    let second : to_z w128 (of_z w128 b) ≡ b = back b (omega (arith, other)) in
    rw (first, second) (fits_signed_from_abs w128 (a +ℤ b) (omega (arith, sum_size a b, small, other)))
