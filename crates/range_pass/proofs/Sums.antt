-- Sums over the terms of a form, term by term.
use Rattle.std.proofs.Common.{◌≡◌, ℕ, ◌+◌, ◌*◌, ◌^◌, ◌<◌, ◌≤◌, List, [], ◌∷◌, ◌++◌, length, map, take, get_or, ℤ, pos, neg_ℤ, ◌+ℤ◌, ◌≤ℤ◌, ap, ◌∙◌, sym, subst, w64, to_z, of_z, arith}
use lib.IntN.{negsuc}
use Rattle.std.specs.Prelude.{unsigned_abs, FitsSigned}
use Rattle.std.specs.Int.{w128}
use Rattle.std.proofs.lemmas.Int.{ints, to_z-of_z, fits_signed_from_abs}
use Rattle.std.proofs.lemmas.List.{take_more}
use Rattle.forms.specs.Forms.{int_sum}
use Rattle.forms.specs.Limits.{most_weight}
use Rattle.range_pass.specs.Bounds.{most_end}

next_sum : (x sum more : ℤ) → x +ℤ (sum +ℤ more) ≡ (x +ℤ sum) +ℤ more
next_sum x sum more = omega (arith, ints)

only_sum : (x : ℤ) → x +ℤ pos 0 ≡ pos 0 +ℤ x
only_sum x = omega (arith, ints)

sum_push : {T : Type 0} (f : T → ℤ) (terms : List T) (t : T)
    → int_sum (map f (terms ++ t ∷ [])) ≡ int_sum (map f terms) +ℤ f t
sum_push f [] t = only_sum (f t)
sum_push f (x ∷ terms) t = ap (λ sum. f x +ℤ sum) (sum_push f terms t) ∙ next_sum (f x) (int_sum (map f terms)) (f t)

-- one term more
pub sum_more : {T : Type 0} (f : T → ℤ) (terms : List T) (i : ℕ) (t : T) → i < length terms
    → int_sum (map f (take (i + 1) terms)) ≡ int_sum (map f (take i terms)) +ℤ f (get_or terms i t)
sum_more f terms i t within =
    ap (λ ts. int_sum (map f ts)) (take_more terms i t within) ∙ sum_push f (take i terms) (get_or terms i t)

-- so is the sum with a constant
pub form_more : {T : Type 0} (f : T → ℤ) (terms : List T) (i : ℕ) (t : T) (constant sum added : ℤ) → i < length terms
    → sum ≡ constant +ℤ int_sum (map f (take i terms)) → added ≡ f (get_or terms i t)
    → sum +ℤ added ≡ constant +ℤ int_sum (map f (take (i + 1) terms))
form_more f terms i t constant sum added within so_far next =
    let more : int_sum (map f (take (i + 1) terms)) ≡ int_sum (map f (take i terms)) +ℤ f (get_or terms i t) = sum_more f terms i t within in
    omega (arith, ints, so_far, next, more)

-- ---- size

-- a number that 64 bits and so many terms hold
pub record IsNear (terms : ℕ) (z : ℤ) : Type 0 where
  pub low : neg_ℤ (pos (2 ^ 63 + terms * (most_weight * most_end))) ≤ℤ z
  pub high : z ≤ℤ pos (2 ^ 63 + terms * (most_weight * most_end))

size_low : (z : ℤ) (n : ℕ) → unsigned_abs z ≤ n → neg_ℤ (pos n) ≤ℤ z
size_low (pos m) n small = omega (arith, ints)
size_low (negsuc m) n small = omega (arith, ints, small)

size_high : (z : ℤ) (n : ℕ) → unsigned_abs z ≤ n → z ≤ℤ pos n
size_high (pos m) n small = omega (arith, ints, small)
size_high (negsuc m) n small = omega (arith, ints)

pub near_more : (terms : ℕ) (z x : ℤ) → IsNear terms z → unsigned_abs x ≤ most_weight * most_end
    → IsNear (terms + 1) (z +ℤ x)
near_more terms z x near small =
    let low : neg_ℤ (pos (2 ^ 56)) ≤ℤ x = size_low x (2 ^ 56) small in
    let high : x ≤ℤ pos (2 ^ 56) = size_high x (2 ^ 56) small in
    record {
      low = omega (arith, ints, near.low, low);
      high = omega (arith, ints, near.high, high);
    }

-- ---- in the words of the code

-- a small number is that of its 64 bits, and of its 128 bits
small_given : (given added : ℤ) → unsigned_abs added ≤ most_weight * most_end → given ≡ to_z w64 (of_z w64 added)
    → to_z w128 (of_z w128 given) ≡ added
small_given given added small is =
    let same : given ≡ added = is ∙ to_z-of_z w64 added (fits_signed_from_abs w64 added (omega (arith, small))) in
    ap (λ z. to_z w128 (of_z w128 z)) same ∙ to_z-of_z w128 added (fits_signed_from_abs w128 added (omega (arith, small)))

pub near_abs : (terms : ℕ) (z : ℤ) → terms ≤ 4096 → IsNear terms z → unsigned_abs z < 2 ^ 100
near_abs terms (pos m) few near = omega (arith, ints, few, near.high)
near_abs terms (negsuc m) few near = omega (arith, ints, few, near.low)

near_fits : (terms : ℕ) (z : ℤ) → terms ≤ 4096 → IsNear terms z → FitsSigned w128 z
near_fits terms z few near = fits_signed_from_abs w128 z (omega (arith, near_abs terms z few near))

-- the sum with a term more fits
pub sum_fits : (terms : ℕ) (sum given added : ℤ) → terms + 1 ≤ 4096 → IsNear terms sum → unsigned_abs added ≤ most_weight * most_end
    → given ≡ to_z w64 (of_z w64 added) → FitsSigned w128 (sum +ℤ to_z w128 (of_z w128 given))
sum_fits terms sum given added few near small is =
    subst (λ z. FitsSigned w128 (sum +ℤ z)) (sym (small_given given added small is))
    (near_fits (terms + 1) (sum +ℤ added) few (near_more terms sum added near small))

-- and is what it should be
pub sum_is : (terms : ℕ) (sum given added : ℤ) → terms + 1 ≤ 4096 → IsNear terms sum → unsigned_abs added ≤ most_weight * most_end
    → given ≡ to_z w64 (of_z w64 added)
    → to_z w128 (of_z w128 (sum +ℤ to_z w128 (of_z w128 given))) ≡ sum +ℤ added
sum_is terms sum given added few near small is =
    to_z-of_z w128 (sum +ℤ to_z w128 (of_z w128 given)) (sum_fits terms sum given added few near small is)
    ∙ ap (λ z. sum +ℤ z) (small_given given added small is)
