-- Patterns that keep their rules have few terms, entries and small numbers.
use Rattle.std.proofs.Common.{◌≡◌, ℕ, ◌+◌, ◌<◌, ◌≤◌, ◌^◌, Bool, true, false, cond, List, [], ◌∷◌, ◌++◌, length, fold, All, arith, ℤ, pos, ◌≤ℤ◌}
use lib.IntN.{negsuc}
use Rattle.std.specs.Prelude.{unsigned_abs, int_lt, count_by}
use Rattle.std.specs.Int.{int_min, int_max}
use Rattle.std.specs.List.{AllByRecursion}
use Rattle.std.proofs.lemmas.Int.{ints}
use Rattle.std.proofs.lemmas.List.Elements.{recursion_from_All}
use Rattle.std.proofs.lemmas.List.Sums.{sum_by-cons}
use Rattle.forms.specs.Forms.{AreRising}
use Rattle.forms.specs.Ranges.{IsNumber, IsNumberRange, range_of_entries}
use Rattle.forms.specs.Limits.{least_number, most_number}
use Rattle.range_pass.specs.Bounds.{IsSmallRange}

small_number : (z : ℤ) → least_number ≤ℤ z → z ≤ℤ most_number → unsigned_abs z ≤ 2 ^ 16
small_number (pos n) low high = omega (arith, ints, low, high)
small_number (negsuc n) low high = omega (arith, ints, low, high)

either_is : (test : Bool) (a b : ℤ) → IsNumber a → IsNumber b → IsNumber (cond test a b)
either_is true a b is_a is_b = is_a
either_is false a b is_a is_b = is_b

min_is : (a b : ℤ) → IsNumber a → IsNumber b → IsNumber (int_min a b)
min_is a b is_a is_b = either_is (int_lt b a) b a is_b is_a

max_is : (a b : ℤ) → IsNumber a → IsNumber b → IsNumber (int_max a b)
max_is a b is_a is_b = either_is (int_lt b a) a b is_a is_b

fold_is : (choose : ℤ → ℤ → ℤ) → ((a b : ℤ) → IsNumber a → IsNumber b → IsNumber (choose a b)) → (first : ℤ) (entries : List ℤ) → IsNumber first → AllByRecursion IsNumber entries → IsNumber (fold choose first entries)
fold_is choose keeps first [] is all = is
fold_is choose keeps first (entry ∷ entries) is all = fold_is choose keeps (choose first entry) entries (keeps first entry is all.0) all.1

small_is : (z : ℤ) → IsNumber z → unsigned_abs z ≤ 2 ^ 16
small_is z is = small_number z is.low is.high

entries_small : (entries : List ℤ) → AllByRecursion IsNumber entries → IsSmallRange (range_of_entries entries)
entries_small [] all = record { lo = omega arith; hi = omega arith }
entries_small (entry ∷ entries) all = record {
  lo = small_is (fold int_min entry entries) (fold_is int_min min_is entry entries all.0 all.1);
  hi = small_is (fold int_max entry entries) (fold_is int_max max_is entry entries all.0 all.1);
}

pub look_small : (entries : List ℤ) → All IsNumber entries → IsSmallRange (range_of_entries entries)
look_small entries all = entries_small entries (recursion_from_All IsNumber entries all)

pub input_small : (lo hi : ℤ) → IsNumberRange lo hi → IsSmallRange (lo, hi)
input_small lo hi is = record {
  lo = small_number lo is.low (omega (arith, ints, is.rising, is.high));
  hi = small_number hi (omega (arith, ints, is.low, is.rising)) is.high;
}

-- terms that rise are no more than the leaves
pub rising_few : (low bound : ℕ) (terms : List (ℕ × ℤ)) → low ≤ bound → AreRising low terms → AllByRecursion (λ t. t.0 < bound) terms → low + length terms ≤ bound
rising_few low bound [] le rising on = omega arith
rising_few low bound (t ∷ terms) le rising on =
    let rest = rising_few (t.0 + 1) bound terms (omega (arith, on.0)) rising.1 on.1 in
    omega (arith, rest, rising.0)

-- ---- counts

pub count_first : {A : Type 0} (kind : A → Bool) (op : A) (ops : List A) → count_by kind (op ∷ ops) ≡ cond (kind op) 1 0 + count_by kind ops
count_first kind op ops = sum_by-cons (λ x. cond (kind x) 1 0) op ops

pub count_push : {A : Type 0} (kind : A → Bool) (ops : List A) (op : A) → count_by kind (ops ++ op ∷ []) ≡ count_by kind ops + cond (kind op) 1 0
count_push kind [] op = omega (arith, count_first kind op [])
count_push kind (x ∷ ops) op = omega (arith, count_first kind x (ops ++ op ∷ []), count_first kind x ops, count_push kind ops op)
