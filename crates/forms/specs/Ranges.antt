-- Numbers and ranges of patterns and of circuits, and the width that holds them.
use Rattle.std.specs.Prelude.{ℕ, ◌^◌, ◌≤◌, All, List, [], ◌∷◌, fold, ℤ, pos, ◌<ℤ◌, ◌≤ℤ◌}
use Rattle.std.specs.Int.{int_min, int_max}
use Rattle.forms.specs.Limits.{least_number, most_number, most_width}
use Rattle.forms.specs.Forms.{span_of}

-- from the least to the greatest of the entries
abbrev pub range_of_entries : List ℤ → ℤ × ℤ
range_of_entries [] = (pos 0, pos 0)
range_of_entries (entry ∷ entries) = (fold int_min entry entries, fold int_max entry entries)

-- a number that an argument, an entry or a result may have
pub record IsNumber (z : ℤ) : Type 0 where
  pub low : least_number ≤ℤ z
  pub high : z ≤ℤ most_number

-- at least one number, and each of those
pub record IsNumberRange (lo hi : ℤ) : Type 0 where
  pub low : least_number ≤ℤ lo
  pub rising : lo ≤ℤ hi
  pub high : hi ≤ℤ most_number

-- a width holds these ranges: the greatest number of each less the least one is below 2^width
abbrev pub HoldsRanges : ℕ → List (ℤ × ℤ) → Type 0
HoldsRanges width ranges = All (λ range. span_of range <ℤ pos (2 ^ width)) ranges

-- the least width from 1 that holds these ranges, which is at most 16
pub record IsLeastWidth (ranges : List (ℤ × ℤ)) (width : ℕ) : Type 0 where
  pub low : 1 ≤ width
  pub high : width ≤ most_width
  pub holds : HoldsRanges width ranges
  pub least : (other : ℕ) → 1 ≤ other → HoldsRanges other ranges → width ≤ other
