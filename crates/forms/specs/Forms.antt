-- A form is a constant and terms; a term is the number of a leaf and its weight. A range is its least and its greatest
-- number.
use Rattle.std.specs.Prelude.{ℕ, ◌+◌, ◌≤◌, All, List, [], ◌∷◌, map, ℤ, pos, ◌+ℤ◌, ◌-ℤ◌, ◌*ℤ◌, ◌≤ℤ◌, int_lt, if◌then◌else◌}
use Rattle.std.specs.List.{slice_index_or}

-- the sum of these numbers
abbrev pub int_sum : List ℤ → ℤ
int_sum [] = pos 0
int_sum (z ∷ zs) = z +ℤ int_sum zs

-- the number at a place, and 0 past the end
abbrev pub number_at : List ℤ → ℕ → ℤ
number_at numbers place = slice_index_or numbers place (pos 0)

-- the value of a form where the leaves have these values: its constant, and each weight times its leaf
abbrev pub form_value : ℤ → List (ℕ × ℤ) → List ℤ → ℤ
form_value constant terms values = constant +ℤ int_sum (map (λ t. t.1 *ℤ number_at values t.0) terms)

-- the range at a place
abbrev pub range_at : List (ℤ × ℤ) → ℕ → ℤ × ℤ
range_at ranges place = slice_index_or ranges place (pos 0, pos 0)

-- the end of a leaf's range at which a term is least: the greatest one for a weight below 0
abbrev pub least_end : List (ℤ × ℤ) → ℕ × ℤ → ℤ
least_end ranges t = if int_lt t.1 (pos 0) then (range_at ranges t.0).1 else (range_at ranges t.0).0

-- the end at which it is greatest
abbrev pub greatest_end : List (ℤ × ℤ) → ℕ × ℤ → ℤ
greatest_end ranges t = if int_lt t.1 (pos 0) then (range_at ranges t.0).0 else (range_at ranges t.0).1

-- the least value of a term
abbrev pub least_of_term : List (ℤ × ℤ) → ℕ × ℤ → ℤ
least_of_term ranges t = t.1 *ℤ least_end ranges t

-- the greatest value of a term
abbrev pub greatest_of_term : List (ℤ × ℤ) → ℕ × ℤ → ℤ
greatest_of_term ranges t = t.1 *ℤ greatest_end ranges t

-- the range of a form where the leaves have these ranges: its constant, and the ends of its terms
abbrev pub form_range : ℤ → List (ℕ × ℤ) → List (ℤ × ℤ) → ℤ × ℤ
form_range constant terms ranges =
    (constant +ℤ int_sum (map (least_of_term ranges) terms), constant +ℤ int_sum (map (greatest_of_term ranges) terms))

-- the greatest number of a range less the least one
abbrev pub span_of : ℤ × ℤ → ℤ
span_of range = range.1 -ℤ range.0

-- a number in a range
pub record IsIn (range : ℤ × ℤ) (value : ℤ) : Type 0 where
  pub least : range.0 ≤ℤ value
  pub most : value ≤ℤ range.1

-- one value for each range, in it
abbrev pub AreIn : List (ℤ × ℤ) → List ℤ → Type 0
AreIn [] [] = Unit {0}
AreIn (range ∷ ranges) (value ∷ values) = IsIn range value × AreIn ranges values
AreIn [] (value ∷ values) = ⊥
AreIn (range ∷ ranges) [] = ⊥

-- no range is empty
abbrev pub AreRanges : List (ℤ × ℤ) → Type 0
AreRanges ranges = All (λ range. range.0 ≤ℤ range.1) ranges

-- terms rise in their leaves, from this one on, so that no leaf has two
abbrev pub AreRising : ℕ → List (ℕ × ℤ) → Type 0
AreRising low [] = Unit {0}
AreRising low (t ∷ terms) = (low ≤ t.0) × AreRising (t.0 + 1) terms
