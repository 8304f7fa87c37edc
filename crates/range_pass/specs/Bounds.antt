-- What a form and the ranges of its leaves keep, so that both ends of the form's range fit 128 bits.
use Rattle.std.specs.Prelude.{ℕ, ◌^◌, ◌<◌, ◌≤◌, List, length, All, ℤ, unsigned_abs}
use Rattle.forms.specs.Limits.{most_weight}

-- the terms of a form
abbrev pub most_terms : ℕ
most_terms = 4096

-- the size of an end of a leaf's range
abbrev pub most_end : ℕ
most_end = 2 ^ 16

-- the ends of a leaf's range are within their size
pub record IsSmallRange (range : ℤ × ℤ) : Type 0 where
  pub lo : unsigned_abs range.0 ≤ most_end
  pub hi : unsigned_abs range.1 ≤ most_end

-- a term is on one of the leaves, and its weight is within its size
pub record IsSmallTerm (leaves : ℕ) (term : ℕ × ℤ) : Type 0 where
  pub leaf : term.0 < leaves
  pub weight : unsigned_abs term.1 ≤ most_weight

-- so are all terms of a form and all ranges of its leaves, and the terms are not too many
pub record AreSmall (terms : List (ℕ × ℤ)) (ranges : List (ℤ × ℤ)) : Type 0 where
  pub few : length terms ≤ most_terms
  pub each_term : All (IsSmallTerm (length ranges)) terms
  pub each_range : All IsSmallRange ranges

-- both ends of the form's range are below 2^100 in size
pub record IsWide (range : ℤ × ℤ) : Type 0 where
  pub lo : unsigned_abs range.0 < 2 ^ 100
  pub hi : unsigned_abs range.1 < 2 ^ 100
