-- What holds of forms.
use Rattle.std.specs.Prelude.{◌≡◌, ℕ, ◌<◌, ℤ, List, length, All}
use Rattle.forms.specs.Forms.{form_value, form_range, number_at, range_at, IsIn, AreIn, AreRanges, AreRising}

-- values that lie in ranges, and ends that are reached
pub record FormLaws : Type 0 where
  -- the value of a leaf lies in the leaf's range,
  pub leaf : (ranges : List (ℤ × ℤ)) (values : List ℤ) (place : ℕ) → AreIn ranges values → place < length ranges
      → IsIn (range_at ranges place) (number_at values place)
  -- and that of a form in the form's
  pub form : (constant : ℤ) (terms : List (ℕ × ℤ)) (ranges : List (ℤ × ℤ)) (values : List ℤ) → AreIn ranges values
      → All (λ t. t.0 < length ranges) terms
      → IsIn (form_range constant terms ranges) (form_value constant terms values)
  -- where no leaf has two terms and no range is empty, there are values of the leaves at which a form is the least
  -- number of its range,
  pub least_reached : (constant : ℤ) (terms : List (ℕ × ℤ)) (ranges : List (ℤ × ℤ)) → AreRanges ranges
      → AreRising 0 terms → All (λ t. t.0 < length ranges) terms
      → (values : List ℤ) × AreIn ranges values
      × (form_value constant terms values ≡ (form_range constant terms ranges).0)
  -- and values at which it is the greatest
  pub greatest_reached : (constant : ℤ) (terms : List (ℕ × ℤ)) (ranges : List (ℤ × ℤ)) → AreRanges ranges
      → AreRising 0 terms → All (λ t. t.0 < length ranges) terms
      → (values : List ℤ) × AreIn ranges values
      × (form_value constant terms values ≡ (form_range constant terms ranges).1)
