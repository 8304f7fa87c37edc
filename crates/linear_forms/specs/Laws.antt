-- What holds of sums and multiples of forms.
use Rattle.std.specs.Prelude.{◌≡◌, ◌≢◌, ℕ, ◌≤◌, ◌++◌, List, length, All, ℤ, pos, ◌+ℤ◌, unsigned_abs}
use Rattle.forms.specs.Forms.{form_value, form_range, AreRising}
use Rattle.linear_forms.specs.declared.linear.Form.{Form}
use Rattle.linear_forms.specs.Forms.{terms_of, weighted, combined, size_of}
use Rattle.linear_forms.specs.Sound.{AreBelow}

-- the value of a form
abbrev pub value_of : Form → List ℤ → ℤ
value_of form values = form_value form.constant form.terms values

-- values of sums and multiples, and what does not hang on further leaves
pub record SumLaws : Type 0 where
  -- the terms of weights rise in their leaves, which are below the number of leaves, and no weight is 0;
  pub rising : (leaves : ℕ) (weight : ℕ → ℤ) → AreRising 0 (terms_of leaves weight)
  pub below : (leaves : ℕ) (weight : ℕ → ℤ) → AreBelow leaves (terms_of leaves weight)
  pub weights : (leaves : ℕ) (weight : ℕ → ℤ) → All (λ t. t.1 ≢ pos 0) (terms_of leaves weight)
  -- there are no more than leaves
  pub count : (leaves : ℕ) (terms : List (ℕ × ℤ)) → AreRising 0 terms → AreBelow leaves terms → length terms ≤ leaves
  -- the value of a sum of multiples is that sum of the values
  pub value : (leaves : ℕ) (moved factor : ℤ) (form : Form) (other_factor : ℤ) (other : Form) (values : List ℤ)
      → AreBelow leaves form.terms → AreBelow leaves other.terms
      → value_of (combined leaves moved factor form other_factor other) values
      ≡ moved +ℤ weighted factor (value_of form values) other_factor (value_of other values)
  -- a value and a range stay where leaves are added
  pub value_stays : (constant : ℤ) (terms : List (ℕ × ℤ)) (values more : List ℤ) → AreBelow (length values) terms
      → form_value constant terms (values ++ more) ≡ form_value constant terms values
  pub range_stays : (constant : ℤ) (terms : List (ℕ × ℤ)) (ranges more : List (ℤ × ℤ)) → AreBelow (length ranges) terms
      → form_range constant terms (ranges ++ more) ≡ form_range constant terms ranges
  -- no number of a form is larger than its size
  pub constant_size : (form : Form) (most : ℕ) → size_of form ≤ most → unsigned_abs form.constant ≤ most
  pub weight_size : (form : Form) (most : ℕ) → size_of form ≤ most → All (λ t. unsigned_abs t.1 ≤ most) form.terms
