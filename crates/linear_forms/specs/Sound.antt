-- Forms that are small, so that the code's numbers hold their sums and multiples.
use Rattle.std.specs.Prelude.{ℕ, ◌≤◌, ◌<◌, List, All, ℤ, unsigned_abs}
use Rattle.forms.specs.Forms.{AreRising}
use Rattle.forms.specs.Limits.{most_weight}
use Rattle.linear_forms.specs.declared.linear.Form.{Form}

-- terms are on leaves below this one
abbrev pub AreBelow : ℕ → List (ℕ × ℤ) → Type 0
AreBelow leaves terms = All (λ t. t.0 < leaves) terms

-- the weights are within 2^40 in size
abbrev pub AreSmallWeights : List (ℕ × ℤ) → Type 0
AreSmallWeights terms = All (λ t. unsigned_abs t.1 ≤ most_weight) terms

-- so is the constant of a form, whose terms rise in their leaves
pub record IsSmallForm (form : Form) : Type 0 where
  pub constant : unsigned_abs form.constant ≤ most_weight
  pub weights : AreSmallWeights form.terms
  pub rising : AreRising 0 form.terms
