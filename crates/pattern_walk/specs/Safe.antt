-- What holds of the operations so far, so that the code's numbers hold what comes next.
use Rattle.std.specs.Prelude.{◌≡◌, ◌≢◌, ℕ, ◌+◌, ◌-◌, ◌^◌, ◌≤◌, List, length, take, count_by, All, ℤ, pos, ◌≤ℤ◌}
use Rattle.forms.specs.Forms.{AreRising}
use Rattle.linear_forms.specs.declared.linear.Form.{Form}
use Rattle.linear_forms.specs.Sound.{AreBelow, IsSmallForm}
use Rattle.fhe_level.specs.declared.program.Program.{Program}
use Rattle.fhe_level.specs.Checked.{looks_up}
use Rattle.pattern_walk.specs.Sums.{form_at}
use Rattle.pattern_walk.specs.Looking.{range_on}
use Rattle.pattern_walk.specs.Walking.{Walked, most_weights}

-- a range of numbers of 16 bits
pub record IsRangeOf16 (range : ℤ × ℤ) : Type 0 where
  pub low : pos 0 ≤ℤ range.0
  pub rising : range.0 ≤ℤ range.1
  pub high : range.1 ≤ℤ pos (2 ^ 16 - 1)

-- the terms of a form rise in their leaves, which are among so many, and no weight is 0
pub record IsBuilt (leaves : ℕ) (form : Form) : Type 0 where
  pub rising : AreRising 0 form.terms
  pub below : AreBelow leaves form.terms
  pub weights : All (λ t. t.1 ≢ pos 0) form.terms

-- a small form on these leaves, with values of 16 bits
pub record IsSafeForm (ranges : List (ℤ × ℤ)) (form : Form) : Type 0 where
  pub small : IsSmallForm form
  pub built : IsBuilt (length ranges) form
  pub range : IsRangeOf16 (range_on ranges form)

-- forms that are small, on so many leaves
abbrev pub AreSmallForms : ℕ → List (ℕ × Form) → Type 0
AreSmallForms leaves forms =
    (number : ℕ) → IsSmallForm (form_at forms number) × AreBelow leaves (form_at forms number).terms

-- so are the forms of all operations so far, and the ranges of the leaves, of which there are few
pub record IsSafe (program : Program) (walked : Walked) : Type 0 where
  pub forms : (number : ℕ) → IsSafeForm walked.ranges (form_at walked.forms number)
  pub ranges : All IsRangeOf16 walked.ranges
  pub leaves : length walked.ranges ≡ length program.args + length walked.looks
  pub looks : length walked.looks ≤ count_by looks_up (take walked.place program.graph.list)
  pub place : walked.place ≤ length program.graph.list
  pub weights : walked.weights ≤ most_weights
