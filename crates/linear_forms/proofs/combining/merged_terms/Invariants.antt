use Rattle.std.proofs.Common.{◌≡◌, ℕ, ◌+◌, ◌-◌, ◌≤◌, ◌++◌, length, drop}
use Rattle.forms.specs.Forms.{AreRising}
use Rattle.linear_forms.specs.Forms.{terms_of, weights_of}
use Rattle.linear_forms.specs.Sound.{AreBelow}
use Rattle.linear_forms.proofs.combining.merged_terms.Given as goal

-- what is merged, and the terms of what is left, are the whole
abbrev pub invariant-loop-leaf : goal.invariant-loop-leaf
invariant-loop-leaf l = record {
  within : l.place ≤ length l.terms;
  other_within : l.other_place ≤ length l.others;
  rising : AreRising 0 (drop l.place l.terms);
  other_rising : AreRising 0 (drop l.other_place l.others);
  merged : (leaves : ℕ) → AreBelow leaves l.terms → AreBelow leaves l.others
      → l.merged.items ++ terms_of leaves (weights_of l.fn.factor (drop l.place l.terms) l.fn.other_factor (drop l.other_place l.others))
      ≡ terms_of leaves (weights_of l.fn.factor l.terms l.fn.other_factor l.others);
}

abbrev pub decreases-loop-leaf : goal.decreases-loop-leaf
decreases-loop-leaf l = (length l.terms - l.place) + (length l.others - l.other_place)
