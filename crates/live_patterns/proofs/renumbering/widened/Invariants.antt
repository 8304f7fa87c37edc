use Rattle.std.proofs.Common.{ℕ, ◌≤◌, ◌-◌, [], ◌∷◌}
use Rattle.forms.specs.Limits.{most_width}
use Rattle.forms.specs.Ranges.{HoldsRanges}
use Rattle.live_patterns.proofs.renumbering.widened.Given as goal

-- no smaller width holds the range
abbrev pub invariant-loop-range : goal.invariant-loop-range
invariant-loop-range l = record {
  from : l.width ≤ l.wide;
  most : l.wide ≤ most_width;
  least : (other : ℕ) → l.width ≤ other → HoldsRanges other (l.range ∷ []) → l.wide ≤ other;
}

abbrev pub decreases-loop-range : goal.decreases-loop-range
decreases-loop-range l = most_width - l.wide
