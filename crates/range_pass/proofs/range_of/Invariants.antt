use Rattle.std.proofs.Common.{◌≡◌, map, take, ◌+ℤ◌}
use Rattle.forms.specs.Forms.{int_sum, least_of_term, greatest_of_term}
use Rattle.range_pass.proofs.Sums.{IsNear}
use Rattle.range_pass.proofs.range_of.Given as goal

-- the ends for the terms so far
abbrev pub invariant-loop-term : goal.invariant-loop-term
invariant-loop-term l = record {
  least : l.least ≡ l.constant +ℤ int_sum (map (least_of_term l.ranges) (take l.term-index l.terms));
  greatest : l.greatest ≡ l.constant +ℤ int_sum (map (greatest_of_term l.ranges) (take l.term-index l.terms));
  least_near : IsNear l.term-index l.least;
  greatest_near : IsNear l.term-index l.greatest;
}
