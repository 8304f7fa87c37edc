use Rattle.std.proofs.Common.{◌≡◌, drop}
use Rattle.place_pass.specs.Placing.{same_terms}
use Rattle.place_pass.proofs.nodes.same_terms.Given as goal

-- the rest decides
abbrev pub invariant-loop-at : goal.invariant-loop-at
invariant-loop-at l = same_terms l.terms l.others ≡ same_terms (drop l.at l.terms) (drop l.at l.others)
