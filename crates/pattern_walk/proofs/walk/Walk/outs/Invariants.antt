use Rattle.std.proofs.Common.{◌≡◌, map, take}
use Rattle.pattern_walk.specs.Sums.{form_at}
use Rattle.pattern_walk.proofs.walk.Walk.outs.Given as goal

-- the forms of the results so far
abbrev pub invariant-loop-number : goal.invariant-loop-number
invariant-loop-number l = l.outs.items ≡ map (form_at l.self.forms) (take l.number-index l.results)
