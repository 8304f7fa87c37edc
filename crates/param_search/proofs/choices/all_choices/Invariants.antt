use Rattle.std.proofs.Common.{◌≡◌, take}
use Rattle.std.specs.List.{enumerate_from, flat_map}
use Rattle.param_search.specs.Choices.{lwe_choices}
use Rattle.param_search.proofs.choices.all_choices.Given as goal

abbrev pub invariant-loop-glwe : goal.invariant-loop-glwe
invariant-loop-glwe l = l.choices.items ≡ flat_map (λ glwe. lwe_choices l.table l.counts glwe.0) (take l.glwe (enumerate_from 0 l.table.glwe))
