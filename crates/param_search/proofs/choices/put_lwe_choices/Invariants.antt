use Rattle.std.proofs.Common.{◌≡◌, ◌++◌, take}
use Rattle.std.specs.List.{enumerate_from, flat_map}
use Rattle.param_search.specs.Choices.{boot_choices}
use Rattle.param_search.proofs.choices.put_lwe_choices.Given as goal

abbrev pub invariant-loop-lwe : goal.invariant-loop-lwe
invariant-loop-lwe l = l.choices.items ≡ l.initial.choices.items ++ flat_map (λ lwe. boot_choices l.table l.counts l.glwe lwe.0) (take l.lwe (enumerate_from 0 l.table.lwe))
