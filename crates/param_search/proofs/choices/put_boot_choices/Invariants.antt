use Rattle.std.proofs.Common.{◌≡◌, ◌++◌, take}
use Rattle.std.specs.List.{enumerate_from, flat_map}
use Rattle.param_search.specs.Choices.{switch_choices}
use Rattle.param_search.proofs.choices.put_boot_choices.Given as goal

abbrev pub invariant-loop-boot : goal.invariant-loop-boot
invariant-loop-boot l = l.choices.items ≡ l.initial.choices.items ++ flat_map (λ boot. switch_choices l.table l.counts l.glwe l.lwe boot.0) (take l.boot (enumerate_from 0 l.table.boot))
