use Rattle.std.proofs.Common.{◌≡◌, ◌++◌, take, map}
use Rattle.std.specs.List.{enumerate_from}
use Rattle.param_search.specs.Choices.{price_of, choice_at}
use Rattle.param_search.proofs.choices.put_switch_choices.Given as goal

abbrev pub invariant-loop-switch : goal.invariant-loop-switch
invariant-loop-switch l = l.choices.items ≡ l.initial.choices.items ++ map (λ switch. price_of l.table l.counts (choice_at l.glwe l.lwe l.boot switch.0)) (take l.switch (enumerate_from 0 l.table.switch))
