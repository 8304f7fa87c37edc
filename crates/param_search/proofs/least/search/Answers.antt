use Rattle.std.proofs.Common.{All, subst, sym, ◌∙◌}
use Rattle.fhe_params.specs.Table.{IsChoice}
use Rattle.param_search.proofs.Chosen.{choices_are}
use Rattle.param_search.proofs.least.search.Goals as goal

pub first_of-requires-clause-choices : goal.first_of-requires-clause-choices
first_of-requires-clause-choices c =
    subst (λ l. All (λ choice. IsChoice c.args.table.now choice.choice) l) (sym (c.deref.ensures.value ∙ c.in_ok-choices.ensures)) (choices_are c.args.table.now c.counts.result)
