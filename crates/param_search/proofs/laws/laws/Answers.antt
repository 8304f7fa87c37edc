use Rattle.param_search.specs.Choices.{price_of, choices_in_order}
use Rattle.fhe_params.specs.Table.{IsChoice}
use Rattle.param_search.proofs.Members.{contains_from, all_at}
use Rattle.param_search.proofs.Chosen.{choices_are, has_choice}
use Rattle.param_search.proofs.Ordered.{choices_ordered}
use Rattle.param_search.proofs.LeastOne.{chosen, meets, least, none, refused_before_it}
use Rattle.param_search.proofs.laws.laws.Goals as goal

pub returns-clause-order : goal.returns-clause-order
returns-clause-order c = record {
  ordered = choices_ordered;
  all = λ table counts choice. (
    λ is. contains_from (choices_in_order table counts) (price_of table counts choice) (has_choice table counts choice is),
    λ there. all_at (λ p. IsChoice table p.choice) (choices_in_order table counts) (price_of table counts choice) (choices_are table counts) there,
  );
}

pub returns-clause-search : goal.returns-clause-search
returns-clause-search c = record {
  chosen = chosen;
  meets = meets c.laws.ensures;
  least = least c.laws.ensures;
  none = none c.laws.ensures;
  refused = refused_before_it;
}
