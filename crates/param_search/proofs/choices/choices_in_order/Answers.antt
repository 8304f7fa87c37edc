use Rattle.std.proofs.Common.{[], ap, ◌∙◌}
use Rattle.std.proofs.Common.{rules}
use Rattle.std.proofs.lemmas.List.Sorted.{IsNonDecreasingBy-from_sort_by_key, answers_always}
use Rattle.param_search.specs.Choices.{by_cost, choices_in_order}
use Rattle.param_search.proofs.Ordering.{sorted_is}
use Rattle.param_search.proofs.Ties.{one_cost, tells}
use Rattle.param_search.proofs.choices.choices_in_order.Goals as goal

pub returns : goal.returns
unfolding choices_in_order
returns c =
    let up = IsNonDecreasingBy-from_sort_by_key (λ p. p.cost) _ c.in_ok-sort_by_key.ensures.sorted (λ a r q k. search rules) in
    let stable = c.in_ok-sort_by_key.ensures.stable (λ p. p.cost) (answers_always _ _ _ (λ f a r g h. search rules)) in
    sorted_is one_cost tells c.in_ok-choices.choices.items c.sort_by_key.new.self.items up stable ∙ ap (λ l. by_cost [] l) c.in_ok-choices.ensures
