use Rattle.std.proofs.Common.{◌≡◌, false, take, length}
use Rattle.std.specs.Prelude.{filter_map}
use Rattle.std.specs.List.{AllByRecursion}
use Rattle.tfhe_level.specs.Nodes.{nodes_of}
use Rattle.param_search.specs.Search.{is_feasible, refusal_of}
use Rattle.param_search.proofs.least.first_of.Given as goal

-- none so far is feasible, and each was refused
abbrev pub invariant-loop-choice : goal.invariant-loop-choice
invariant-loop-choice l = record {
  none : AllByRecursion (λ choice. is_feasible l.table l.shape choice ≡ false) (take l.choice-index l.choices);
  refused : l.refused.items ≡ filter_map (refusal_of l.table l.shape) (take l.choice-index l.choices);
  room : length l.room ≡ length (nodes_of l.shape);
}
