-- The least choice whose parameters meet all constraints, and the choices that are refused before it.
use Rattle.std.specs.Prelude.{Bool, List, take, filter_map, find, is_none, Option}
use Rattle.std.specs.List.{position_or_len}
use Rattle.std.specs.Option.{option_map}
use Rattle.fhe_params.specs.declared.table.Table.{Table}
use Rattle.fhe_params.specs.declared.table.Choice.{Choice}
use Rattle.fhe_params.specs.Table.{params_of}
use Rattle.tfhe_level.specs.declared.shape.Shape.{Shape}
use Rattle.tfhe_level.specs.Nodes.{nodes_of}
use Rattle.tfhe_level.specs.Counts.{counts_of}
use Rattle.noise_model.specs.declared.constraints.Broken.{Broken}
use Rattle.noise_model.specs.Constraints.{first_broken_of}
use Rattle.param_search.specs.declared.choices.Priced.{Priced}
use Rattle.param_search.specs.declared.least.Refused.{Refused}
use Rattle.param_search.specs.declared.least.Found.{Found}
use Rattle.param_search.specs.Choices.{choices_in_order}

-- the first constraint that the parameters of a choice break
abbrev pub broken_by : Table → Shape → Priced → Option Broken
broken_by table shape choice = first_broken_of (params_of table choice.choice) shape

-- they break none
abbrev pub is_feasible : Table → Shape → Priced → Bool
is_feasible table shape choice = is_none (broken_by table shape choice)

-- a choice that is refused, with its cost and the first constraint that it breaks
abbrev pub refused : Priced → Broken → Refused
refused choice broken = record { choice = choice.choice; cost = choice.cost; broken = broken }

abbrev pub refusal_of : Table → Shape → Priced → Option Refused
refusal_of table shape choice = option_map (refused choice) (broken_by table shape choice)

-- the first of these choices that breaks no constraint
abbrev pub first_feasible : Table → Shape → List Priced → Option Choice
first_feasible table shape choices = option_map (λ choice. choice.choice) (find (is_feasible table shape) choices)

-- the choices before it, or all
abbrev pub refused_before : Table → Shape → List Priced → List Refused
refused_before table shape choices =
    filter_map (refusal_of table shape) (take (position_or_len (is_feasible table shape) choices) choices)

-- the first in order that meets all constraints, if there is one
abbrev pub least_choice : Table → Shape → Option Choice
least_choice table shape = first_feasible table shape (choices_in_order table (counts_of (nodes_of shape)))

-- the choices before it in order, or all, each with its cost and the first constraint that it breaks
abbrev pub refused_choices : Table → Shape → List Refused
refused_choices table shape = refused_before table shape (choices_in_order table (counts_of (nodes_of shape)))

-- both
abbrev pub found_of : Table → Shape → Found
found_of table shape = record { refused = refused_choices table shape; chosen = least_choice table shape }
