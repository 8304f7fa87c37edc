-- The choices out of a table, in the order in which they are tried.
use Rattle.std.specs.Prelude.{ℕ, nat_lt, List, [], ◌∷◌, map, if◌then◌else◌}
use Rattle.std.specs.List.{enumerate_from, flat_map}
use Rattle.fhe_params.specs.declared.table.Table.{Table}
use Rattle.fhe_params.specs.declared.table.Choice.{Choice}
use Rattle.fhe_params.specs.declared.table.Counts.{Counts}
use Rattle.fhe_params.specs.Table.{params_of}
use Rattle.fhe_params.specs.Cost.{cost_of}
use Rattle.param_search.specs.declared.choices.Priced.{Priced}

-- the choice of these places
abbrev pub choice_at : ℕ → ℕ → ℕ → ℕ → Choice
choice_at glwe lwe boot switch = record { glwe = glwe; lwe = lwe; boot = boot; switch = switch }

-- what a circuit that does so much costs under the parameters of a choice
abbrev pub cost_with : Table → Counts → Choice → ℕ
cost_with table counts choice = cost_of (params_of table choice) table.weights counts

-- the choice with its cost
abbrev pub price_of : Table → Counts → Choice → Priced
price_of table counts choice = record { cost = cost_with table counts choice; choice = choice }

-- ---- all choices, ordered by their places

-- those with these places in the first three lists
abbrev pub switch_choices : Table → Counts → ℕ → ℕ → ℕ → List Priced
switch_choices table counts glwe lwe boot =
    map (λ switch. price_of table counts (choice_at glwe lwe boot switch.0)) (enumerate_from 0 table.switch)

-- those with these places in the first two
abbrev pub boot_choices : Table → Counts → ℕ → ℕ → List Priced
boot_choices table counts glwe lwe =
    flat_map (λ boot. switch_choices table counts glwe lwe boot.0) (enumerate_from 0 table.boot)

-- those with this place in the first one
abbrev pub lwe_choices : Table → Counts → ℕ → List Priced
lwe_choices table counts glwe = flat_map (λ lwe. boot_choices table counts glwe lwe.0) (enumerate_from 0 table.lwe)

-- all of them
abbrev pub all_choices : Table → Counts → List Priced
all_choices table counts = flat_map (λ glwe. lwe_choices table counts glwe.0) (enumerate_from 0 table.glwe)

-- ---- ordered by cost, and those of one cost by their places

-- a choice behind all those that cost no more
abbrev pub put_by_cost : Priced → List Priced → List Priced
put_by_cost choice [] = choice ∷ []
put_by_cost choice (other ∷ others) =
    if nat_lt choice.cost other.cost then choice ∷ other ∷ others else other ∷ put_by_cost choice others

-- these choices, put one after the other behind those that are there
abbrev pub by_cost : List Priced → List Priced → List Priced
by_cost ordered [] = ordered
by_cost ordered (choice ∷ choices) = by_cost (put_by_cost choice ordered) choices

-- all choices by cost, and then by places
unfoldable pub choices_in_order : Table → Counts → List Priced
choices_in_order table counts = by_cost [] (all_choices table counts)
