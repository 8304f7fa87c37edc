-- What holds of the choices in order, and of the least one.
use Rattle.std.specs.Prelude.{◌≡◌, ◌↔◌, ◌<◌, ◌⊎◌, List, [], ◌∷◌, Some, None, IfSome, Contains}
use Rattle.std.specs.List.{AllByRecursion}
use Rattle.fhe_params.specs.declared.table.Table.{Table}
use Rattle.fhe_params.specs.declared.table.Choice.{Choice}
use Rattle.fhe_params.specs.declared.table.Counts.{Counts}
use Rattle.fhe_params.specs.Table.{IsChoice, params_of}
use Rattle.tfhe_level.specs.declared.shape.Shape.{Shape}
use Rattle.tfhe_level.specs.Nodes.{nodes_of}
use Rattle.tfhe_level.specs.Counts.{counts_of}
use Rattle.noise_model.specs.declared.constraints.Broken.{Broken}
use Rattle.noise_model.specs.Constraints.{first_broken_of, MeetsAll}
use Rattle.param_search.specs.declared.choices.Priced.{Priced}
use Rattle.param_search.specs.Choices.{price_of, choices_in_order}
use Rattle.param_search.specs.Search.{refused, least_choice, refused_choices}

-- the first place that differs is lower
abbrev pub HasLowerPlaces : Choice → Choice → Type 0
HasLowerPlaces a b =
    (a.glwe < b.glwe) ⊎ ((a.glwe ≡ b.glwe)
    × ((a.lwe < b.lwe) ⊎ ((a.lwe ≡ b.lwe)
    × ((a.boot < b.boot) ⊎ ((a.boot ≡ b.boot) × (a.switch < b.switch))))))

-- goes before: it costs less, or as much at lower places
abbrev pub GoesBefore : Priced → Priced → Type 0
GoesBefore a b = (a.cost < b.cost) ⊎ ((a.cost ≡ b.cost) × HasLowerPlaces a.choice b.choice)

-- each element stands so to all behind it
abbrev pub EachToLater : {A : Type 0} → (A → A → Type 0) → List A → Type 0
EachToLater R [] = Unit {0}
EachToLater R (x ∷ xs) = AllByRecursion (R x) xs × EachToLater R xs

-- a choice out of a table, with its cost for a shape
abbrev pub price_for : Table → Shape → Choice → Priced
price_for table shape choice = price_of table (counts_of (nodes_of shape)) choice

-- the choices out of a table
pub record OrderLaws : Type 0 where
  -- they stand in order
  pub ordered : (table : Table) (counts : Counts) → EachToLater GoesBefore (choices_in_order table counts)
  -- and all of them are there
  pub all : (table : Table) (counts : Counts) (choice : Choice)
      → IsChoice table choice ↔ Contains (choices_in_order table counts) (price_of table counts choice)

-- the least choice, and those that are refused
pub record SearchLaws : Type 0 where
  -- the least one is out of the table
  pub chosen : (table : Table) (shape : Shape) → IfSome (least_choice table shape) (IsChoice table)
  -- it meets all constraints
  pub meets : (table : Table) (shape : Shape)
      → IfSome (least_choice table shape) (λ choice. MeetsAll (params_of table choice) shape)
  -- and goes before each other one that meets them
  pub least : (table : Table) (shape : Shape) (choice other : Choice) → least_choice table shape ≡ Some choice
      → IsChoice table other → MeetsAll (params_of table other) shape
      → (other ≡ choice) ⊎ GoesBefore (price_for table shape choice) (price_for table shape other)
  -- where there is none, none out of the table meets them
  pub none : (table : Table) (shape : Shape) (other : Choice) → least_choice table shape ≡ None
      → IsChoice table other → MeetsAll (params_of table other) shape → ⊥
  -- each that goes before it, and each where there is none, is refused, with the first constraint that it breaks
  pub refused : (table : Table) (shape : Shape) (other : Choice) → IsChoice table other
      → IfSome (least_choice table shape)
      (λ choice. GoesBefore (price_for table shape other) (price_for table shape choice))
      → (broken : Broken) × (first_broken_of (params_of table other) shape ≡ Some broken)
      × Contains (refused_choices table shape) (refused (price_for table shape other) broken)
