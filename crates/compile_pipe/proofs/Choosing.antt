-- The circuit of the least choice.
use Rattle.std.proofs.Common.{◌≡◌, Option, Some, None, subst}
use Rattle.std.specs.Prelude.{IfSome}
use Rattle.fhe_params.specs.declared.table.Table.{Table}
use Rattle.fhe_params.specs.declared.table.Choice.{Choice}
use Rattle.fhe_params.specs.Table.{IsTable, IsChoice, params_of}
use Rattle.fhe_params.specs.Laws.{TableLaws}
use Rattle.tfhe_level.specs.declared.shape.Shape.{Shape}
use Rattle.tfhe_level.specs.Rules.{IsShape}
use Rattle.noise_model.specs.Circuits.{IsCircuit}
use Rattle.noise_model.specs.Constraints.{MeetsAll}
use Rattle.param_search.specs.Search.{least_choice}
use Rattle.param_search.specs.Laws.{SearchLaws}
use Rattle.compile_pipe.specs.Back.{circuit_with}

of_some : {A : Type 0} (P : A → Type 0) (found : Option A) (x : A) → found ≡ Some x → IfSome found P → P x
of_some P (Some y) x e held = let same : y ≡ x = cc in subst P same held
of_some P None x e held = absurd cc

pub chosen_is_circuit : TableLaws → SearchLaws → (table : Table) (shape : Shape) (choice : Choice) → IsTable table → IsShape shape
    → least_choice table shape ≡ Some choice → IsCircuit (circuit_with shape table choice)
chosen_is_circuit tables search table shape choice is_table is_shape least = record {
  shape = is_shape;
  params = tables.params table choice is_table (of_some (IsChoice table) (least_choice table shape) choice least (search.chosen table shape));
  meets = of_some (λ (c : Choice). MeetsAll (params_of table c) shape) (least_choice table shape) choice least (search.meets table shape);
}
