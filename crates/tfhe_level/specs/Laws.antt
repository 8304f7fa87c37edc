-- What holds of the nodes of a circuit.
use Rattle.std.specs.Prelude.{◌≡◌, List, [], length, filter_map, Option, Some, None, ℤ}
use Rattle.forms.specs.Forms.{AreIn}
use Rattle.tfhe_level.specs.declared.level.TfheOp.{TfheOp}
use Rattle.tfhe_level.specs.declared.level.TfheOp.TheVariants.{Input}
use Rattle.tfhe_level.specs.Nodes.{node_values, node_ranges}
use Rattle.tfhe_level.specs.Rules.{KeepRules}

-- the range of an input
abbrev pub input_range : TfheOp → Option (ℤ × ℤ)
input_range (Input lo hi) = Some (lo, hi)
input_range _ = None

-- the ranges of the inputs, in order
abbrev pub input_ranges : List TfheOp → List (ℤ × ℤ)
input_ranges operations = filter_map input_range operations

-- values and ranges of all operations
pub record NodeLaws : Type 0 where
  -- there is one value for each operation
  pub values : (operations : List TfheOp) (inputs : List ℤ) → length (node_values operations inputs) ≡ length operations
  -- and one range
  pub ranges : (operations : List TfheOp) → length (node_ranges operations) ≡ length operations
  -- where the rules are kept and the inputs lie in their ranges, so does each value in its own
  pub values_in_ranges : (operations : List TfheOp) (inputs : List ℤ) → KeepRules operations [] operations
      → AreIn (input_ranges operations) inputs → AreIn (node_ranges operations) (node_values operations inputs)
