-- What holds of the circuit that a program text comes to.
use Rattle.std.specs.Prelude.{◌≡◌, ℕ, List, Some, Ok, ℤ}
use Rattle.forms.specs.Forms.{AreIn}
use Rattle.fhe_level.specs.declared.program.Program.{Program}
use Rattle.fhe_level.specs.Programs.{clear_values}
use Rattle.fhe_level.specs.Clearing.{IsClear}
use Rattle.tfhe_level.specs.Nodes.{nodes_of}
use Rattle.tfhe_level.specs.Nodes as on_nodes
use Rattle.tfhe_level.specs.Laws.{input_ranges}
use Rattle.tfhe_level.specs.declared.shape.Shape.{Shape}
use Rattle.tfhe_level.specs.Rules.{IsShape}
use Rattle.fhe_params.specs.declared.table.Table.{Table}
use Rattle.fhe_params.specs.declared.table.Choice.{Choice}
use Rattle.fhe_params.specs.Table.{IsTable}
use Rattle.noise_model.specs.Circuits.{IsCircuit}
use Rattle.param_search.specs.Search.{least_choice}
use Rattle.compile_pipe.specs.Back.{circuit_with}
use Rattle.compile_pipe.specs.declared.parts.Front.{Front}
use Rattle.compile_pipe.specs.Front.{front_of}

-- a program can be computed for all arguments in their ranges: the number of each operation lies in its type
abbrev pub CanClear : Program → Type 0
CanClear program = (inputs : List ℤ) → AreIn program.args inputs → IsClear program inputs

-- the program that a text spells, and its circuit
pub record CompileLaws : Type 0 where
  -- the circuit has the arguments of the program as its inputs,
  pub inputs : (bytes : List ℕ) (front : Front) → front_of bytes ≡ Ok front
      → input_ranges (nodes_of front.shape) ≡ front.program.args
  -- and computes what the program computes, for all arguments in their ranges;
  pub values : (bytes : List ℕ) (front : Front) (inputs : List ℤ) → front_of bytes ≡ Ok front
      → AreIn front.program.args inputs
      → on_nodes.clear_values (nodes_of front.shape) inputs ≡ clear_values front.program inputs
  -- the circuit with the parameters of the least choice keeps the rules, and meets all constraints
  pub circuit : (table : Table) (shape : Shape) (choice : Choice) → IsTable table → IsShape shape
      → least_choice table shape ≡ Some choice → IsCircuit (circuit_with shape table choice)
  -- the program can be computed
  pub clear : (bytes : List ℕ) (front : Front) → front_of bytes ≡ Ok front → CanClear front.program
