-- What holds of the words that a run gives.
use Rattle.std.specs.Prelude.{◌≡◌, ℕ, ◌+◌, ◌<◌, Bool, List, length, Some, ℤ, slice_get, if◌then◌else◌}
use Rattle.lwe_core.specs.Encrypts.{Encrypts}
use Rattle.fhe_params.specs.Params.{big_dimension}
use Rattle.forms.specs.Forms.{number_at, range_at, IsIn, AreIn}
use Rattle.tfhe_level.specs.declared.level.TfheOp.{TfheOp}
use Rattle.tfhe_level.specs.declared.shape.Circuit.{Circuit}
use Rattle.tfhe_level.specs.Operations.{is_switch}
use Rattle.tfhe_level.specs.Nodes.{nodes_of, node_values, node_ranges, at_outs, clear_values}
use Rattle.tfhe_level.specs.Laws.{input_ranges}
use Rattle.noise_model.specs.Bounds.{noise_bound, noise_bounds}
use Rattle.noise_model.specs.Circuits.{IsCircuit}
use Rattle.circuit_run.specs.Running.{EvalKeys, row_at, run_words, output_words}
use Rattle.circuit_run.specs.Rooms.{RoomWords, IsRoomOf, words_in}
use Rattle.circuit_run.specs.Noise.{key_under, AreGood, AreRight}

-- the words of an operation, and where they stand in a room
pub record RowLaws : Type 0 where
  -- there are words for each operation
  pub number : (c : Circuit) (keys : EvalKeys) (inputs : List (List ℕ))
      → length (run_words c keys inputs) ≡ length (nodes_of c.shape)
  -- a key switch has them under the small key, each other operation under the big key
  pub held : (c : Circuit) (room : RoomWords) (place : ℕ) (op : TfheOp) → IsRoomOf c room
      → slice_get (nodes_of c.shape) place ≡ Some op
      → row_at (words_in c room) place ≡ (if is_switch op then row_at room.small place else row_at room.big place)

-- a run keeps what the inputs stand for
pub record NoiseLaws : Type 0 where
  -- each node stands for its value on whole numbers, within its bound
  pub node_noise : (c : Circuit) (keys : EvalKeys) (big small : List Bool) (values : List ℤ) (inputs : List (List ℕ))
      (place : ℕ) (op : TfheOp)
      → IsCircuit c → AreGood c keys big small values inputs → slice_get (nodes_of c.shape) place ≡ Some op
      → Encrypts (key_under big small op) (row_at (run_words c keys inputs) place)
      (number_at (node_values (nodes_of c.shape) values) place) c.shape.width
      (noise_bound c.params (nodes_of c.shape) place)
  -- and that value lies in the node's range
  pub node_range : (c : Circuit) (values : List ℤ) (place : ℕ)
      → IsCircuit c → AreIn (input_ranges (nodes_of c.shape)) values → place < length (nodes_of c.shape)
      → IsIn (range_at (node_ranges (nodes_of c.shape)) place) (number_at (node_values (nodes_of c.shape) values) place)
  -- so each output is right
  pub outputs_right : (c : Circuit) (keys : EvalKeys) (big small : List Bool) (values : List ℤ)
      (inputs : List (List ℕ))
      → IsCircuit c → AreGood c keys big small values inputs
      → AreRight big c.shape.width (at_outs (nodes_of c.shape) (node_ranges (nodes_of c.shape)))
      (at_outs (nodes_of c.shape) (noise_bounds c.params (nodes_of c.shape)))
      (output_words c keys inputs) (clear_values (nodes_of c.shape) values)
