-- One operation: what its keys and operands have to be, and how the room is after it.
use Rattle.std.specs.Prelude.{◌≡◌, ℕ, ◌+◌, ◌^◌, ◌<◌, ◌≤◌, List, length, take, slice_set, All, IsTrue, Option, Some, None, ℤ}
use Rattle.std.specs.List.{list_any}
use Rattle.key_switch.specs.Key.{SwitchRows}
use Rattle.blind_rotate.specs.BootKey.{BootRows, glwe_shape}
use Rattle.fhe_params.specs.declared.params.Params.{Params}
use Rattle.fhe_params.specs.Params.{big_dimension}
use Rattle.tfhe_level.specs.declared.level.TfheOp.{TfheOp}
use Rattle.tfhe_level.specs.declared.level.TfheOp.TheVariants.{Input, Lin, Switch, Boot, Out}
use Rattle.tfhe_level.specs.declared.shape.Circuit.{Circuit}
use Rattle.tfhe_level.specs.Operations.{is_boot}
use Rattle.tfhe_level.specs.Nodes.{nodes_of}
use Rattle.tfhe_level.specs.Laws.{input_ranges}
use Rattle.circuit_run.specs.Running.{EvalKeys, row_at, lin_row, switched_by, looked_up_by}
use Rattle.circuit_run.specs.Rooms.{RoomWords}

-- ---- keys and inputs

-- a switch key of the parameters' dimensions
abbrev pub SwitchesFor : Params → Option SwitchRows → Type 0
SwitchesFor p (Some key) = (key.big_dim ≡ big_dimension p) × (key.small_dim ≡ p.lwe.n)
SwitchesFor p None = ⊥

-- a boot key of the parameters' shape, for a small key of their dimension
abbrev pub BootsFor : Params → Option BootRows → Type 0
BootsFor p (Some key) = (key.shape ≡ glwe_shape p.glwe.k p.glwe.log_n) × (length key.ggsws ≡ p.lwe.n)
BootsFor p None = ⊥

-- where a circuit has a bootstrap, both keys are there
pub record HasKeys (c : Circuit) (keys : EvalKeys) : Type 0 where
  pub switch : IsTrue (list_any is_boot (nodes_of c.shape)) → SwitchesFor c.params keys.switch
  pub boot : IsTrue (list_any is_boot (nodes_of c.shape)) → BootsFor c.params keys.boot

-- a ciphertext for each input, of the big key's dimension
pub record AreInputs (c : Circuit) (inputs : List (List ℕ)) : Type 0 where
  pub number : length inputs ≡ length (input_ranges (nodes_of c.shape))
  pub words : All (λ row. length row ≡ big_dimension c.params + 1) inputs

-- ---- one operation

-- the ciphertext at a place has the big key's dimension
pub record IsBigAt (p : Params) (rows : List (List ℕ)) (place : ℕ) : Type 0 where
  pub there : place < length rows
  pub words : length (row_at rows place) ≡ big_dimension p + 1

-- it has the small key's
pub record IsSmallAt (p : Params) (rows : List (List ℕ)) (place : ℕ) : Type 0 where
  pub there : place < length rows
  pub words : length (row_at rows place) ≡ p.lwe.n + 1

-- a table has entries, no more than values of the width, and the test polynomial has room for them
pub record IsTableFor (p : Params) (width : ℕ) (entries : List ℤ) : Type 0 where
  pub some_bits : 1 ≤ width
  pub some : 1 ≤ length entries
  pub few : length entries ≤ 2 ^ width
  pub within : 2 ^ width < 2 ^ p.glwe.log_n

-- the operation with a number can be computed: there are its input, its operands, its key and its table
abbrev pub CanStep : Circuit → EvalKeys → List (List ℕ) → RoomWords → ℕ → TfheOp → Type 0
CanStep c keys inputs room number (Input lo hi) = IsBigAt c.params inputs number × IsBigAt c.params room.big number
CanStep c keys inputs room number (Lin constant terms) =
    All (λ t. (t.0 < number) × IsBigAt c.params room.big t.0) terms × IsBigAt c.params room.big number
CanStep c keys inputs room number (Switch source) =
    IsBigAt c.params room.big source × IsSmallAt c.params room.small number × SwitchesFor c.params keys.switch
CanStep c keys inputs room number (Boot source entries) =
    IsSmallAt c.params room.small source × IsBigAt c.params room.big number
    × BootsFor c.params keys.boot × IsTableFor c.params c.shape.width entries
CanStep c keys inputs room number (Out source lo hi) =
    (source < number) × IsBigAt c.params room.big source × IsBigAt c.params room.big number

-- a room with another ciphertext under the big key at a place
abbrev pub with_big : RoomWords → ℕ → List ℕ → RoomWords
with_big room number row = record room { big = slice_set room.big number row }

-- and with one under the small key
abbrev pub with_small : RoomWords → ℕ → List ℕ → RoomWords
with_small room number row = record room { small = slice_set room.small number row }

-- a room after the operation with a number
abbrev pub stepped : Circuit → EvalKeys → List (List ℕ) → RoomWords → ℕ → TfheOp → RoomWords
stepped c keys inputs room number (Input lo hi) = with_big room number (row_at inputs number)
stepped c keys inputs room number (Lin constant terms) =
    with_big room number (lin_row (big_dimension c.params) c.shape.width constant terms (take number room.big))
stepped c keys inputs room number (Switch source) =
    with_small room number (switched_by keys.switch (row_at room.big source))
stepped c keys inputs room number (Boot source entries) =
    with_big room number (looked_up_by keys.boot c.shape.width entries (row_at room.small source))
stepped c keys inputs room number (Out source lo hi) = with_big room number (row_at room.big source)
