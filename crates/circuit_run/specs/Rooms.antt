-- The room that a circuit is run in.
use Rattle.std.specs.Prelude.{◌≡◌, ℕ, ◌+◌, List, length, map, replicate, if◌then◌else◌}
use Rattle.std.specs.List.{zip}
use Rattle.blind_rotate.specs.BootKey.{GlweShape, glwe_shape}
use Rattle.fhe_params.specs.declared.params.Params.{Params}
use Rattle.fhe_params.specs.Params.{big_dimension}
use Rattle.tfhe_level.specs.declared.level.TfheOp.{TfheOp}
use Rattle.tfhe_level.specs.declared.shape.Circuit.{Circuit}
use Rattle.tfhe_level.specs.Operations.{is_switch}
use Rattle.tfhe_level.specs.Nodes.{nodes_of}

-- what a room holds: for each operation a ciphertext under the big key and one under the small key, and the shape of
-- the ciphertexts of bootstraps
pub record RoomWords : Type 0 where
  pub big : List (List ℕ)
  pub small : List (List ℕ)
  pub shape : GlweShape

-- the room of these
abbrev pub room_words : List (List ℕ) → List (List ℕ) → GlweShape → RoomWords
room_words big small shape = record { big = big; small = small; shape = shape }

-- how many words the ciphertext under the big key has: one, a body without a mask, where the operation has no such one
abbrev pub big_length : Params → TfheOp → ℕ
big_length p op = if is_switch op then 1 else big_dimension p + 1

-- and that under the small key, which key switches have
abbrev pub small_length : Params → TfheOp → ℕ
small_length p op = if is_switch op then p.lwe.n + 1 else 1

-- a room is made for a circuit
pub record IsRoomOf (c : Circuit) (room : RoomWords) : Type 0 where
  pub big : map length room.big ≡ map (big_length c.params) (nodes_of c.shape)
  pub small : map length room.small ≡ map (small_length c.params) (nodes_of c.shape)
  pub shape : room.shape ≡ glwe_shape c.params.glwe.k c.params.glwe.log_n

-- the room of a circuit as it is made: all words are 0
abbrev pub zero_room : Circuit → RoomWords
zero_room c = room_words
    (map (λ op. replicate (big_length c.params op) 0) (nodes_of c.shape))
    (map (λ op. replicate (small_length c.params op) 0) (nodes_of c.shape))
    (glwe_shape c.params.glwe.k c.params.glwe.log_n)

-- the words of an operation: of the ciphertext under the small key for a key switch, else of that under the big key
abbrev pub held_row : TfheOp × (List ℕ × List ℕ) → List ℕ
held_row node = if is_switch node.0 then node.1.1 else node.1.0

-- the words of these operations, one after the other
abbrev pub held_rows : List TfheOp → List (List ℕ) → List (List ℕ) → List (List ℕ)
held_rows operations big small = map held_row (zip operations (zip big small))

-- the words of a circuit's operations in its room
abbrev pub words_in : Circuit → RoomWords → List (List ℕ)
words_in c room = held_rows (nodes_of c.shape) room.big room.small
