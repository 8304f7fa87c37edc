-- Switch keys: rows under the small key, which take ciphertexts under the big key to it.
use Rattle.std.specs.Prelude.{◌≡◌, ℕ, ◌+◌, ◌-◌, ◌*◌, ◌<◌, ◌≤◌, Bool, false, List, [], length, replicate, slice_set, All}
use Rattle.std.specs.List.{slice_index_or}
use Rattle.word_ring.specs.Words.{word_difference, size}
use Rattle.word_ring.specs.Rows.{AllOfLength}
use Rattle.lwe_core.specs.Secret.{bit_word}
use Rattle.lwe_core.specs.Phase.{FitsKey, phase_of}
use Rattle.gadget_decomp.specs.Decomposition.{IsGadget, place_weight}

-- a switch key: its dimensions, how words are taken to digits, and its rows
pub record SwitchRows : Type 0 where
  pub big_dim : ℕ
  pub small_dim : ℕ
  pub base : ℕ
  pub level : ℕ
  pub rows : List (List ℕ)

-- the key of these dimensions, base, level and rows
abbrev pub switch_rows : ℕ → ℕ → ℕ → ℕ → List (List ℕ) → SwitchRows
switch_rows big_dim small_dim base level rows = record {
  big_dim = big_dim;
  small_dim = small_dim;
  base = base;
  level = level;
  rows = rows;
}

-- where row (i, t) stands: the rows of bit 0 of the big key, t from 1 to the level, then those of bit 1, and so on
abbrev pub place_of : ℕ → ℕ → ℕ → ℕ
place_of level i t = i * level + (t - 1)

-- row (i, t) of the rows of a key
abbrev pub row_of : ℕ → List (List ℕ) → ℕ → ℕ → List ℕ
row_of level rows i t = slice_index_or rows (place_of level i t) []

-- the words of a switch key are as its dimensions say: a row for each bit of the big key and each place
pub record IsSwitchKey (key : SwitchRows) : Type 0 where
  pub gadget : IsGadget key.base key.level
  pub count : length key.rows ≡ key.big_dim * key.level
  pub long : AllOfLength (key.small_dim + 1) key.rows

-- the key has a row (i, t)
pub record HasRow (key : SwitchRows) (i t : ℕ) : Type 0 where
  pub word : i < key.big_dim
  pub first : 1 ≤ t
  pub last : t ≤ key.level

-- the key whose rows are 0
abbrev pub zero_key : ℕ → ℕ → ℕ → ℕ → SwitchRows
zero_key big_dim small_dim base level =
    switch_rows big_dim small_dim base level (replicate (big_dim * level) (replicate (small_dim + 1) 0))

-- the key with another row (i, t)
abbrev pub with_row : SwitchRows → ℕ → ℕ → List ℕ → SwitchRows
with_row key i t row = record key { rows = slice_set key.rows (place_of key.level i t) row }

-- what row (i, t) stands for: bit i of the big key times the weight of place t
abbrev pub message_of : ℕ → List Bool → ℕ → ℕ → ℕ
message_of base big i t = bit_word (slice_index_or big i false) * place_weight base t

-- the part of the fitting keys on switch rows: there are rows of the small key's dimension for all bits of the big key
-- and all places, and under the small key each has its message as phase, with an error of at most `error` in size
pub record SwitchRowsFit (base level error : ℕ) (big small : List Bool) (rows : List (List ℕ)) : Type 0 where
  pub count : length rows ≡ length big * level
  pub long : All (FitsKey small) rows
  pub near :
      (i t : ℕ) → i < length big → 1 ≤ t → t ≤ level
      → size (word_difference (phase_of small (row_of level rows i t)) (message_of base big i t)) ≤ error
