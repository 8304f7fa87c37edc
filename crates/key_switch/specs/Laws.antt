-- What switching does to phases, and what stands in a key whose row was exchanged.
use Rattle.std.specs.Prelude.{◌≡◌, ◌+◌, ◌≤◌, ℕ, Bool, List, length}
use Rattle.word_ring.specs.Words.{word_difference, size}
use Rattle.lwe_core.specs.Secret.{ones_of}
use Rattle.lwe_core.specs.Phase.{phase_of}
use Rattle.key_switch.specs.Key.{SwitchRows, IsSwitchKey, HasRow, SwitchRowsFit, row_of, with_row}
use Rattle.key_switch.specs.Switching.{switched, switch_noise}

-- a switch key, of what it is, whose rows fit a big key with at most so many ones and a small key within an error
pub record SwitchKeyFits (key : SwitchRows) (big small : List Bool) (big_ones error : ℕ) : Type 0 where
  pub is_key : IsSwitchKey key
  pub big_length : length big ≡ key.big_dim
  pub small_length : length small ≡ key.small_dim
  pub few_ones : ones_of big ≤ big_ones
  pub rows_fit : SwitchRowsFit key.base key.level error big small key.rows

-- for all keys that it fits, a ciphertext's phase under the small key is near the phase of another under the big one
abbrev pub KeepsPhase : SwitchRows → List ℕ → List ℕ → Type 0
KeepsPhase key before after =
    (big small : List Bool) (big_ones error : ℕ) → SwitchKeyFits key big small big_ones error
    → size (word_difference (phase_of small after) (phase_of big before))
    ≤ switch_noise key.big_dim key.base key.level big_ones error

-- what switching gives
pub record SwitchLaws : Type 0 where
  -- as many words as the small key's ciphertexts have
  pub switched_length :
      (key : SwitchRows) (words : List ℕ) → IsSwitchKey key
      → length (switched key words) ≡ key.small_dim + 1
  -- whose phase is near the old one, for every key
  pub switched_near :
      (key : SwitchRows) (words : List ℕ) → length words ≡ key.big_dim + 1
      → KeepsPhase key words (switched key words)

-- what an exchanged row leaves
pub record ExchangeLaws : Type 0 where
  -- the key stays one of its dimensions
  pub stays_key :
      (key : SwitchRows) (i t : ℕ) (row : List ℕ) → IsSwitchKey key → length row ≡ key.small_dim + 1
      → IsSwitchKey (with_row key i t row)
  -- the row stands in its place
  pub row_set :
      (key : SwitchRows) (i t : ℕ) (row : List ℕ) → IsSwitchKey key → HasRow key i t
      → row_of key.level (with_row key i t row).rows i t ≡ row
  -- and every other row where it stood
  pub others_stay :
      (key : SwitchRows) (i t j u : ℕ) (row : List ℕ) → HasRow key i t → HasRow key j u
      → (i ≡ j → t ≡ u → ⊥)
      → row_of key.level (with_row key i t row).rows j u ≡ row_of key.level key.rows j u
