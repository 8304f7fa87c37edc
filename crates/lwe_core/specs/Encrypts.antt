-- What a ciphertext stands for.
use Rattle.std.specs.Prelude.{ℕ, ℤ, pos, ◌-ℤ◌, ◌*ℤ◌, ◌≤◌, Bool, List}
use Rattle.std.specs.Int.RustNames.{unsigned_abs}
use Rattle.word_ring.specs.Words.{centred}
use Rattle.word_ring.specs.Signed.{word_of}
use Rattle.lwe_core.specs.Phase.{FitsKey, phase_of}
use Rattle.lwe_core.specs.Decoding.{value_step}

-- how far a phase is from the place v*2^(63-P) of a value, round the circle of the words
abbrev pub centred_error : ℕ → ℤ → ℕ → ℤ
centred_error phase value width = centred (word_of (pos phase -ℤ value *ℤ pos (value_step width)))

-- under the key of these bits a ciphertext of its dimension stands for the value, at a width and within a bound
pub record Encrypts (bits : List Bool) (words : List ℕ) (value : ℤ) (width bound : ℕ) : Type 0 where
  pub fits : FitsKey bits words
  pub near : unsigned_abs (centred_error (phase_of bits words) value width) ≤ bound
