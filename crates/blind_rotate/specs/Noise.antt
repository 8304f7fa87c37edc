-- What the accumulator of a bootstrap stands for, and the noise of the whole.
use Rattle.std.specs.Prelude.{◌≡◌, ℕ, ℤ, pos, ◌+◌, ◌-◌, ◌*◌, ◌%◌, ◌^◌, ◌<◌, ◌≤◌, Bool, List, length, map, take, slice_index}
use Rattle.word_ring.specs.Words.{word_difference, size}
use Rattle.word_ring.specs.Rows.{row_difference, RowWithin}
use Rattle.word_ring.specs.Rounding.{mod_switched}
use Rattle.lwe_core.specs.Secret.{ones_of}
use Rattle.lwe_core.specs.Phase.{masked_sum, phase_of}
use Rattle.lwe_core.specs.Encrypts.{Encrypts}
use Rattle.negacyclic.specs.Product.{rotation}
use Rattle.glwe_core.specs.Glwe.{FitsGlweKey, glwe_phase}
use Rattle.ggsw_core.specs.Noise.{rows_noise, digits_noise}
use Rattle.lut_encode.specs.TestPolynomial.{entry_at, test_polynomial}
use Rattle.blind_rotate.specs.BootKey.{GlweShape, BootRows, glwe_shape}
use Rattle.blind_rotate.specs.Fits.{KeyNumbers, BootKeyFits, key_polynomials}

-- the sum of the switched mask words whose bit is 1
abbrev pub switched_sum : ℕ → List Bool → List ℕ → ℕ
switched_sum log_n bits words = masked_sum bits (map (λ w. mod_switched w log_n) words)

-- the switched phase: the switched body minus the switched mask words whose bit is 1, modulo 2N
abbrev pub switched_phase : ℕ → List Bool → List ℕ → ℕ
switched_phase log_n bits words =
    (mod_switched (slice_index words (length bits)) log_n
    + (2 * 2 ^ log_n - switched_sum log_n bits words % (2 * 2 ^ log_n))) % (2 * 2 ^ log_n)

-- the exponent of X after i steps: minus the switched body, and those of the first i switched mask words whose bit is 1
abbrev pub exponent_after : ℕ → List Bool → List ℕ → ℕ → ℕ
exponent_after log_n bits words i =
    (2 * 2 ^ log_n - mod_switched (slice_index words (length bits)) log_n) + switched_sum log_n (take i bits) words

-- what one step adds to an error for either bit: the errors of the rows
abbrev pub step_noise : KeyNumbers → ℕ
step_noise p = rows_noise (p.k + 1) p.boot_level (2 ^ p.log_n) p.boot_base p.big_error

-- and what it adds besides for the bit 1: that of rounding to digits
abbrev pub one_noise : KeyNumbers → ℕ
one_noise p = digits_noise p.big_ones p.boot_base p.boot_level

-- what a bootstrap adds: n steps, of which as many have the bit 1 as the small key has ones
abbrev pub boot_noise : KeyNumbers → ℕ
boot_noise p = p.small_dim * step_noise p + p.small_ones * one_noise p

-- the accumulator after i steps: each coefficient of its phase is that of the test polynomial rotated so far, but for
-- the noise of the steps
pub record AccumulatorHolds (p : KeyNumbers) (big small : List Bool) (test words : List ℕ) (i : ℕ)
    (acc : List (List ℕ)) : Type 0 where
  pub fits : FitsGlweKey (2 ^ p.log_n) (key_polynomials p.k (2 ^ p.log_n) big) acc
  pub near :
      RowWithin (i * step_noise p + ones_of (take i small) * one_noise p)
      (row_difference (glwe_phase (key_polynomials p.k (2 ^ p.log_n) big) acc)
      (rotation (exponent_after p.log_n small words i) test))

-- the shape of the ciphertexts of the parameters
abbrev pub shape_of : KeyNumbers → GlweShape
shape_of p = glwe_shape p.k p.log_n

-- for all keys that fit, the phase of the result is coefficient 0 of the test polynomial rotated by minus the switched
-- phase, but for the noise
abbrev pub ReadsTest : BootRows → List ℕ → List ℕ → List ℕ → Type 0
ReadsTest key test words result =
    (p : KeyNumbers) (big small : List Bool) → shape_of p ≡ key.shape → BootKeyFits p big small key.ggsws
    → size (word_difference (phase_of big result)
    (slice_index (rotation (2 * 2 ^ p.log_n - switched_phase p.log_n small words) test) 0)) ≤ boot_noise p

-- for all keys that fit and all tables, where the ciphertext stands for a value within a bound that leaves room for the
-- noise of switching to 2N places, the result stands for the value's entry
abbrev pub LooksUp : BootRows → List ℕ → List ℕ → List ℕ → Type 0
LooksUp key test words result =
    (p : KeyNumbers) (big small : List Bool) (entries : List ℤ) (width v bound : ℕ)
    → shape_of p ≡ key.shape → BootKeyFits p big small key.ggsws
    → test ≡ test_polynomial entries (2 ^ p.log_n) width
    → v < 2 ^ width → Encrypts small words (pos v) width bound
    → bound + (1 + p.small_ones) * 2 ^ (62 - p.log_n) < 2 ^ (62 - width)
    → Encrypts big result (entry_at entries v) width (boot_noise p)
