-- The laws of bootstraps and of their keys, as facts of the definitions alone.
use Rattle.std.specs.Prelude.{◌≡◌, ℕ, ℤ, pos, ◌+◌, ◌-◌, ◌*◌, ◌^◌, ◌<◌, ◌≤◌, Bool, List, length, slice_index}
use Rattle.lwe_core.specs.Secret.{ones_of}
use Rattle.lwe_core.specs.Phase.{FitsKey}
use Rattle.lwe_core.specs.Decoding.{encoded}
use Rattle.lwe_core.specs.Encrypts.{Encrypts}
use Rattle.negacyclic.specs.Product.{rotation}
use Rattle.glwe_core.specs.Glwe.{lengths_of, IsKeyFrom}
use Rattle.ggsw_core.specs.Ggsw.{GgswRows}
use Rattle.lut_encode.specs.TestPolynomial.{entry_at, test_polynomial}
use Rattle.blind_rotate.specs.BootKey.{BootRows, shape_lengths, ggsw_at, boot_row, with_boot_row, IsBootKey, HasBootRow}
use Rattle.blind_rotate.specs.Bootstrap.{accumulator_step, first_accumulator, bootstrapped}
use Rattle.blind_rotate.specs.Fits.{KeyNumbers, BootKeyFits, KeysFit, key_polynomials}
use Rattle.blind_rotate.specs.Noise.{switched_phase, shape_of, AccumulatorHolds, ReadsTest, LooksUp}

-- the polynomials of a flat key
pub record KeyPolynomialLaws : Type 0 where
  -- they are a key from it
  pub polynomials_are : (k n : ℕ) (flat : List Bool) → length flat ≡ k * n
      → IsKeyFrom k n flat (key_polynomials k n flat)
  -- and the only one
  pub polynomials_only : (k n : ℕ) (flat : List Bool) (key : List (List Bool)) → IsKeyFrom k n flat key
      → key ≡ key_polynomials k n flat

-- keys that fit
pub record FittingLaws : Type 0 where
  -- have a boot key that fits the secret key
  pub boot_key_fits : (p : KeyNumbers) (big small : List Bool) (switch : List (List ℕ)) (boot : List GgswRows)
      → KeysFit p big small switch boot → BootKeyFits p big small boot

-- what modulus switching leaves of a phase
pub record SwitchedPhaseLaws : Type 0 where
  -- where a ciphertext stands for a value that a width has room for, and its bound leaves room for the noise of
  -- switching, coefficient 0 of the test polynomial rotated by minus the switched phase is the encoding of the entry
  pub entry_read : (log_n width v bound small_ones : ℕ) (bits : List Bool) (words : List ℕ) (entries : List ℤ)
      → log_n ≤ 13 → v < 2 ^ width → ones_of bits ≤ small_ones → Encrypts bits words (pos v) width bound
      → bound + (1 + small_ones) * 2 ^ (62 - log_n) < 2 ^ (62 - width)
      → slice_index (rotation (2 * 2 ^ log_n - switched_phase log_n bits words)
      (test_polynomial entries (2 ^ log_n) width)) 0 ≡ encoded width (entry_at entries v)

-- the accumulator
pub record AccumulatorLaws : Type 0 where
  -- before the first step it has no noise
  pub accumulator_first : (p : KeyNumbers) (big small : List Bool) (key : List GgswRows) (test words : List ℕ)
      → BootKeyFits p big small key → length test ≡ 2 ^ p.log_n
      → AccumulatorHolds p big small test words 0
      (first_accumulator (shape_of p) test (slice_index words (length small)))
  -- and a step adds the noise of the rows, and where the bit is 1 that of rounding
  pub accumulator_kept : (p : KeyNumbers) (big small : List Bool) (key : List GgswRows) (test words : List ℕ)
      (i : ℕ) (acc : List (List ℕ))
      → BootKeyFits p big small key → length test ≡ 2 ^ p.log_n → FitsKey small words → i < length small
      → AccumulatorHolds p big small test words i acc
      → AccumulatorHolds p big small test words (i + 1)
      (accumulator_step p.log_n acc (ggsw_at key i) (slice_index words i))

-- bootstraps
pub record BootstrapLaws : Type 0 where
  -- the phase of the result is what the rotated test polynomial has at place 0, but for the noise
  pub bootstrapped_near : (key : BootRows) (test words : List ℕ)
      → length test ≡ 2 ^ key.shape.log_n → length words ≡ length key.ggsws + 1
      → ReadsTest key test words (bootstrapped key test words)
  -- so it stands for the entry of the value that the ciphertext stands for
  pub bootstrapped_entry : (key : BootRows) (test words : List ℕ)
      → key.shape.log_n ≤ 13 → length test ≡ 2 ^ key.shape.log_n → length words ≡ length key.ggsws + 1
      → LooksUp key test words (bootstrapped key test words)

-- what an exchanged row leaves
pub record ExchangeLaws : Type 0 where
  -- a boot key
  pub stays_key : (key : BootRows) (i j t : ℕ) (row : List (List ℕ)) → IsBootKey key → HasBootRow key i j t
      → lengths_of row ≡ shape_lengths key.shape → IsBootKey (with_boot_row key i j t row)
  -- the row in its place
  pub row_set : (key : BootRows) (i j t : ℕ) (row : List (List ℕ)) → IsBootKey key → HasBootRow key i j t
      → boot_row (with_boot_row key i j t row) i j t ≡ row
  -- and every other row where it stood
  pub others_stay : (key : BootRows) (i j t a b c : ℕ) (row : List (List ℕ)) → IsBootKey key
      → HasBootRow key i j t → HasBootRow key a b c → (i ≡ a → j ≡ b → t ≡ c → ⊥)
      → boot_row (with_boot_row key i j t row) a b c ≡ boot_row key a b c
