-- The laws of ciphertexts under a key, as facts of the definitions alone.
use Rattle.std.specs.Prelude.{◌≡◌, ℕ, ◌+◌, ◌-◌, ◌*◌, ◌%◌, ◌^◌, ◌<◌, ◌≤◌, ℤ, pos, ◌+ℤ◌, ◌-ℤ◌, ◌*ℤ◌, ◌≤ℤ◌, ◌<ℤ◌, Bool, false, List, ◌++◌, All, length, replicate, take, slice_set}
use Rattle.std.specs.Int.RustNames.{unsigned_abs}
use Rattle.std.specs.List.{zip, sum_by, slice_index_or}
use Rattle.word_ring.specs.Words.{IsWord, word_sum, word_difference, word_product, size}
use Rattle.word_ring.specs.Rows.{row_sum, row_difference, scaled_row, sum_with_scaled, combined, sum_of_rows, RowWithin}
use Rattle.word_ring.specs.Signed.{word_of}
use Rattle.lwe_core.specs.Secret.{bit_word, bit_words, ones_of}
use Rattle.lwe_core.specs.Phase.{FitsKey, masked_sum, phase_of, sealed, trivial, with_message}
use Rattle.lwe_core.specs.Decoding.{encoded, decoded}
use Rattle.lwe_core.specs.Encrypts.{centred_error, Encrypts}

-- the phase is linear on the ciphertexts of the key's dimension
pub record PhaseLaws : Type 0 where
  -- it is a word
  pub phase_word : (bits : List Bool) (xs : List ℕ) → IsWord (phase_of bits xs)
  -- the phase of a sum is the sum of the phases
  pub phase_sum : (bits : List Bool) (xs ys : List ℕ) → FitsKey bits xs → FitsKey bits ys
      → phase_of bits (row_sum xs ys) ≡ word_sum (phase_of bits xs) (phase_of bits ys)
  -- that of a difference their difference
  pub phase_difference : (bits : List Bool) (xs ys : List ℕ) → FitsKey bits xs → FitsKey bits ys
      → phase_of bits (row_difference xs ys) ≡ word_difference (phase_of bits xs) (phase_of bits ys)
  -- that of a multiple the multiple
  pub phase_multiple : (bits : List Bool) (factor : ℕ) (xs : List ℕ) → FitsKey bits xs
      → phase_of bits (scaled_row factor xs) ≡ word_product factor (phase_of bits xs)
  -- and so that of a sum with a multiple
  pub phase_sum_with_multiple : (bits : List Bool) (factor : ℕ) (xs ys : List ℕ) → FitsKey bits xs → FitsKey bits ys
      → phase_of bits (sum_with_scaled xs factor ys) ≡ word_sum (phase_of bits xs) (factor * phase_of bits ys)
  -- and of a weighted sum
  pub phase_combined : (bits : List Bool) (into weights : List ℕ) (rows : List (List ℕ))
      → FitsKey bits into → All (FitsKey bits) rows
      → phase_of bits (combined into weights rows)
      ≡ (phase_of bits into + sum_by (λ p. p.0 * phase_of bits p.1) (zip weights rows)) % 2 ^ 64
  -- and of a sum of many
  pub phase_sum_of_rows : (bits : List Bool) (rows : List (List ℕ)) → All (FitsKey bits) rows
      → phase_of bits (sum_of_rows (length bits + 1) rows) ≡ sum_by (phase_of bits) rows % 2 ^ 64
  -- a sealed ciphertext has the phase that it was sealed with
  pub phase_sealed : (bits : List Bool) (words : List ℕ) (phase : ℕ) → FitsKey bits words
      → phase_of bits (sealed bits words phase) ≡ phase % 2 ^ 64
  -- without a mask every key reads the body
  pub phase_trivial : (bits : List Bool) (body : ℕ) → phase_of bits (trivial (length bits) body) ≡ body % 2 ^ 64

-- how many ones a key has
pub record OnesLaws : Type 0 where
  -- no more than bits
  pub ones_most : (bits : List Bool) → ones_of bits ≤ length bits
  -- those of two keys end to end are those of both
  pub ones_append : (bits others : List Bool) → ones_of (bits ++ others) ≡ ones_of bits + ones_of others
  -- a bit that is set stands for the one that it takes the place of
  pub ones_set : (bits : List Bool) (place : ℕ) (bit : Bool) → place < length bits
      → ones_of (slice_set bits place bit) + bit_word (slice_index_or bits place false) ≡ ones_of bits + bit_word bit
  -- the first bits and one more
  pub ones_more : (bits : List Bool) (i : ℕ) → i < length bits
      → ones_of (take (i + 1) bits) ≡ ones_of (take i bits) + bit_word (slice_index_or bits i false)
  -- the first bits have no more ones than all of them
  pub ones_first : (bits : List Bool) (i : ℕ) → ones_of (take i bits) ≤ ones_of bits
  -- the sizes of the bits as words, together, are the ones
  pub ones_size : (bits : List Bool) → sum_by size (bit_words bits) ≡ ones_of bits

-- how large a phase is where all words of the ciphertext are small
pub record PhaseSizeLaws : Type 0 where
  -- the mask adds the bound for each one of the key
  pub masked_size : (bound : ℕ) (bits : List Bool) (words : List ℕ) → RowWithin bound words
      → size (masked_sum bits words) ≤ ones_of bits * bound
  -- and the body adds it once more
  pub phase_size : (bound : ℕ) (bits : List Bool) (words : List ℕ) → RowWithin bound words
      → size (phase_of bits words) ≤ (1 + ones_of bits) * bound

-- a value from lo on, of a range that a width has room for
pub record IsInRoom (width : ℕ) (lo hi value : ℤ) : Type 0 where
  pub width_high : width ≤ 62
  pub least : lo ≤ℤ value
  pub most : value ≤ℤ hi
  pub room : (hi -ℤ lo) <ℤ pos (2 ^ width)

-- decoding undoes an error of less than half a step
pub record DecodingLaws : Type 0 where
  -- a phase less than half a step from the place of a value decodes to it
  pub decoded_near : (phase width : ℕ) (lo hi value : ℤ) → IsInRoom width lo hi value
      → unsigned_abs (centred_error phase value width) < 2 ^ (62 - width)
      → pos (decoded phase width lo) ≡ (value -ℤ lo)
  -- so what a ciphertext stands for within less than half a step is what its phase decodes to
  pub decoded_encrypted : (bits : List Bool) (words : List ℕ) (width bound : ℕ) (lo hi value : ℤ)
      → IsInRoom width lo hi value → Encrypts bits words value width bound → bound < 2 ^ (62 - width)
      → pos (decoded (phase_of bits words) width lo) ≡ (value -ℤ lo)
  -- an offset is below 2^(P + 1), whatever the phase
  pub decoded_below : (phase width : ℕ) (lo : ℤ) → width ≤ 62 → decoded phase width lo < 2 ^ (width + 1)

-- how much noise the operations on ciphertexts add: worst cases, where Bergerat et al. 2023 take variances
pub record NoiseLaws : Type 0 where
  -- the size of an error is the distance from the phase to the place of the value
  pub error_size : (phase width : ℕ) (value : ℤ)
      → unsigned_abs (centred_error phase value width) ≡ size (word_difference phase (encoded width value))
  -- the ciphertext of zeros stands for 0, without an error
  pub encrypts_zero : (bits : List Bool) (width : ℕ) → Encrypts bits (replicate (length bits + 1) 0) (pos 0) width 0
  -- a bound may be wider
  pub encrypts_wider : (bits : List Bool) (xs : List ℕ) (u : ℤ) (width bound wider : ℕ)
      → Encrypts bits xs u width bound → bound ≤ wider → Encrypts bits xs u width wider
  -- a sum stands for the sum, within both bounds together
  pub encrypts_sum : (bits : List Bool) (xs ys : List ℕ) (u v : ℤ) (width bound more : ℕ)
      → Encrypts bits xs u width bound → Encrypts bits ys v width more
      → Encrypts bits (row_sum xs ys) (u +ℤ v) width (bound + more)
  -- so does a difference for the difference
  pub encrypts_difference : (bits : List Bool) (xs ys : List ℕ) (u v : ℤ) (width bound more : ℕ)
      → Encrypts bits xs u width bound → Encrypts bits ys v width more
      → Encrypts bits (row_difference xs ys) (u -ℤ v) width (bound + more)
  -- a multiple stands for the multiple, within the size of the factor times the bound
  pub encrypts_multiple : (bits : List Bool) (xs : List ℕ) (u factor : ℤ) (width bound : ℕ)
      → Encrypts bits xs u width bound
      → Encrypts bits (scaled_row (word_of factor) xs) (factor *ℤ u) width (unsigned_abs factor * bound)
  -- and so a sum with a multiple
  pub encrypts_sum_with_multiple : (bits : List Bool) (xs ys : List ℕ) (u v factor : ℤ) (width bound more : ℕ)
      → Encrypts bits xs u width bound → Encrypts bits ys v width more
      → Encrypts bits (sum_with_scaled xs (word_of factor) ys) (u +ℤ factor *ℤ v) width
      (bound + unsigned_abs factor * more)
  -- the place of a value added to the body adds the value, and no noise
  pub encrypts_message : (bits : List Bool) (xs : List ℕ) (u v : ℤ) (width bound : ℕ) → Encrypts bits xs u width bound
      → Encrypts bits (with_message (length bits) xs (encoded width v)) (u +ℤ v) width bound
  -- and a ciphertext whose phase, under whatever key, is near that of another stands for the value of that one
  pub encrypts_moved : (bits others : List Bool) (xs ys : List ℕ) (value : ℤ) (width bound more : ℕ)
      → Encrypts bits xs value width bound → FitsKey others ys
      → size (word_difference (phase_of others ys) (phase_of bits xs)) ≤ more
      → Encrypts others ys value width (bound + more)
