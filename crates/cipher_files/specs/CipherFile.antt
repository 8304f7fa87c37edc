-- The file of ciphertexts: what it holds, its one spelling, and reading it.
use Rattle.std.specs.Prelude.{◌≡◌, ℕ, ◌+◌, ◌*◌, ◌<◌, ◌&&◌, Bool, ℤ, int_le, List, [], ◌∷◌, ◌++◌, length, map, All, Ok}
use Rattle.std.specs.List.{flat_map, range_with_len}
use Rattle.std.proofs.Common.{zero, suc}
use Rattle.refusals.specs.Reading.{◌>>=◌, unless}
use Rattle.word_ring.specs.Words.{IsWord, centred}
use Rattle.word_ring.specs.Signed.{word_of}
use Rattle.forms.specs.Limits.{least_number, most_number}
use Rattle.forms.specs.Ranges.{IsNumberRange}
use Rattle.sealed_files.specs.declared.fault.FileFault.TheVariants.{Field}
use Rattle.sealed_files.specs.declared.kinds.FileKind.TheVariants.{Cipher}
use Rattle.sealed_files.specs.Limits.{digest_size}
use Rattle.sealed_files.specs.Kinds.{IsWithin, big_dimension, width, ciphertexts}
use Rattle.sealed_files.specs.Frame.{Frame, frame_bytes}
use Rattle.sealed_files.specs.FrameReading.{Read, word_at, words_at, digest_in, frame_of}
use Rattle.sealed_files.specs.Matching.{same_digest, same_word}
use Rattle.cipher_files.specs.declared.head.CipherHead.{CipherHead}

-- the digest of the parameters, D, P, and for each ciphertext the range of what it stands for, and its words
pub record CipherFile : Type 0 where
  pub digest : List ℕ
  pub dim : ℕ
  pub width : ℕ
  pub ranges : List (ℤ × ℤ)
  pub ciphertexts : List (List ℕ)

-- that of a head and the words of its ciphertexts
abbrev pub file_of : CipherHead → List (List ℕ) → CipherFile
file_of head list = record {
  digest = head.digest;
  dim = head.dim;
  width = head.width;
  ranges = head.ranges;
  ciphertexts = list;
}

-- what a file says of its ciphertexts
abbrev pub cipher_head : CipherFile → CipherHead
cipher_head file = record { digest = file.digest; dim = file.dim; width = file.width; ranges = file.ranges }

-- a range as words: its least number and its greatest, each modulo 2^64
abbrev pub range_words : ℤ × ℤ → List ℕ
range_words range = word_of range.0 ∷ word_of range.1 ∷ []

-- its words: D, P and m, then the ranges, and then the ciphertexts
abbrev pub cipher_frame : CipherFile → Frame
cipher_frame file = record {
  digest = file.digest;
  words =
      file.dim ∷ file.width ∷ length file.ranges
      ∷ (flat_map range_words file.ranges ++ flat_map (λ words. words) file.ciphertexts);
}

-- all its bytes
abbrev pub cipher_bytes : CipherFile → List ℕ
cipher_bytes file = frame_bytes Cipher (cipher_frame file)

-- its lengths and limits
pub record HasCipherLimits (file : CipherFile) : Type 0 where
  pub dim : IsWithin big_dimension file.dim
  pub width : IsWithin width file.width
  pub number : IsWithin ciphertexts (length file.ranges)
  pub ranges : All (λ range. IsNumberRange range.0 range.1) file.ranges
  pub count : length file.ciphertexts ≡ length file.ranges
  pub lengths : All (λ words. length words ≡ file.dim + 1) file.ciphertexts

-- what has a spelling
pub record IsCipherFile (file : CipherFile) : Type 0 where
  pub limits : HasCipherLimits file
  pub digest_length : length file.digest ≡ digest_size
  pub digest : All (λ byte. byte < 256) file.digest
  pub words : All (All IsWord) file.ciphertexts

-- ---- reading

-- the test of a range
abbrev pub is_number_range : ℤ → ℤ → Bool
is_number_range lo hi = int_le least_number lo && (int_le lo hi && int_le hi most_number)

-- the range at a place
unfoldable pub range_at : List ℕ → ℕ → Read (ℤ × ℤ)
range_at bytes place = do
  let lo = centred (word_at bytes place)
  let hi = centred (word_at bytes (place + 1))
  rising ← unless (is_number_range lo hi) (Field place)
  Ok (lo, hi)

-- so many ranges, from a place on
unfoldable pub ranges_at : List ℕ → ℕ → ℕ → Read (List (ℤ × ℤ))
ranges_at bytes place zero = Ok []
ranges_at bytes place (suc count) = do
  range ← range_at bytes place
  ranges ← ranges_at bytes (place + 2) count
  Ok (range ∷ ranges)

-- so many rows of words, from a place on
abbrev pub rows_at : List ℕ → ℕ → ℕ → ℕ → List (List ℕ)
rows_at bytes place size count = map (λ r. words_at bytes (place + r * size) size) (range_with_len 0 count)

-- the ranges, and then the ciphertexts
unfoldable pub cipher_in : List ℕ → Read CipherFile
cipher_in bytes = do
  let dim = word_at bytes 0
  let number = word_at bytes 2
  ranges ← ranges_at bytes 3 number
  Ok (record {
    digest = digest_in bytes;
    dim = dim;
    width = word_at bytes 1;
    ranges = ranges;
    ciphertexts = rows_at bytes (3 + 2 * number) (dim + 1) number;
  })

-- what the bytes hold as a file of ciphertexts
unfoldable pub cipher_of : List ℕ → Read CipherFile
cipher_of bytes = do
  frame ← frame_of Cipher bytes
  cipher_in bytes

-- ---- use

-- two ranges are one, their least numbers first
unfoldable pub same_range : ℤ × ℤ → ℤ × ℤ → Read (Unit {0})
same_range left right = do
  lo ← same_word (word_of left.0) (word_of right.0)
  same_word (word_of left.1) (word_of right.1)

-- so are all ranges in order, as far as both lists go
unfoldable pub same_ranges : List (ℤ × ℤ) → List (ℤ × ℤ) → Read (Unit {0})
same_ranges [] rights = Ok tt
same_ranges (left ∷ lefts) [] = Ok tt
same_ranges (left ∷ lefts) (right ∷ rights) = do
  same ← same_range left right
  same_ranges lefts rights

-- the ciphertexts are as they are wanted: the digest, D, P, m, and then each range
unfoldable pub head_fits : CipherHead → CipherHead → Read (Unit {0})
head_fits wanted head = do
  digest ← same_digest wanted.digest head.digest
  dim ← same_word wanted.dim head.dim
  width ← same_word wanted.width head.width
  number ← same_word (length wanted.ranges) (length head.ranges)
  same_ranges wanted.ranges head.ranges

-- the ciphertexts are under a big key: the digest and D
unfoldable pub key_fits : List ℕ → List Bool → CipherHead → Read (Unit {0})
key_fits digest big head = do
  same ← same_digest digest head.digest
  same_word (length big) head.dim
