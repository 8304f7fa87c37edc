-- The file of secret keys: what it holds, its one spelling, and reading it.
use Rattle.std.specs.Prelude.{◌≡◌, ℕ, ◌+◌, ◌<◌, ◌==◌, nat_le, Bool, List, [], ◌∷◌, ◌++◌, length, All, Ok}
use Rattle.std.proofs.Common.{zero, suc}
use Rattle.refusals.specs.Reading.{◌>>=◌, unless}
use Rattle.lwe_core.specs.Secret.{bit_words}
use Rattle.fhe_params.specs.declared.params.Params.{Params}
use Rattle.fhe_params.specs.Params.{big_dimension as dimension_of}
use Rattle.sealed_files.specs.declared.fault.FileFault.TheVariants.{Field}
use Rattle.sealed_files.specs.declared.kinds.FileKind.TheVariants.{Secret}
use Rattle.sealed_files.specs.Limits.{digest_size}
use Rattle.sealed_files.specs.Kinds.{IsWithin, small_dimension, big_dimension}
use Rattle.sealed_files.specs.Frame.{Frame, frame_bytes}
use Rattle.sealed_files.specs.FrameReading.{Read, word_at, digest_in, frame_of}
use Rattle.sealed_files.specs.Matching.{same_digest, same_word}

-- the digest of the parameters, and the bits of the small key and of the big one
pub record SecretFile : Type 0 where
  pub digest : List ℕ
  pub small : List Bool
  pub big : List Bool

-- that of these
abbrev pub secret_file : List ℕ → List Bool → List Bool → SecretFile
secret_file digest small big = record { digest = digest; small = small; big = big }

-- its words: n and D, and then a word for each bit
abbrev pub secret_frame : SecretFile → Frame
secret_frame file = record {
  digest = file.digest;
  words = length file.small ∷ length file.big ∷ (bit_words file.small ++ bit_words file.big);
}

-- all its bytes
abbrev pub secret_bytes : SecretFile → List ℕ
secret_bytes file = frame_bytes Secret (secret_frame file)

-- its limits: the dimensions of both keys
pub record HasSecretLimits (file : SecretFile) : Type 0 where
  pub small : IsWithin small_dimension (length file.small)
  pub big : IsWithin big_dimension (length file.big)

-- what has a spelling
pub record IsSecretFile (file : SecretFile) : Type 0 where
  pub limits : HasSecretLimits file
  pub digest_length : length file.digest ≡ digest_size
  pub digest : All (λ byte. byte < 256) file.digest

-- ---- reading

-- the bit at a place, which is 0 or 1
unfoldable pub bit_at : List ℕ → ℕ → Read Bool
bit_at bytes place = do
  small ← unless (nat_le (word_at bytes place) 1) (Field place)
  Ok (word_at bytes place == 1)

-- so many bits, from a place on
unfoldable pub bits_at : List ℕ → ℕ → ℕ → Read (List Bool)
bits_at bytes place zero = Ok []
bits_at bytes place (suc count) = do
  bit ← bit_at bytes place
  bits ← bits_at bytes (place + 1) count
  Ok (bit ∷ bits)

-- the bits of both keys
unfoldable pub secret_in : List ℕ → Read SecretFile
secret_in bytes = do
  small ← bits_at bytes 2 (word_at bytes 0)
  big ← bits_at bytes (2 + word_at bytes 0) (word_at bytes 1)
  Ok (secret_file (digest_in bytes) small big)

-- what the bytes hold as a file of secret keys
unfoldable pub secret_of : List ℕ → Read SecretFile
secret_of bytes = do
  frame ← frame_of Secret bytes
  secret_in bytes

-- ---- use

-- the keys are those of a circuit's parameters, whose digest this is: the digest, n, D
unfoldable pub secret_fits : List ℕ → Params → SecretFile → Read (Unit {0})
secret_fits digest params file = do
  same ← same_digest digest file.digest
  small ← same_word params.lwe.n (length file.small)
  same_word (dimension_of params) (length file.big)
