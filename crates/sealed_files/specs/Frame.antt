-- What a file holds, and the one way to spell it in bytes.
use Rattle.std.specs.Prelude.{◌≡◌, ℕ, ◌<◌, List, ◌++◌, length, All}
use Rattle.std.specs.List.{flat_map}
use Rattle.std.specs.Int.{w64, to_le_bytes}
use Rattle.sha2.specs.Sha256.{sha256}
use Rattle.word_ring.specs.Words.{IsWord}
use Rattle.sealed_files.specs.declared.kinds.FileKind.{FileKind}
use Rattle.sealed_files.specs.Limits.{digest_size}
use Rattle.sealed_files.specs.Kinds.{magic_of, header_of, AreWithin, word_count}

-- the digest of the parameters, and the words: those of the header, and then those of the body
pub record Frame : Type 0 where
  pub digest : List ℕ
  pub words : List ℕ

-- a word as eight bytes, the lowest first
unfoldable pub word_bytes : ℕ → List ℕ
word_bytes word = to_le_bytes w64 word

-- words one after the other
abbrev pub words_bytes : List ℕ → List ℕ
words_bytes words = flat_map word_bytes words

-- what stands before the words
abbrev pub front_bytes : FileKind → List ℕ → List ℕ
front_bytes kind digest = magic_of kind ++ digest

-- bytes with their seal, the SHA-256 of them
abbrev pub sealed : List ℕ → List ℕ
sealed bytes = bytes ++ sha256 bytes

-- all bytes of a file
abbrev pub frame_bytes : FileKind → Frame → List ℕ
frame_bytes kind frame = sealed (front_bytes kind frame.digest ++ words_bytes frame.words)

-- what has a spelling as a file of this kind
pub record IsFrame (kind : FileKind) (frame : Frame) : Type 0 where
  pub digest_length : length frame.digest ≡ digest_size
  pub digest : All (λ byte. byte < 256) frame.digest
  pub header : AreWithin (header_of kind) frame.words
  pub number : length frame.words ≡ word_count kind frame.words
  pub words : All IsWord frame.words
