-- What holds of files, whatever their kind.
use Rattle.std.specs.Prelude.{◌≡◌, ℕ, ◌+◌, ◌<◌, ◌≤◌, List, length, take, drop, All, Ok}
use Rattle.sealed_files.specs.declared.kinds.FileKind.{FileKind}
use Rattle.sealed_files.specs.Limits.{digest_size}
use Rattle.sealed_files.specs.Kinds.{header_of, AreWithin, word_count, file_size}
use Rattle.sealed_files.specs.Frame.{Frame, IsFrame, frame_bytes}
use Rattle.sealed_files.specs.FrameReading.{words_at, header_words, frame_in, frame_of}
use Rattle.sealed_files.specs.Matching.{same_digest, same_word}

-- reading and spelling are inverse to each other
pub record FrameLaws : Type 0 where
  -- what is read from bytes is what they are spelled from
  pub read : (kind : FileKind) (bytes : List ℕ) (frame : Frame) → All (λ byte. byte < 256) bytes
      → frame_of kind bytes ≡ Ok frame → IsFrame kind frame × (bytes ≡ frame_bytes kind frame)
  -- what is spelled so is read
  pub spelled : (kind : FileKind) (frame : Frame) → IsFrame kind frame
      → frame_of kind (frame_bytes kind frame) ≡ Ok frame
  -- how many bytes there are
  pub size : (kind : FileKind) (frame : Frame) → length frame.digest ≡ digest_size
      → length (frame_bytes kind frame) ≡ file_size (length frame.words)

-- what is read, whatever the numbers in the bytes are
pub record ReadLaws : Type 0 where
  -- is the digest and all words
  pub all : (kind : FileKind) (bytes : List ℕ) (frame : Frame)
      → frame_of kind bytes ≡ Ok frame → frame ≡ frame_in kind bytes
  -- the header keeps its limits
  pub header : (kind : FileKind) (bytes : List ℕ) (frame : Frame)
      → frame_of kind bytes ≡ Ok frame → AreWithin (header_of kind) (header_words kind bytes)
  -- the bytes are as many as it says
  pub long : (kind : FileKind) (bytes : List ℕ) (frame : Frame)
      → frame_of kind bytes ≡ Ok frame → length bytes ≡ file_size (word_count kind (header_words kind bytes))
  -- some of the words are those from a place on
  pub part : (bytes : List ℕ) (place count all : ℕ) → place + count ≤ all
      → take count (drop place (words_at bytes 0 all)) ≡ words_at bytes place count

-- what is compared is equal, or a mismatch
pub record MatchLaws : Type 0 where
  pub digests : (left right : List ℕ) → same_digest left right ≡ Ok tt → left ≡ right
  pub same_digests : (digest : List ℕ) → same_digest digest digest ≡ Ok tt
  pub words : (left right : ℕ) → same_word left right ≡ Ok tt → left ≡ right
  pub same_words : (word : ℕ) → same_word word word ≡ Ok tt
