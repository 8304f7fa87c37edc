-- Reading a file: its checks in their order, and what it holds where none fails.
use Rattle.std.specs.Prelude.{ℕ, ◌+◌, ◌-◌, ◌*◌, Bool, ◌==◌, nat_le, List, [], ◌∷◌, length, take, drop, map, Result, Ok, bytes_eq}
use Rattle.std.specs.Int.{w64, from_le_bytes}
use Rattle.std.specs.List.{range_with_len}
use Rattle.sha2.specs.Sha256.{sha256}
use Rattle.refusals.specs.Reading.{◌>>=◌, unless}
use Rattle.sealed_files.specs.declared.fault.FileFault.{FileFault}
use Rattle.sealed_files.specs.declared.fault.FileFault.TheVariants.{Magic, Length, Digest, Field}
use Rattle.sealed_files.specs.declared.kinds.FileKind.{FileKind}
use Rattle.sealed_files.specs.declared.kinds.HeaderField.{HeaderField}
use Rattle.sealed_files.specs.Limits.{magic_size, digest_size, words_place, word_size, seal_size}
use Rattle.sealed_files.specs.Kinds.{magic_of, header_of, is_within, word_count, file_size}
use Rattle.sealed_files.specs.Frame.{Frame}

-- what is read, or the first fault
abbrev pub Read : Type 0 → Type 0
Read A = Result A FileFault

-- the word that eight bytes spell, the lowest first
unfoldable pub word_of_bytes : List ℕ → ℕ
word_of_bytes bytes = from_le_bytes w64 bytes

-- the word at a place, counted from 0 behind the digest
abbrev pub word_at : List ℕ → ℕ → ℕ
word_at bytes place = word_of_bytes (take word_size (drop (words_place + word_size * place) bytes))

-- so many words, from a place on
abbrev pub words_at : List ℕ → ℕ → ℕ → List ℕ
words_at bytes place count = map (word_at bytes) (range_with_len place count)

-- the words at these places are within the limits of their fields; else the fault is at the first that is not
unfoldable pub fields_within : ℕ → List HeaderField → List ℕ → Read (Unit {0})
fields_within place [] bytes = Ok tt
fields_within place (field ∷ fields) bytes = do
  here ← unless (is_within field (word_at bytes place)) (Field place)
  fields_within (place + 1) fields bytes

-- the words of the header
abbrev pub header_words : FileKind → List ℕ → List ℕ
header_words kind bytes = words_at bytes 0 (length (header_of kind))

-- the digest of the parameters
abbrev pub digest_in : List ℕ → List ℕ
digest_in bytes = take digest_size (drop magic_size bytes)

-- the bytes are at least, or exactly, so many
abbrev pub has_room : ℕ → List ℕ → Read (Unit {0})
has_room want bytes = unless (nat_le want (length bytes)) (Length want (length bytes))

abbrev pub has_size : ℕ → List ℕ → Read (Unit {0})
has_size want bytes = unless (length bytes == want) (Length want (length bytes))

-- the last bytes are the SHA-256 of those before them
unfoldable pub is_sealed : List ℕ → Bool
is_sealed bytes = bytes_eq (drop (length bytes - seal_size) bytes) (sha256 (take (length bytes - seal_size) bytes))

-- what the bytes hold, where they are as many as the header says
abbrev pub frame_in : FileKind → List ℕ → Frame
frame_in kind bytes = record {
  digest = digest_in bytes;
  words = words_at bytes 0 (word_count kind (header_words kind bytes));
}

-- what the bytes hold as a file of this kind: there is room for a header, and it begins with the magic; each field of the
-- header is within its limits, the length is the one that the header says, and the seal is that of the bytes before it
unfoldable pub frame_of : FileKind → List ℕ → Read Frame
frame_of kind bytes = do
  room ← has_room (file_size (length (header_of kind))) bytes
  magic ← unless (bytes_eq (take magic_size bytes) (magic_of kind)) Magic
  header ← fields_within 0 (header_of kind) bytes
  exact ← has_size (file_size (word_count kind (header_words kind bytes))) bytes
  seal ← unless (is_sealed bytes) Digest
  Ok (frame_in kind bytes)
