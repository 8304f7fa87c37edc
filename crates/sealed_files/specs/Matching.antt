-- What a file is used with: the first of its values that differs.
use Rattle.std.specs.Prelude.{ℕ, ◌==◌, List, ◌++◌, replicate, bytes_eq}
use Rattle.refusals.specs.Reading.{unless}
use Rattle.sealed_files.specs.declared.fault.FileFault.TheVariants.{Mismatch}
use Rattle.sealed_files.specs.Frame.{word_bytes}
use Rattle.sealed_files.specs.FrameReading.{Read}

-- a word as 32 bytes: its own eight, and zeros
abbrev pub padded : ℕ → List ℕ
padded word = word_bytes word ++ replicate 24 0

-- two digests are one
unfoldable pub same_digest : List ℕ → List ℕ → Read (Unit {0})
same_digest left right = unless (bytes_eq left right) (Mismatch left right)

-- two words are one
unfoldable pub same_word : ℕ → ℕ → Read (Unit {0})
same_word left right = unless (left == right) (Mismatch (padded left) (padded right))
