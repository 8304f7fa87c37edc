-- The seed of keys and of inputs, as a word.
use Rattle.std.specs.Prelude.{ℕ, nat_le, ◌==◌, Bool, not, ◌&&◌, ◌||◌, List, length, Option, Some, None, Result, Ok, Err, if◌then◌else◌}
use Rattle.std.specs.List.{list_any}
use Rattle.hex.specs.declared.error.FromHexError.{FromHexError}
use Rattle.hex.specs.Hex.{decode_sized}

-- a letter from `A` to `Z`
abbrev pub is_upper : ℕ → Bool
is_upper byte = nat_le 65 byte && nat_le byte 90

-- the bytes that were decoded
abbrev pub decoded : Result (List ℕ) FromHexError → Option (List ℕ)
decoded (Ok bytes) = Some bytes
decoded (Err error) = None

-- the 32 bytes that 64 hexadecimal digits spell, the high four bits of a byte first, with letters in lower case
abbrev pub seed_of : List ℕ → Option (List ℕ)
seed_of word =
    if not (length word == 64) || list_any is_upper word then None else decoded (decode_sized word 32)
