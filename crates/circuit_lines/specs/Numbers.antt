-- Words and decimal numbers at the front of a text. A step gives a value and the bytes after it, or the fault of a
-- misspelled line; a name that ends in `_at` is such a step.
use Rattle.std.specs.Prelude.{ℕ, zero, suc, ◌^◌, ◌<◌, ◌==◌, nat_lt, nat_le, not, ◌&&◌, ◌||◌, Bool, List, [], ◌∷◌, length, take, drop, slice_index, Result, Ok, Err, ℤ, pos, negsuc, unsigned_abs, if◌then◌else◌}
use Rattle.std.specs.Char.{is_ascii_digit}
use Rattle.std.specs.List.{position_or_len}
use Rattle.std.specs.Str.{bytes_eq}
use Rattle.std.specs.Str.Parse.{digits_value}
use Rattle.refusals.specs.Reading.{◌>>=◌}
use Rattle.circuit_lines.specs.declared.fault.Misspelled.{Misspelled}

-- what is read, or the line that is misspelled
abbrev pub Read : Type 0 → Type 0
Read A = Result A Misspelled

-- the fault at a line
abbrev pub misspelled : ℕ → Misspelled
misspelled line = record { line = line }

-- the literal text stands at the front
abbrev pub begins : List ℕ → List ℕ → Bool
begins literal bytes = bytes_eq (take (length literal) bytes) literal

-- it does: the bytes after it
unfoldable pub literal_at : ℕ → List ℕ → List ℕ → Read (List ℕ)
literal_at line literal bytes = if begins literal bytes then Ok (drop (length literal) bytes) else Err (misspelled line)

-- the digits of a number
abbrev pub most_digits : ℕ
most_digits = 38

-- so numbers are below it
abbrev pub number_limit : ℕ
number_limit = 10 ^ most_digits

-- a number of at most so many digits
abbrev pub IsShort : ℤ → Type 0
IsShort number = unsigned_abs number < number_limit

-- one digit or more, no zero in front of another digit, and not too many
abbrev pub is_numeral : List ℕ → Bool
is_numeral digits =
    nat_lt 0 (length digits)
    && ((nat_lt (length digits) 2 || not (slice_index digits 0 == 48)) && nat_le (length digits) most_digits)

-- the number that the digits spell
unfoldable pub numeral_value : ℕ → List ℕ → Read ℕ
numeral_value line digits = if is_numeral digits then Ok (digits_value 10 digits) else Err (misspelled line)

-- how many digits stand at the front
abbrev pub digit_count : List ℕ → ℕ
digit_count bytes = position_or_len (λ byte. not (is_ascii_digit byte)) bytes

-- the number that all digits at the front spell, and the bytes after them
unfoldable pub natural_at : ℕ → List ℕ → Read (ℕ × List ℕ)
natural_at line bytes =
    numeral_value line (take (digit_count bytes) bytes) >>= λ n. Ok (n, drop (digit_count bytes) bytes)

-- the number below zero, where it is none
abbrev pub negated : ℕ → ℕ × List ℕ → Read (ℤ × List ℕ)
negated line (zero, rest) = Err (misspelled line)
negated line (suc n, rest) = Ok (negsuc n, rest)

-- the number with a minus directly before it, which zero has not, or without
unfoldable pub number_at : ℕ → List ℕ → Read (ℤ × List ℕ)
number_at line [] = Err (misspelled line)
number_at line (byte ∷ bytes) =
    if byte == 45 then natural_at line bytes >>= negated line
    else natural_at line (byte ∷ bytes) >>= λ n. Ok (pos n.0, n.1)

-- the literal text, and a number
unfoldable pub field_at : ℕ → List ℕ → List ℕ → Read (ℤ × List ℕ)
field_at line literal bytes = do
  rest ← literal_at line literal bytes
  number_at line rest
