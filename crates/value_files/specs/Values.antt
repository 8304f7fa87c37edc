-- Value files: a number a line, one for each argument, and the first fault of one.
use Rattle.std.specs.Prelude.{ℕ, ◌+◌, ◌-◌, ◌^◌, ◌==◌, ◌&&◌, nat_lt, nat_le, not, Bool, List, [], ◌∷◌, ◌++◌, length, take, drop, slice_index, ℤ, pos, neg_ℤ, int_le, Option, Some, None, Result, Ok, Err, if◌then◌else◌}
use Rattle.std.specs.Char.{is_ascii_digit}
use Rattle.std.specs.List.{list_all, position_or_len, flat_map}
use Rattle.std.specs.Fmt.{signed_decimal}
use Rattle.std.specs.Option.{option_map}
use Rattle.std.specs.Str.Parse.{digits_value}
use Rattle.refusals.specs.Reading.{◌>>=◌, unless}
use Rattle.value_files.specs.declared.fault.ValueFault.{ValueFault}
use Rattle.value_files.specs.declared.fault.ValueKind.{ValueKind}
use Rattle.value_files.specs.declared.fault.ValueKind.TheVariants.{Number, Range, Many, Few}

-- the most bytes of a value file
abbrev pub values_limit : ℕ
values_limit = 2 ^ 16

-- ---- lines

-- a line feed, which ends a line
abbrev pub is_line_feed : ℕ → Bool
is_line_feed byte = byte == 10

-- the first line, up to its line feed or to the end
abbrev pub first_line : List ℕ → List ℕ
first_line bytes = take (position_or_len is_line_feed bytes) bytes

-- what stands behind it
abbrev pub after_line : List ℕ → List ℕ
after_line bytes = drop (position_or_len is_line_feed bytes + 1) bytes

-- a carriage return (13) stands at the end
abbrev pub ends_with_return : List ℕ → Bool
ends_with_return line = nat_lt 0 (length line) && (slice_index line (length line - 1) == 13)

-- a line without a carriage return at its end
abbrev pub without_return : List ℕ → List ℕ
without_return line = if ends_with_return line then take (length line - 1) line else line

-- ---- numbers

-- one to eighteen digits
abbrev pub is_natural : List ℕ → Bool
is_natural digits = nat_lt 0 (length digits) && (nat_le (length digits) 18 && list_all is_ascii_digit digits)

-- the number that digits spell
abbrev pub natural_of : List ℕ → Option ℕ
natural_of digits = if is_natural digits then Some (digits_value 10 digits) else None

-- the number that a line spells: digits, with a `-` (45) before them or without
abbrev pub number_of : List ℕ → Option ℤ
number_of [] = None
number_of (byte ∷ bytes) =
    if byte == 45 then option_map (λ n. neg_ℤ (pos n)) (natural_of bytes) else option_map (λ n. pos n) (natural_of (byte ∷ bytes))

-- ---- values

-- what is wrong at a line
abbrev pub value_fault : ℕ → ValueKind → ValueFault
value_fault line kind = record { line = line; kind = kind }

-- the number, where there is one
abbrev pub number_or : ℕ → Option ℤ → Result ℤ ValueFault
number_or line (Some value) = Ok value
number_or line None = Err (value_fault line Number)

-- the value of a line, which lies in its range
unfoldable pub value_of : ℕ → ℤ × ℤ → List ℕ → Result ℤ ValueFault
value_of line range bytes = do
  value ← number_or line (number_of (without_return bytes))
  within ← unless (int_le range.0 value && int_le value range.1) (value_fault line Range)
  Ok value

-- nothing is left
abbrev pub is_at_end : List ℕ → Bool
is_at_end bytes = length bytes == 0

-- a value a line for each of these ranges, where this is the number of the first line
unfoldable pub values_from : ℕ → List ℕ → List (ℤ × ℤ) → Result (List ℤ) ValueFault
values_from line bytes [] = if is_at_end bytes then Ok [] else Err (value_fault line Many)
values_from line bytes (range ∷ ranges) = do
  left ← unless (not (is_at_end bytes)) (value_fault line Few)
  value ← value_of line range (first_line bytes)
  values ← values_from (line + 1) (after_line bytes) ranges
  Ok (value ∷ values)

-- the values of a file, one for each argument's range
abbrev pub values_of : List ℕ → List (ℤ × ℤ) → Result (List ℤ) ValueFault
values_of bytes ranges = values_from 1 bytes ranges

-- ---- printing

-- the line of a value
abbrev pub value_line : ℤ → List ℕ
value_line value = signed_decimal value ++ 10 ∷ []

-- a line for each value
abbrev pub values_text : List ℤ → List ℕ
values_text values = flat_map value_line values
