-- The numbers that tokens spell.
use Rattle.std.specs.Prelude.{ℕ, ◌+◌, ◌-◌, ◌*◌, ◌^◌, ◌≤◌, ◌==◌, nat_le, ◌&&◌, Bool, List, [], ◌∷◌, length, ℤ, pos, neg_ℤ, int_le, unsigned_abs, Option, Some, None, unwrap_or, if◌then◌else◌}
use Rattle.std.specs.Char.{is_ascii_digit}
use Rattle.std.specs.Int.{is_in_range}
use Rattle.std.specs.Str.Parse.{signed_digits_value}

-- the number that an INT spells
abbrev pub number_of : List ℕ → ℤ
number_of text = signed_digits_value 10 text

-- the number lies in the range
abbrev pub is_between : ℤ → ℤ → ℤ → Bool
is_between least most z = int_le least z && int_le z most

-- a signed number of so many bits holds it
abbrev pub fits_bits : ℕ → ℤ → Bool
fits_bits bits z = is_between (neg_ℤ (pos (2 ^ (bits - 1)))) (pos (2 ^ (bits - 1) - 1)) z

-- the number that an INT spells, where so many bits hold it
abbrev pub signed_of : ℕ → List ℕ → Option ℤ
signed_of bits text = if fits_bits bits (number_of text) then Some (number_of text) else None

-- the number that an INT spells, where it lies in the range
abbrev pub natural_between : ℕ → ℕ → List ℕ → Option ℕ
natural_between least most text =
    if is_between (pos least) (pos most) (number_of text) then Some (unsigned_abs (number_of text)) else None

-- a width: one to nine digits, not zero; an INT with a `-` spells no number above zero
abbrev pub width_of : List ℕ → Option ℕ
width_of text = if nat_le (length text) 9 then natural_between 1 (10 ^ 9 - 1) text else None

-- a length: a number from 1 to 2^31
abbrev pub length_of : List ℕ → Option ℕ
length_of text = natural_between 1 (2 ^ 31) text

-- a number of bits, from 1 to 64 and without leading zeros: one digit, or two
abbrev pub bits_of : List ℕ → Option ℕ
bits_of [] = None
bits_of (a ∷ []) = if is_in_range 49 57 a then Some (a - 48) else None
bits_of (a ∷ b ∷ []) =
    if is_in_range 49 57 a && (is_ascii_digit b && nat_le (10 * (a - 48) + (b - 48)) 64) then Some (10 * (a - 48) + (b - 48)) else None
bits_of (a ∷ b ∷ c ∷ text) = None

-- the bits of an itype: `i` (105) and their number
abbrev pub itype_of : List ℕ → Option ℕ
itype_of [] = None
itype_of (b ∷ text) = if b == 105 then bits_of text else None

-- the bits of an xtype: `x` (120) and an itype
abbrev pub xtype_of : List ℕ → Option ℕ
xtype_of [] = None
xtype_of (b ∷ text) = if b == 120 then itype_of text else None

-- a number of bits of a signed number
abbrev pub AreBits : ℕ → Type 0
AreBits bits = (1 ≤ bits) × (bits ≤ 64)

-- a number where there is one, and else 0
abbrev pub or_zero : Option ℕ → ℕ
or_zero found = unwrap_or found 0
