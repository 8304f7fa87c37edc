-- Digits, as `parse` reads them.
use Rattle.std.proofs.Common.{◌≡◌, ℕ, ◌<◌, ◌≤◌, ◌^◌, true, ◌&&◌, List, [], ◌∷◌, length, arith, subst, Result, Ok, Err, None}
use Rattle.std.specs.Prelude.{nat_lt, nat_le}
use Rattle.std.specs.Char.{is_ascii_digit}
use Rattle.std.specs.Int.{IsInRange}
use Rattle.std.specs.List.{list_all}
use Rattle.std.specs.Str.{IsUtf8}
use Rattle.std.specs.Str.Parse.{AllDigits, digits_value, ParsesUnsigned, IsNumeral, without_leading_plus}
use Rattle.std.proofs.lemmas.Bool.{and_parts, leb-true, ltb-true}
use Rattle.std.proofs.lemmas.Bool.Decides.{nat_tests}
use Rattle.std.proofs.lemmas.Fmt.{IsAscii-from_digits}
use Rattle.std.proofs.lemmas.Str.{IsUtf8-from_ascii}
use Rattle.std.proofs.lemmas.Str.Parse.{tells_digits, digits_value_short, numerals_by_value, parse_gives}
use Rattle.refusals.specs.Steps.{no_value}
use Rattle.value_files.specs.Values.{is_natural, natural_of}

digit_below : (b : ℕ) → is_ascii_digit b ≡ true → IsInRange 48 57 b
digit_below b e = grind (arith, nat_tests)

pub all_digits : (ds : List ℕ) → list_all is_ascii_digit ds ≡ true → AllDigits 10 ds
all_digits [] h = tt
all_digits (d ∷ ds) h =
    let parts = and_parts (is_ascii_digit d) (list_all is_ascii_digit ds) h in
    tells_digits.more d ds (digit_below d parts.0) (all_digits ds parts.1)

pub digits_utf8 : (ds : List ℕ) → AllDigits 10 ds → IsUtf8 ds
digits_utf8 ds h = IsUtf8-from_ascii ds (IsAscii-from_digits ds h)

-- eighteen digits spell a number that 60 bits hold
pub short_below : (ds : List ℕ) → AllDigits 10 ds → length ds ≤ 18 → digits_value 10 ds < 2 ^ 60
short_below ds h few = omega (arith, digits_value_short (numerals_by_value (AllDigits 10) tells_digits) ds 18 h few)

-- so they are read
pub no_u64 : (digits read : List ℕ) → is_natural digits ≡ true → read ≡ digits → (IsNumeral 10 (without_leading_plus read) × (digits_value 10 (without_leading_plus read) < 2 ^ 64) → ⊥) → None ≡ natural_of digits
no_u64 digits read natural same refused =
    let some = and_parts (nat_lt 0 (length digits)) (nat_le (length digits) 18 && list_all is_ascii_digit digits) natural in
    let few = and_parts (nat_le (length digits) 18) (list_all is_ascii_digit digits) some.1 in
    let digital : AllDigits 10 digits = all_digits digits few.1 in
    let short : digits_value 10 digits < 2 ^ 60 = short_below digits digital (leb-true (length digits) 18 few.0) in
    let answer : Result ℕ (Unit {0}) = Err tt in
    let given = parse_gives (numerals_by_value (AllDigits 10) tells_digits) 64 digits answer (subst (λ (l : List ℕ). ParsesUnsigned 64 10 l answer) same refused) digital (ltb-true 0 (length digits) some.0) (omega (arith, short)) in
    absurd (no_value tt (Ok (digits_value 10 digits)) given)
