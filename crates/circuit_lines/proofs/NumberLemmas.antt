-- Digits at the front of a text.
use Rattle.std.proofs.Common.{◌≡◌, ℕ, suc, ◌+◌, ◌<◌, ◌≤◌, ◌^◌, Bool, true, false, cond, List, [], ◌∷◌, length, take, arith, refl}
use Rattle.std.specs.Prelude.{not, unwrap_or, position}
use Rattle.std.specs.Char.{is_ascii_digit}
use Rattle.std.specs.Int.{IsInRange}
use Rattle.std.proofs.lemmas.Bool.Decides.{nat_tests}
use Rattle.std.specs.List.{position_or_len}
use Rattle.std.specs.Str.{IsUtf8}
use Rattle.std.specs.Str.Parse.{AllDigits, digits_value}
use Rattle.std.proofs.lemmas.Fmt.{IsAscii-from_digits}
use Rattle.std.proofs.lemmas.List.Sums.{prefix_len-le-length}
use Rattle.std.proofs.lemmas.Str.{IsUtf8-from_ascii}
use Rattle.std.proofs.lemmas.Str.Parse.{tells_digits, digits_value_short, numerals_by_value}
use Rattle.circuit_lines.specs.Numbers.{digit_count}

pub digits_utf8 : (ds : List ℕ) → AllDigits 10 ds → IsUtf8 ds
digits_utf8 ds h = IsUtf8-from_ascii ds (IsAscii-from_digits ds h)

pub place_or_len : (p : ℕ → Bool) (xs : List ℕ) → unwrap_or (position p xs) (length xs) ≡ position_or_len p xs
place_or_len p xs = grind (arith, prefix_len-le-length (λ x. not (p x)) xs)

digit_below : (b : ℕ) → is_ascii_digit b ≡ true → IsInRange 48 57 b
digit_below b e = grind (arith, nat_tests)

front_more : (b : ℕ) (bs : List ℕ) (t : Bool) → is_ascii_digit b ≡ t → AllDigits 10 (take (digit_count bs) bs) → AllDigits 10 (take (cond (not (not t)) (1 + digit_count bs) 0) (b ∷ bs))
front_more b bs true e h = let k : 1 + digit_count bs ≡ suc (digit_count bs) = omega arith in rw k (tells_digits.more b (take (digit_count bs) bs) (digit_below b e) h)
front_more b bs false e h = tt

pub front_digits : (bs : List ℕ) → AllDigits 10 (take (digit_count bs) bs)
front_digits [] = tt
front_digits (b ∷ bs) = front_more b bs (is_ascii_digit b) refl (front_digits bs)

-- 38 digits spell a number below 10^38
pub short_below : (ds : List ℕ) → AllDigits 10 ds → length ds ≤ 38 → digits_value 10 ds < 10 ^ 38
short_below ds h few = digits_value_short (numerals_by_value (AllDigits 10) tells_digits) ds 38 h few

-- which 127 bits hold
pub value_below : (ds : List ℕ) → AllDigits 10 ds → length ds ≤ 38 → digits_value 10 ds < 2 ^ 127
value_below ds h few = omega (arith, short_below ds h few)
