-- The numbers that INTs spell, as `parse` reads them.
use Rattle.std.proofs.Common.{◌≡◌, ℕ, zero, suc, ◌<◌, ◌≤◌, true, false, ◌==◌, ◌&&◌, List, [], ◌∷◌, get_or, refl, sym, subst, inl, inr, arith, ℤ, pos, negsuc, Some, None}
use Rattle.std.specs.Char.{is_ascii_digit}
use Rattle.std.specs.Int.{IsInRange, w64, w128}
use Rattle.std.specs.Int.RustNames.{FitsSigned}
use Rattle.std.specs.List.{list_all}
use Rattle.std.specs.Str.{IsUtf8}
use Rattle.std.specs.Str.Parse.{AllDigits, IsNumeral, without_leading_sign, signed_digits_value}
use Rattle.std.proofs.lemmas.Bool.{cond_both, and_parts, or_cases, leb-true, eqb-true, false≢true}
use Rattle.std.proofs.lemmas.Bool.Decides.{nat_tests}
use Rattle.std.proofs.lemmas.Fmt.{IsAscii-from_digits}
use Rattle.std.proofs.lemmas.Str.{IsUtf8-from_ascii}
use Rattle.std.proofs.lemmas.Str.Parse.{tells_digits}
use Rattle.mlir_lex.specs.Spellings.{is_digits, is_int}
use Rattle.fhe_text.specs.Numbers.{number_of, fits_bits, signed_of}

pub fits_64 : (z : ℤ) → fits_bits 64 z ≡ true → FitsSigned w64 z
fits_64 (pos n) h = let top : n ≤ 9223372036854775807 = leb-true n 9223372036854775807 h in record { sfits = omega arith }
fits_64 (negsuc n) h = let top : n ≤ 9223372036854775807 = leb-true n 9223372036854775807 (and_parts _ true h).0 in record { sfits = omega arith }

pub fits_128 : (z : ℤ) → fits_bits 128 z ≡ true → FitsSigned w128 z
fits_128 (pos n) h = let top : n ≤ 170141183460469231731687303715884105727 = leb-true n 170141183460469231731687303715884105727 h in record { sfits = omega arith }
fits_128 (negsuc n) h = let top : n ≤ 170141183460469231731687303715884105727 = leb-true n 170141183460469231731687303715884105727 (and_parts _ true h).0 in record { sfits = omega arith }

-- digits, byte by byte
digit_below : (b : ℕ) → is_ascii_digit b ≡ true → IsInRange 48 57 b
digit_below b e = grind (arith, nat_tests)

all_digits : (ds : List ℕ) → list_all is_ascii_digit ds ≡ true → AllDigits 10 ds
all_digits [] h = tt
all_digits (d ∷ ds) h = let parts = and_parts (is_ascii_digit d) (list_all is_ascii_digit ds) h in tells_digits.more d ds (digit_below d parts.0) (all_digits ds parts.1)

digits_are_numeral : (ds : List ℕ) → is_digits ds ≡ true → IsNumeral 10 ds
digits_are_numeral [] h = absurd (false≢true h)
digits_are_numeral (d ∷ ds) h = (omega arith, all_digits (d ∷ ds) h)

-- a digit is no sign
digit_no_sign : (b : ℕ) → is_ascii_digit b ≡ true → ((b == 45) ≡ false) × ((b == 43) ≡ false)
digit_no_sign b h = (grind (arith, nat_tests), grind (arith, nat_tests))

plain_numeral : (b : ℕ) (bs : List ℕ) → is_digits (b ∷ bs) ≡ true → without_leading_sign (b ∷ bs) ≡ b ∷ bs
plain_numeral b bs h =
    let first = digit_no_sign b (and_parts (is_ascii_digit b) (list_all is_ascii_digit bs) h).0 in
    rw (first.0, first.1) refl

-- an INT is a numeral behind its sign
pub int_is_numeral : (text : List ℕ) → is_int text ≡ true → IsNumeral 10 (without_leading_sign text)
int_is_numeral [] h = absurd (false≢true h)
int_is_numeral (b ∷ bs) h =
    elim (or_cases (is_digits (b ∷ bs)) (b == 45 && is_digits bs) h) [
      | inl e ↦ subst (λ (l : List ℕ). IsNumeral 10 l) (sym (plain_numeral b bs e)) (digits_are_numeral (b ∷ bs) e)
      | inr e ↦
          let parts = and_parts (b == 45) (is_digits bs) e in
          subst (λ (x : ℕ). IsNumeral 10 (without_leading_sign (x ∷ bs))) (sym (eqb-true b 45 parts.0)) (digits_are_numeral bs parts.1)
    ]

-- and a text
pub int_is_text : (text : List ℕ) → is_int text ≡ true → IsUtf8 text
int_is_text [] h = absurd (false≢true h)
int_is_text (b ∷ bs) h =
    elim (or_cases (is_digits (b ∷ bs)) (b == 45 && is_digits bs) h) [
      | inl e ↦ IsUtf8-from_ascii (b ∷ bs) (IsAscii-from_digits (b ∷ bs) (digits_are_numeral (b ∷ bs) e).1)
      | inr e ↦
          let parts = and_parts (b == 45) (is_digits bs) e in
          IsUtf8-from_ascii (b ∷ bs) (minus (eqb-true b 45 parts.0) (IsAscii-from_digits bs (digits_are_numeral bs parts.1).1))
    ]
  where
    minus : b ≡ 45 → ((i : ℕ) → get_or bs i 0 < 128) → (i : ℕ) → get_or (b ∷ bs) i 0 < 128
    minus e rest zero = omega arith
    minus e rest (suc i) = rest i

-- a number that `parse` does not read does not fit
pub no_i64 : (text read : List ℕ) → is_int text ≡ true → read ≡ text → (IsNumeral 10 (without_leading_sign read) × FitsSigned w64 (signed_digits_value 10 read) → ⊥) → None ≡ signed_of 64 text
no_i64 text read h same none =
    cond_both (fits_bits 64 (number_of text)) (Some (number_of text)) None (λ o. None ≡ o) (λ e. absurd (subst (λ (l : List ℕ). IsNumeral 10 (without_leading_sign l) × FitsSigned w64 (signed_digits_value 10 l) → ⊥) same none (int_is_numeral text h, fits_64 (number_of text) e))) (λ e. refl)

pub no_i128 : (text read : List ℕ) → is_int text ≡ true → read ≡ text → (IsNumeral 10 (without_leading_sign read) × FitsSigned w128 (signed_digits_value 10 read) → ⊥) → None ≡ signed_of 128 text
no_i128 text read h same none =
    cond_both (fits_bits 128 (number_of text)) (Some (number_of text)) None (λ o. None ≡ o) (λ e. absurd (subst (λ (l : List ℕ). IsNumeral 10 (without_leading_sign l) × FitsSigned w128 (signed_digits_value 10 l) → ⊥) same none (int_is_numeral text h, fits_128 (number_of text) e))) (λ e. refl)
