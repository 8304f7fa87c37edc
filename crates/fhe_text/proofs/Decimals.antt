-- The numbers that are printed, as they are read.
use Rattle.std.proofs.Common.{◌≡◌, ℕ, zero, suc, ◌+◌, ◌-◌, ◌*◌, ◌/◌, ◌%◌, ◌^◌, ◌<◌, ◌≤◌, Bool, true, false, ◌&&◌, ◌==◌, cond, List, [], ◌∷◌, ◌++◌, length, refl, sym, ap, ◌∙◌, subst, inl, inr, arith, ℤ, pos, negsuc, Some, None}
use Rattle.std.specs.Prelude.{nat_le, neg_ℤ, unsigned_abs}
use Rattle.std.specs.Char.{is_ascii_digit}
use Rattle.std.specs.Fmt.{decimal, signed_decimal}
use Rattle.std.specs.Int.{IsInRange, is_in_range}
use Rattle.std.specs.List.{list_all}
use Rattle.std.specs.Str.Parse.{AllDigits, IsNumeral, digits_value}
use Rattle.std.proofs.Math.Pow.{pow_mono}
use Rattle.std.proofs.lemmas.Bool.{and_parts, and_from, or_left, or_right, cond-true, cases_lt, leb-true, le-leb, false≢true}
use Rattle.std.proofs.lemmas.Bool.Decides.{nat_tests}
use Rattle.std.proofs.lemmas.Fmt.{decimal_digit, decimal_step_wide, decimal_is_IsNumeral_wide, length-decimal-le_wide}
use Rattle.std.proofs.lemmas.Str.Parse.{tells_digits}
use Rattle.mlir_lex.specs.Spellings.{continues_word, continues_value, is_digits, is_int, is_value_name}
use Rattle.fhe_text.specs.Numbers.{number_of, is_between, fits_bits, signed_of, natural_between, width_of, length_of, bits_of, AreBits}
use Rattle.fhe_text.specs.Spellable.{IsWidth, IsLength}

-- a number that is written whole
abbrev pub IsShort : ℕ → Type 0
IsShort n = n < 10 ^ 64

-- ---- digits

digit_is : (b : ℕ) → IsInRange 48 57 b → is_ascii_digit b ≡ true
digit_is b h = grind (arith, nat_tests)

digit_in_word : (b : ℕ) → IsInRange 48 57 b → continues_word b ≡ true
digit_in_word b h = grind (arith, nat_tests)

digit_in_value : (b : ℕ) → IsInRange 48 57 b → continues_value b ≡ true
digit_in_value b h = or_left (continues_word b) (b == 45) (digit_in_word b h)

digits_pass : (p : ℕ → Bool) → ((b : ℕ) → IsInRange 48 57 b → p b ≡ true) → (ds : List ℕ) → AllDigits 10 ds → list_all p ds ≡ true
digits_pass p h [] all = refl
digits_pass p h (d ∷ ds) all =
    let parts = tells_digits.parts d ds all in
    and_from (p d) (list_all p ds) (h d parts.0) (digits_pass p h ds parts.1)

numeral : (n : ℕ) → IsShort n → IsNumeral 10 (decimal n)
numeral n few = (decimal_is_IsNumeral_wide n few).0

value_is : (n : ℕ) → IsShort n → digits_value 10 (decimal n) ≡ n
value_is n few = (decimal_is_IsNumeral_wide n few).1

pub decimal_in_word : (n : ℕ) → IsShort n → list_all continues_word (decimal n) ≡ true
decimal_in_word n few = digits_pass continues_word digit_in_word (decimal n) (numeral n few).1

pub decimal_in_value : (n : ℕ) → IsShort n → list_all continues_value (decimal n) ≡ true
decimal_in_value n few = digits_pass continues_value digit_in_value (decimal n) (numeral n few).1

named : (ds : List ℕ) → 0 < length ds → list_all continues_value ds ≡ true → is_value_name ds ≡ true
named [] some all = absurd (omega (arith, some))
named (d ∷ ds) some all = all

pub decimal_names : (n : ℕ) → IsShort n → is_value_name (decimal n) ≡ true
decimal_names n few = named (decimal n) (numeral n few).0 (decimal_in_value n few)

are_digits : (ds : List ℕ) → IsNumeral 10 ds → is_digits ds ≡ true
are_digits [] h = absurd (omega (arith, h.0))
are_digits (d ∷ ds) h = digits_pass is_ascii_digit digit_is (d ∷ ds) h.1

plain_int : (ds : List ℕ) → is_digits ds ≡ true → is_int ds ≡ true
plain_int [] h = absurd (false≢true h)
plain_int (d ∷ ds) h = or_left (is_digits (d ∷ ds)) (d == 45 && is_digits ds) h

-- ---- spellings

pub decimal_int : (n : ℕ) → IsShort n → is_int (decimal n) ≡ true
decimal_int n few = plain_int (decimal n) (are_digits (decimal n) (numeral n few))

-- a number and its sign are written whole
abbrev pub IsShortInt : ℤ → Type 0
IsShortInt (pos n) = IsShort n
IsShortInt (negsuc n) = IsShort (suc n)

pub signed_int : (z : ℤ) → IsShortInt z → is_int (signed_decimal z) ≡ true
signed_int (pos n) few = decimal_int n few
signed_int (negsuc n) few = or_right (is_digits (45 ∷ decimal (suc n))) (45 == 45 && is_digits (decimal (suc n))) (are_digits (decimal (suc n)) (numeral (suc n) few))

-- ---- values

no_sign : (b : ℕ) → IsInRange 48 57 b → ((b == 45) ≡ false) × ((b == 43) ≡ false)
no_sign b h = (grind (arith, nat_tests), grind (arith, nat_tests))

plain_number : (ds : List ℕ) → IsNumeral 10 ds → number_of ds ≡ pos (digits_value 10 ds)
plain_number [] h = absurd (omega (arith, h.0))
plain_number (d ∷ ds) h = let first = no_sign d (tells_digits.parts d ds h.1).0 in rw (first.0, first.1) refl

pub number_again : (z : ℤ) → IsShortInt z → number_of (signed_decimal z) ≡ z
number_again (pos n) few = plain_number (decimal n) (numeral n few) ∙ ap pos (value_is n few)
number_again (negsuc n) few = ap (λ k. neg_ℤ (pos k)) (value_is (suc n) few)

pub signed_again : (bits : ℕ) (z : ℤ) → IsShortInt z → fits_bits bits z ≡ true → signed_of bits (signed_decimal z) ≡ Some z
signed_again bits z few fits = ap (λ y. cond (fits_bits bits y) (Some y) None) (number_again z few) ∙ cond-true (fits_bits bits z) (Some z) None fits

natural_again : (least most n : ℕ) → IsShort n → least ≤ n → n ≤ most → natural_between least most (decimal n) ≡ Some n
natural_again least most n few low high =
    ap (λ y. cond (is_between (pos least) (pos most) y) (Some (unsigned_abs y)) None) (number_again (pos n) few)
    ∙ cond-true (is_between (pos least) (pos most) (pos n)) (Some n) None (and_from (nat_le least n) (nat_le n most) (le-leb least n low) (le-leb n most high))

pub width_again : (n : ℕ) → IsWidth n → width_of (decimal n) ≡ Some n
width_again n h =
    let short : length (decimal n) ≤ 9 = length-decimal-le_wide 9 n (omega arith) h.1 (omega (arith, h.1)) in
    cond-true (nat_le (length (decimal n)) 9) (natural_between 1 (10 ^ 9 - 1) (decimal n)) None (le-leb (length (decimal n)) 9 short)
    ∙ natural_again 1 (10 ^ 9 - 1) n (omega (arith, h.1)) h.0 (omega (arith, h.1))

pub length_again : (n : ℕ) → IsLength n → length_of (decimal n) ≡ Some n
length_again n h = natural_again 1 (2 ^ 31) n (omega (arith, h.1)) h.0 h.1

one_digit : (n : ℕ) → 1 ≤ n → n < 10 → bits_of ((48 + n) ∷ []) ≡ Some n
one_digit n low high =
    let range : is_in_range 49 57 (48 + n) ≡ true = grind (arith, nat_tests) in
    let back : 48 + n - 48 ≡ n = omega arith in
    cond-true (is_in_range 49 57 (48 + n)) (Some (48 + n - 48)) None range ∙ ap Some back

two_digits : (a b n : ℕ) → 1 ≤ a → a < 10 → b < 10 → 10 * a + b ≡ n → n ≤ 64 → bits_of ((48 + a) ∷ (48 + b) ∷ []) ≡ Some n
two_digits a b n low high small e most =
    let back : 10 * (48 + a - 48) + (48 + b - 48) ≡ n = omega (arith, e) in
    let first : is_in_range 49 57 (48 + a) ≡ true = grind (arith, nat_tests) in
    let second : is_ascii_digit (48 + b) ≡ true = grind (arith, nat_tests) in
    let held : nat_le (10 * (48 + a - 48) + (48 + b - 48)) 64 ≡ true = le-leb (10 * (48 + a - 48) + (48 + b - 48)) 64 (omega (arith, back, most)) in
    cond-true (is_in_range 49 57 (48 + a) && (is_ascii_digit (48 + b) && nat_le (10 * (48 + a - 48) + (48 + b - 48)) 64)) (Some (10 * (48 + a - 48) + (48 + b - 48))) None
    (and_from (is_in_range 49 57 (48 + a)) (is_ascii_digit (48 + b) && nat_le (10 * (48 + a - 48) + (48 + b - 48)) 64) first (and_from (is_ascii_digit (48 + b)) (nat_le (10 * (48 + a - 48) + (48 + b - 48)) 64) second held))
    ∙ ap Some back

pub bits_again : (n : ℕ) → AreBits n → bits_of (decimal n) ≡ Some n
bits_again n h =
    elim (cases_lt n 10) [
      | inl lt ↦ ap bits_of (decimal_digit n lt) ∙ one_digit n h.0 lt
      | inr ge ↦
          let tens : decimal (n / 10) ≡ (48 + n / 10) ∷ [] = decimal_digit (n / 10) (omega (arith, h.1)) in
          let whole : decimal n ≡ (48 + n / 10) ∷ (48 + n % 10) ∷ [] = decimal_step_wide n ge (omega (arith, h.1)) ∙ ap (λ l. l ++ (48 + n % 10) ∷ []) tens in
          ap bits_of whole ∙ two_digits (n / 10) (n % 10) n (omega (arith, ge)) (omega (arith, h.1)) (omega arith) (omega arith) h.1
    ]

-- ---- numbers that some bits hold

between_more : (x y : ℕ) (z : ℤ) → 1 ≤ x → x ≤ y → is_between (neg_ℤ (pos x)) (pos (x - 1)) z ≡ true → is_between (neg_ℤ (pos y)) (pos (y - 1)) z ≡ true
between_more zero y z low le h = absurd (omega (arith, low))
between_more (suc x) zero z low le h = absurd (omega (arith, le))
between_more (suc x) (suc y) (pos n) low le h = let top : n ≤ suc x - 1 = leb-true n (suc x - 1) h in le-leb n (suc y - 1) (omega (arith, top, le))
between_more (suc x) (suc y) (negsuc n) low le h =
    let top : n ≤ x = leb-true n x (and_parts (nat_le n x) true h).0 in
    and_from (nat_le n y) true (le-leb n y (omega (arith, top, le))) refl

some_power : (n : ℕ) → 1 ≤ 2 ^ n
some_power n = pow_mono {i = 0} {j = n} (omega arith)

pub fits_more : (bits other : ℕ) (z : ℤ) → bits ≤ other → fits_bits bits z ≡ true → fits_bits other z ≡ true
fits_more bits other z le h = between_more (2 ^ (bits - 1)) (2 ^ (other - 1)) z (some_power (bits - 1)) (pow_mono {i = bits - 1} {j = other - 1} (omega (arith, le))) h

pub fits_short : (z : ℤ) → fits_bits 128 z ≡ true → IsShortInt z
fits_short (pos n) h = let top : n ≤ 170141183460469231731687303715884105727 = leb-true n 170141183460469231731687303715884105727 h in omega (arith, top)
fits_short (negsuc n) h = let top : n ≤ 170141183460469231731687303715884105727 = leb-true n 170141183460469231731687303715884105727 (and_parts _ true h).0 in omega (arith, top)

-- ---- different numbers

pub decimal_apart : (m n : ℕ) → IsShort m → IsShort n → decimal m ≡ decimal n → m ≡ n
decimal_apart m n few other e = sym (value_is m few) ∙ ap (digits_value 10) e ∙ value_is n other

not_letter : (b : ℕ) (bs ds : List ℕ) → 57 < b → AllDigits 10 ds → ds ≡ b ∷ bs → ⊥
not_letter b bs ds high all e =
    let range = (tells_digits.parts b bs (subst (AllDigits 10) e all)).0 in
    absurd (omega (arith, range, high))

-- no number begins with a letter
pub decimal_no_letter : (n b : ℕ) (bs : List ℕ) → IsShort n → 57 < b → decimal n ≡ b ∷ bs → ⊥
decimal_no_letter n b bs few high e = not_letter b bs (decimal n) high (numeral n few).1 e
