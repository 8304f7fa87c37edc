-- A number that is read is spelled so, and what is spelled is read again.
use Rattle.std.proofs.Common.{◌≡◌, ℕ, zero, suc, ◌+◌, ◌-◌, ◌*◌, ◌/◌, ◌%◌, ◌≤◌, ◌<◌, ◌^◌, ℤ, pos, negsuc, Bool, true, false, cond, ◌&&◌, ◌||◌, List, [], ◌∷◌, ◌++◌, length, get_or, take, drop, Ok, Err, ltb, leb, eqb, arith, sym, ap, refl, ◌∙◌, subst, length-append, append_assoc, inl, inr}
use Rattle.std.specs.Prelude.{not, slice_index, unsigned_abs}
use Rattle.std.specs.Char.{is_ascii_digit, digit_value}
use Rattle.std.specs.Fmt.{decimal, signed_decimal}
use Rattle.std.specs.Int.{IsInRange}
use Rattle.std.specs.Str.{bytes_eq}
use Rattle.std.specs.Str.Parse.{AllDigits, digits_value}
use Rattle.std.proofs.lemmas.Bool.{and_parts, ltb-true, leb-true, lt-ltb, le-leb, cases_lt, eqb-true, ne_eqb}
use Rattle.std.proofs.lemmas.Bool.Decides.{nat_tests}
use Rattle.std.proofs.lemmas.Fmt.{decimal_digit, decimal_step_wide, decimal_by_steps_wide, decimal_is_IsNumeral_wide, length-decimal-le_wide}
use Rattle.std.proofs.lemmas.Int.Digits.{digits_value_more, digits_value-lt}
use Rattle.std.proofs.lemmas.List.{take_at, drop_at, take-append-drop, get_or_append_left, get_or-append_right, take_more, take_all, length-take}
use Rattle.std.proofs.lemmas.List.Sums.{position_or_len_is}
use Rattle.std.proofs.lemmas.Nat.{div-mul-add, mod-mul-add}
use Rattle.std.proofs.lemmas.Slice.Eq.{bytes_eq-Decides}
use Rattle.std.proofs.lemmas.Str.{digit_value_digit}
use Rattle.std.proofs.lemmas.Str.Parse.{digit_at, digits_value-take-le}
use Rattle.refusals.specs.Reading.{◌>>=◌}
use Rattle.refusals.specs.Steps.{one_value, value_of_step}
use Rattle.circuit_lines.specs.declared.fault.Misspelled.{Misspelled}
use Rattle.circuit_lines.specs.Numbers.{Read, IsShort, misspelled, begins, literal_at, is_numeral, numeral_value, digit_count, natural_at, negated, number_at, field_at}
use Rattle.circuit_lines.specs.Lines.{field}
use Rattle.circuit_lines.proofs.NumberLemmas.{front_digits, short_below}

abbrev given : {A : Type 0} → A → Read A
given x = Ok x

-- what holds of the value that a step made holds of the value that it gave
pub at_given : {A : Type 0} (P : A → Type 0) (x y : A) → given x ≡ given y → P x → P y
at_given P x y e p = subst P (one_value x (given y) e) p

-- a test that was passed
pub test_passed : {A : Type 0} (test : Bool) (x y : A) (fault : Misspelled) → cond test (Ok x) (Err fault) ≡ Ok y → (test ≡ true) × (x ≡ y)
test_passed true x y fault e = (refl, cc)
test_passed false x y fault e = absurd cc

-- ---- words

pub words_begin : (words bytes : List ℕ) → begins words bytes ≡ true → bytes ≡ words ++ drop (length words) bytes
words_begin words bytes e =
    let front : take (length words) bytes ≡ words = (bytes_eq-Decides (take (length words) bytes) words).0 e in
    sym (take-append-drop (length words) bytes) ∙ ap (λ (w : List ℕ). w ++ drop (length words) bytes) front

pub words_taken : (line : ℕ) (words bytes rest : List ℕ) → literal_at line words bytes ≡ Ok rest → bytes ≡ words ++ rest
unfolding literal_at
words_taken line words bytes rest e =
    let t = test_passed (begins words bytes) (drop (length words) bytes) rest (misspelled line) e in
    words_begin words bytes t.0 ∙ ap (λ (r : List ℕ). words ++ r) t.1

pub words_again : (line : ℕ) (words rest : List ℕ) → literal_at line words (words ++ rest) ≡ Ok rest
unfolding literal_at
words_again line words rest = rw (take_at words rest (length words) refl, drop_at words rest (length words) refl, (bytes_eq-Decides words words).1 refl) refl

-- ---- numerals

-- no zero stands in front of another digit, and the digits are few
numeral_shape : (digits : List ℕ) → is_numeral digits ≡ true → (0 < length digits) × (get_or digits 0 0 ≡ 48 → length digits ≡ 1) × (length digits ≤ 38)
numeral_shape digits e = (grind (arith, nat_tests), λ first. grind (arith, nat_tests), grind (arith, nat_tests))

-- one digit more behind a number that is not 0
one_digit_more : (v d c : ℕ) (ds : List ℕ) → 0 < v → v * 10 + d < 10 ^ 64 → d < 10 → 48 + d ≡ c → decimal v ≡ ds → decimal (v * 10 + d) ≡ ds ++ c ∷ []
one_digit_more v d c ds some small digit is e =
    let front : (v * 10 + d) / 10 ≡ v = div-mul-add v 10 d digit in
    let last : (v * 10 + d) % 10 ≡ d = mod-mul-add v 10 d digit in
    decimal_step_wide (v * 10 + d) (omega arith) small ∙ rw (front, last, is, e) refl

digit_small : (c : ℕ) → IsInRange 48 57 c → (digit_value c < 10) × (48 + digit_value c ≡ c)
digit_small c h = (omega (arith, h, digit_value_digit c h), omega (arith, digit_value_digit c h))

one_place_more : (ds : List ℕ) (i : ℕ) → AllDigits 10 ds → length ds ≤ 38 → suc i < length ds → (0 < digits_value 10 (take (i + 1) ds)) × (decimal (digits_value 10 (take (i + 1) ds)) ≡ take (i + 1) ds)
    → (0 < digits_value 10 (take (i + 1 + 1) ds)) × (decimal (digits_value 10 (take (i + 1 + 1) ds)) ≡ take (i + 1 + 1) ds)
one_place_more ds i all few lt before =
    let within : i + 1 < length ds = omega (arith, lt) in
    let c = get_or ds (i + 1) 0 in
    let d = digit_small c (digit_at ds (i + 1) all within) in
    let v = digits_value 10 (take (i + 1) ds) in
    let value : digits_value 10 (take (i + 1 + 1) ds) ≡ v * 10 + digit_value c = digits_value_more 10 ds (i + 1) within in
    let whole : digits_value 10 (take (i + 1 + 1) ds) ≤ digits_value 10 ds = digits_value-take-le 10 ds (i + 1 + 1) (omega arith) in
    let small : v * 10 + digit_value c < 10 ^ 64 = omega (arith, value, whole, short_below ds all few) in
    let more : take (i + 1 + 1) ds ≡ take (i + 1) ds ++ c ∷ [] = take_more ds (i + 1) 0 within in
    (omega (arith, value, before.0), ap (λ (n : ℕ). decimal n) value ∙ one_digit_more v (digit_value c) c (take (i + 1) ds) before.0 small d.0 d.1 before.1 ∙ sym more)

front_spelled : (ds : List ℕ) (i : ℕ) → AllDigits 10 ds → length ds ≤ 38 → 48 < get_or ds 0 0 → i < length ds → (0 < digits_value 10 (take (i + 1) ds)) × (decimal (digits_value 10 (take (i + 1) ds)) ≡ take (i + 1) ds)
front_spelled ds zero all few first lt =
    let c = get_or ds 0 0 in
    let d = digit_small c (digit_at ds 0 all lt) in
    let more : digits_value 10 (take (0 + 1) ds) ≡ digits_value 10 (take 0 ds) * 10 + digit_value c = digits_value_more 10 ds 0 lt in
    let none : digits_value 10 (take 0 ds) ≡ 0 = refl in
    let value : digits_value 10 (take (0 + 1) ds) ≡ digit_value c = omega (arith, more, none) in
    let one : take (0 + 1) ds ≡ c ∷ [] = take_more ds 0 0 lt in
    let spelled : decimal (digit_value c) ≡ c ∷ [] = decimal_digit (digit_value c) d.0 ∙ ap (λ (b : ℕ). b ∷ []) d.1 in
    (omega (arith, value, d.0, d.1, first), ap (λ (n : ℕ). decimal n) value ∙ spelled ∙ sym one)
front_spelled ds (suc i) all few first lt =
    let place : suc i + 1 ≡ i + 1 + 1 = omega arith in
    rw place (one_place_more ds i all few lt (front_spelled ds i all few first (omega (arith, lt))))

only_zero : (ds : List ℕ) → length ds ≡ 1 → get_or ds 0 0 ≡ 48 → ds ≡ 48 ∷ []
only_zero [] one zero_first = absurd (omega arith)
only_zero (c ∷ []) one zero_first = ap (λ (b : ℕ). b ∷ []) zero_first
only_zero (c ∷ d ∷ ds) one zero_first = absurd (omega arith)

pub numeral_spelled : (ds : List ℕ) → AllDigits 10 ds → is_numeral ds ≡ true → decimal (digits_value 10 ds) ≡ ds
numeral_spelled ds all e =
    let shape = numeral_shape ds e in
    let first : IsInRange 48 57 (get_or ds 0 0) = digit_at ds 0 all shape.0 in
    elim (cases_lt 48 (get_or ds 0 0)) [
      | inl lt ↦
          let last : length ds - 1 + 1 ≡ length ds = omega (arith, shape.0) in
          let all_of : take (length ds - 1 + 1) ds ≡ ds = take_all (length ds - 1 + 1) ds (omega (arith, last)) in
          ap (λ (t : List ℕ). decimal (digits_value 10 t)) (sym all_of) ∙ (front_spelled ds (length ds - 1) all shape.2 lt (omega (arith, shape.0))).1 ∙ all_of
      | inr le ↦
          let is_zero : get_or ds 0 0 ≡ 48 = omega (arith, first, le) in
          let only : ds ≡ 48 ∷ [] = only_zero ds (shape.1 is_zero) is_zero in
          rw only (decimal_digit 0 (omega arith))
    ]

-- the digits of a number: some, none of them a zero in front of another one
first_digit : (n : ℕ) → n < 10 ^ 64 → (0 < n → 48 < get_or (decimal n) 0 0) × (0 < length (decimal n))
first_digit n small =
    decimal_by_steps_wide (λ n ds. (0 < n → 48 < get_or ds 0 0) × (0 < length ds))
    (λ n lt. (λ some. omega arith, omega arith))
    (λ n ds le h. (λ some. let front : get_or (ds ++ (48 + n % 10) ∷ []) 0 0 ≡ get_or ds 0 0 = get_or_append_left ds ((48 + n % 10) ∷ []) 0 0 h.1 in omega (arith, front, h.0 (omega arith)), omega (arith, length-append ds ((48 + n % 10) ∷ []))))
    n small

pub decimal_numeral : (n : ℕ) → n < 10 ^ 38 → is_numeral (decimal n) ≡ true
decimal_numeral n small =
    let short : length (decimal n) ≤ 38 = length-decimal-le_wide 38 n (omega arith) small (omega arith) in
    let first = first_digit n (omega arith) in
    elim (cases_lt 0 n) [
      | inl lt ↦ let d : 48 < get_or (decimal n) 0 0 = first.0 lt in grind (arith, nat_tests)
      | inr le ↦ let none : decimal n ≡ 48 ∷ [] = decimal_digit n (omega (arith, le)) ∙ ap (λ b. b ∷ []) (omega (arith, le)) in rw none refl
    ]

numeral_again : (line n : ℕ) → n < 10 ^ 38 → numeral_value line (decimal n) ≡ Ok n
unfolding numeral_value
numeral_again line n small =
    let value : digits_value 10 (decimal n) ≡ n = (decimal_is_IsNumeral_wide n (omega arith)).1 in
    rw (decimal_numeral n small, value) refl

-- ---- naturals

numeral_taken : (line : ℕ) (digits : List ℕ) (n : ℕ) → AllDigits 10 digits → numeral_value line digits ≡ Ok n → (digits ≡ decimal n) × (n < 10 ^ 38)
unfolding numeral_value
numeral_taken line digits n all e =
    let t = test_passed (is_numeral digits) (digits_value 10 digits) n (misspelled line) e in
    subst (λ (m : ℕ). (digits ≡ decimal m) × (m < 10 ^ 38)) t.1 (sym (numeral_spelled digits all t.0), short_below digits all (numeral_shape digits t.0).2)

pub natural_taken : (line : ℕ) (bytes : List ℕ) (x : ℕ × List ℕ) → natural_at line bytes ≡ Ok x → (bytes ≡ decimal x.0 ++ x.1) × (x.0 < 10 ^ 38)
unfolding natural_at
natural_taken line bytes x e =
    let count : ℕ = digit_count bytes in
    let b = value_of_step (numeral_value line (take count bytes)) (λ n. Ok (n, drop count bytes)) x e in
    let made : ℕ × List ℕ = (b.0, drop count bytes) in
    let t = numeral_taken line (take count bytes) b.0 (front_digits bytes) b.1 in
    let whole : bytes ≡ decimal b.0 ++ drop count bytes = sym (take-append-drop count bytes) ∙ ap (λ (w : List ℕ). w ++ drop count bytes) t.0 in
    at_given (λ (y : ℕ × List ℕ). (bytes ≡ decimal y.0 ++ y.1) × (y.0 < 10 ^ 38)) made x b.2 (whole, t.1)

is_digit : (b : ℕ) → IsInRange 48 57 b → not (is_ascii_digit b) ≡ false
is_digit b h = grind (arith, nat_tests)

digits_end : (digits rest : List ℕ) → AllDigits 10 digits → is_ascii_digit (slice_index rest 0) ≡ false → digit_count (digits ++ rest) ≡ length digits
digits_end digits rest all stop =
    let len : length (digits ++ rest) ≡ length digits + length rest = length-append digits rest in
    position_or_len_is (λ byte. not (is_ascii_digit byte)) (digits ++ rest) (length digits) 0 (omega arith)
    (λ k lt. rw (get_or_append_left digits rest 0 k lt) (is_digit (get_or digits k 0) (digit_at digits k all lt)))
    (λ lt. let place : get_or (digits ++ rest) (length digits) 0 ≡ get_or rest 0 0 = get_or-append_right digits rest (length digits) (length digits) 0 refl (omega arith) ∙ ap (λ (k : ℕ). get_or rest k 0) (omega arith) in rw (place, stop) refl)

pub natural_again : (line n : ℕ) (rest : List ℕ) → n < 10 ^ 38 → is_ascii_digit (slice_index rest 0) ≡ false → natural_at line (decimal n ++ rest) ≡ Ok (n, rest)
unfolding natural_at
natural_again line n rest small stop =
    let count : digit_count (decimal n ++ rest) ≡ length (decimal n) = digits_end (decimal n) rest (decimal_is_IsNumeral_wide n (omega arith)).0.1 stop in
    rw (count, take_at (decimal n) rest (length (decimal n)) refl, drop_at (decimal n) rest (length (decimal n)) refl, numeral_again line n small) refl

-- ---- numbers

-- what a reader of numbers takes
pub record IsNumberAt (bytes : List ℕ) (x : ℤ × List ℕ) : Type 0 where
  pub parts : bytes ≡ signed_decimal x.0 ++ x.1
  pub short : IsShort x.0

-- the number below zero
below_zero : (line : ℕ) (m : ℕ × List ℕ) (x : ℤ × List ℕ) (bytes : List ℕ) → negated line m ≡ Ok x → (bytes ≡ decimal m.0 ++ m.1) × (m.0 < 10 ^ 38) → IsNumberAt (45 ∷ bytes) x
below_zero line (zero, rest) x bytes e natural = absurd cc
below_zero line (suc n, rest) x bytes e natural = at_given (IsNumberAt (45 ∷ bytes)) (negsuc n, rest) x e (record { parts = ap (λ (w : List ℕ). 45 ∷ w) natural.0; short = natural.1 })

not_below_zero : (line : ℕ) (bytes : List ℕ) (x : ℤ × List ℕ) → (natural_at line bytes >>= λ n. Ok (pos n.0, n.1)) ≡ Ok x → IsNumberAt bytes x
not_below_zero line bytes x e =
    let b = value_of_step (natural_at line bytes) (λ n. Ok (pos n.0, n.1)) x e in
    let t = natural_taken line bytes b.0 b.1 in
    at_given (IsNumberAt bytes) (pos b.0.0, b.0.1) x b.2 (record { parts = t.0; short = t.1 })

by_sign : (line : ℕ) (test : Bool) (byte : ℕ) (bytes : List ℕ) (x : ℤ × List ℕ) → (test ≡ true → byte ≡ 45) → cond test (natural_at line bytes >>= negated line) (natural_at line (byte ∷ bytes) >>= λ n. Ok (pos n.0, n.1)) ≡ Ok x → IsNumberAt (byte ∷ bytes) x
by_sign line true byte bytes x minus e =
    let b = value_of_step (natural_at line bytes) (negated line) x e in
    rw (minus refl) (below_zero line b.0 x bytes b.2 (natural_taken line bytes b.0 b.1))
by_sign line false byte bytes x minus e = not_below_zero line (byte ∷ bytes) x e

pub number_taken : (line : ℕ) (bytes : List ℕ) (x : ℤ × List ℕ) → number_at line bytes ≡ Ok x → IsNumberAt bytes x
unfolding number_at
number_taken line [] x e = absurd cc
number_taken line (byte ∷ bytes) x e = by_sign line (eqb byte 45) byte bytes x (eqb-true byte 45) e

plain_again : (line : ℕ) (bytes rest : List ℕ) (n : ℕ) → 0 < length bytes → (get_or bytes 0 0 ≡ 45 → ⊥) → natural_at line bytes ≡ Ok (n, rest) → number_at line bytes ≡ Ok (pos n, rest)
unfolding number_at
plain_again line [] rest n full plain e = absurd (omega arith)
plain_again line (byte ∷ bytes) rest n full plain e = rw (ne_eqb byte 45 plain, e) refl

pub number_again : (line : ℕ) (z : ℤ) (rest : List ℕ) → IsShort z → is_ascii_digit (slice_index rest 0) ≡ false → number_at line (signed_decimal z ++ rest) ≡ Ok (z, rest)
unfolding number_at
number_again line (pos n) rest small stop =
    let digits = (decimal_is_IsNumeral_wide n (omega arith)).0 in
    let full : 0 < length (decimal n) = digits.0 in
    let first : get_or (decimal n ++ rest) 0 0 ≡ get_or (decimal n) 0 0 = get_or_append_left (decimal n) rest 0 0 full in
    let digit : IsInRange 48 57 (get_or (decimal n) 0 0) = digit_at (decimal n) 0 digits.1 full in
    plain_again line (decimal n ++ rest) rest n (omega (arith, length-append (decimal n) rest)) (λ minus. omega (arith, digit, first, minus)) (natural_again line n rest small stop)
number_again line (negsuc n) rest small stop = rw (natural_again line (suc n) rest (omega (arith, small)) stop) refl

-- ---- fields

-- what a reader of a field takes
pub record IsField (words bytes : List ℕ) (x : ℤ × List ℕ) : Type 0 where
  pub parts : bytes ≡ field words x.0 ++ x.1
  pub short : IsShort x.0

pub field_taken : (line : ℕ) (words bytes : List ℕ) (x : ℤ × List ℕ) → field_at line words bytes ≡ Ok x → IsField words bytes x
unfolding field_at
field_taken line words bytes x e =
    let a = value_of_step (literal_at line words bytes) (number_at line) x e in
    let t = number_taken line a.0 x a.2 in
    record { parts = words_taken line words bytes a.0 a.1 ∙ ap (λ (r : List ℕ). words ++ r) t.parts ∙ sym (append_assoc words (signed_decimal x.0) x.1); short = t.short }

pub field_again : (line : ℕ) (words : List ℕ) (z : ℤ) (rest : List ℕ) → IsShort z → is_ascii_digit (slice_index rest 0) ≡ false → field_at line words (field words z ++ rest) ≡ Ok (z, rest)
unfolding field_at
field_again line words z rest small stop = rw (append_assoc words (signed_decimal z) rest, words_again line words (signed_decimal z ++ rest)) (number_again line z rest small stop)
