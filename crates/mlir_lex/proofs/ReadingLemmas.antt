-- The function that reads the tokens fits their definition.
use Rattle.std.proofs.Common.{◌≡◌, ℕ, zero, suc, ◌+◌, ◌-◌, ◌≤◌, ◌<◌, Bool, true, false, not, ◌==◌, nat_eq, codes, List, [], ◌∷◌, length, drop, refl, sym, subst, arith, Option, Some, None, length-drop}
use Rattle.std.specs.List.{starts_with}
use Rattle.std.proofs.lemmas.Bool.{cond_both, eqb-true}
use Rattle.std.proofs.lemmas.Bool.Decides.{nat_tests}
use Rattle.mlir_lex.specs.declared.TokenKind.{TokenKind}
use Rattle.mlir_lex.specs.Spellings.{is_blank}
use Rattle.mlir_lex.specs.Tokens.{StartsWithLongest, IsStopAt, AreTokensFrom, AreTokensOf, gap_length, after_gap}
use Rattle.mlir_lex.specs.Lengths.{IsFirstToken, kind_of_first, starts_with_digit, token_length}
use Rattle.mlir_lex.specs.Reading.{Reading, of_length, of_kind, first_token, reading_at, reading_from, tokens_of}
use Rattle.mlir_lex.proofs.Longest.{first_is_longest, no_kind_no_token, no_length_no_token, no_token_at_end, starts_with_nothing}

-- a gap is within the bytes
gap_length-le : (in_comment : Bool) (xs : List ℕ) → gap_length in_comment xs ≤ length xs
gap_length-le in_comment [] = omega arith
gap_length-le true (x ∷ xs) = let rest = gap_length-le (not (x == 10)) xs in omega (arith, rest)
gap_length-le false (x ∷ xs) =
    let blanks = gap_length-le false xs in
    let comment = gap_length-le true xs in
    cond_both (is_blank x) (1 + gap_length false xs) _ (λ n. n ≤ suc (length xs)) (λ e. omega (arith, blanks))
    (λ e. cond_both (starts_with nat_eq (x ∷ xs) (codes "//")) (1 + gap_length true xs) 0 (λ n. n ≤ suc (length xs)) (λ f. omega (arith, comment)) (λ f. omega arith))

-- the place behind a gap is too
after_gap-le : (bytes : List ℕ) (place : ℕ) → place ≤ length bytes → after_gap bytes place ≤ length bytes
after_gap-le bytes place h = omega (arith, gap_length-le false (drop place bytes), length-drop place bytes)

of_length_first : (kind : TokenKind) (b : ℕ) (bs : List ℕ) → kind_of_first b (starts_with_digit bs) ≡ Some kind → IsFirstToken (b ∷ bs) (of_length kind (token_length kind b bs))
of_length_first kind b bs e =
    cond_both (token_length kind b bs == 0) None (Some (kind, token_length kind b bs)) (λ found. IsFirstToken (b ∷ bs) found)
    (λ z. no_length_no_token kind b bs e (eqb-true (token_length kind b bs) 0 z))
    (λ z. first_is_longest kind b bs e (above_zero (token_length kind b bs) z))
  where
    above_zero : (n : ℕ) → (n == 0) ≡ false → 0 < n
    above_zero n z = grind (arith, nat_tests)

of_kind_first : (kind : Option TokenKind) (b : ℕ) (bs : List ℕ) → kind_of_first b (starts_with_digit bs) ≡ kind → IsFirstToken (b ∷ bs) (of_kind kind b bs)
of_kind_first None b bs e = no_kind_no_token b bs e
of_kind_first (Some kind) b bs e = of_length_first kind b bs e

first_token_first : (bytes : List ℕ) → IsFirstToken bytes (first_token bytes)
first_token_first [] = no_token_at_end
first_token_first (b ∷ bs) = of_kind_first (kind_of_first b (starts_with_digit bs)) b bs refl

-- a reading fits from a place on
abbrev FitsFrom : List ℕ → ℕ → Reading → Type 0
FitsFrom bytes place reading = AreTokensFrom bytes place reading.0 reading.1

reading_at_fits : (bytes : List ℕ) (place : ℕ) (behind : ℕ → Reading) (found : Option (TokenKind × ℕ)) → after_gap bytes place ≤ length bytes → IsFirstToken (drop (after_gap bytes place) bytes) found → ((n : ℕ) → 0 < n → after_gap bytes place + n ≤ length bytes → FitsFrom bytes (after_gap bytes place + n) (behind (after_gap bytes place + n))) → FitsFrom bytes place (reading_at behind (length bytes) (after_gap bytes place) found)
reading_at_fits bytes place behind None within first rest =
    cond_both (after_gap bytes place == length bytes) None (Some (record { at = after_gap bytes place })) (λ stop. IsStopAt bytes (after_gap bytes place) stop)
    (λ e. eqb-true (after_gap bytes place) (length bytes) e)
    (λ e. (refl, before_end (after_gap bytes place) (length bytes) within e, first))
  where
    before_end : (n m : ℕ) → n ≤ m → (n == m) ≡ false → n < m
    before_end n m h e = grind (arith, nat_tests)
reading_at_fits bytes place behind (Some found) within first rest =
    let start : ℕ = after_gap bytes place in
    let behind_start : start + found.1 - start ≡ found.1 = omega arith in
    let longest : StartsWithLongest found.0 (start + found.1 - start) (drop start bytes) = subst (λ (n : ℕ). StartsWithLongest found.0 n (drop start bytes)) (sym behind_start) first in
    let inside : start + found.1 ≤ length bytes = omega (arith, first.0.0, length-drop start bytes) in
    let order : start ≤ start + found.1 = omega arith in
    ((refl, order, longest), rest found.1 (some_bytes found.0 found.1 (drop start bytes) first) inside)
  where
    some_bytes : (kind : TokenKind) (n : ℕ) (xs : List ℕ) → StartsWithLongest kind n xs → 0 < n
    some_bytes kind zero xs h = absurd (starts_with_nothing kind xs h.0)
    some_bytes kind (suc n) xs h = omega arith

-- what is read in enough steps fits
reading_from_fits : (most : ℕ) (bytes : List ℕ) (place : ℕ) → place ≤ length bytes → length bytes ≤ place + most → FitsFrom bytes place (reading_from most bytes place)
reading_from_fits zero bytes place h enough =
    let within : after_gap bytes place ≤ length bytes = after_gap-le bytes place h in
    omega (arith, within)
reading_from_fits (suc most) bytes place h enough =
    reading_at_fits bytes place (reading_from most bytes) (first_token (drop (after_gap bytes place) bytes)) (after_gap-le bytes place h) (first_token_first (drop (after_gap bytes place) bytes))
    (λ n some inside. reading_from_fits most bytes (after_gap bytes place + n) inside (omega arith))

pub tokens_of_fits : (bytes : List ℕ) → AreTokensOf bytes (tokens_of bytes).0 (tokens_of bytes).1
unfolding tokens_of
tokens_of_fits bytes = reading_from_fits (length bytes) bytes 0 (omega arith) (omega arith)
