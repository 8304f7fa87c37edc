-- A spelling ends before a byte that it does not go on with, and a text that is made of pieces is read as those pieces.
use Rattle.std.proofs.Common.{◌≡◌, ℕ, zero, suc, ◌+◌, ◌-◌, ◌≤◌, ◌<◌, Bool, true, false, not, ◌==◌, ◌&&◌, ◌||◌, nat_eq, codes, List, [], ◌∷◌, ◌++◌, length, take, drop, refl, ap, sym, ◌∙◌, subst, inl, inr, arith, Option, Some, None, length-append, length-drop, length-take}
use Rattle.std.specs.Char.{is_ascii_digit}
use Rattle.std.specs.List.{prefix_len, list_all, starts_with}
use Rattle.std.proofs.lemmas.Bool.{cond_both, cond-false, and_parts, or_cases, not-true, cases_Bool, eqb-true, false≢true}
use Rattle.std.proofs.lemmas.List.{append-nil, take_at, drop_at, drop-drop}
use Rattle.mlir_lex.specs.declared.TokenKind.{TokenKind}
use Rattle.mlir_lex.specs.declared.TokenKind.TheVariants.{Word, Int, Value, Symbol, TypeName, Text, Sign}
use Rattle.mlir_lex.specs.Spellings.{begins_word, continues_word, continues_value, is_text_byte, is_sign, is_word, is_int, is_value_name, is_closed, is_sign_text, spells, is_blank}
use Rattle.mlir_lex.specs.Lengths.{kind_of_first, starts_with_digit, marked_length, word_length, closed_length, token_length}
use Rattle.mlir_lex.specs.Tokens.{StartsWith, StartsWithLongest, IsStopAt, AreTokensFrom, AreTokensOf, gap_length, after_gap}
use Rattle.mlir_lex.specs.Pieces.{Piece, pieces_text, tokens_from, goes_on, ends_before, ArePieces}
use Rattle.mlir_lex.proofs.FirstBytes.{spells-empty, kind_of_spelling}
use Rattle.mlir_lex.proofs.Gaps.{gap_length-after_blanks}
use Rattle.mlir_lex.proofs.Longest.{closes_at, sign_is_no_dash, token_at_most, first_is_longest, no_token_at_end, kind_of_start}

-- ---- where a spelling ends

-- the first of some bytes, where there is one, does not pass the test
abbrev Stops : (ℕ → Bool) → List ℕ → Type 0
Stops p [] = Unit {0}
Stops p (b ∷ bs) = p b ≡ false

-- the longest passing front ends before a byte that does not pass
prefix_len-stops : (p : ℕ → Bool) (text rest : List ℕ) → Stops p rest → prefix_len p (text ++ rest) ≤ length text
prefix_len-stops p [] [] h = omega arith
prefix_len-stops p [] (b ∷ bs) h = rw h (omega arith)
prefix_len-stops p (x ∷ xs) rest h =
    let behind : prefix_len p (xs ++ rest) ≤ length xs = prefix_len-stops p xs rest h in
    cond_both (p x) (1 + prefix_len p (xs ++ rest)) 0 (λ n. n ≤ suc (length xs)) (λ e. omega arith) (λ e. omega arith)

-- a mark and what follows it is one longer
marked_length-le : (n m : ℕ) → n ≤ m → marked_length n ≤ suc m
marked_length-le n m h = cond_both (n == 0) 0 (n + 1) (λ k. k ≤ suc m) (λ e. omega arith) (λ e. omega arith)

word_stops : (text rest : List ℕ) → is_word text ≡ true → Stops continues_word rest → word_length (text ++ rest) ≤ length text
word_stops [] rest h stops = absurd (false≢true h)
word_stops (b ∷ bs) rest h stops =
    let behind : prefix_len continues_word (bs ++ rest) ≤ length bs = prefix_len-stops continues_word bs rest stops in
    cond_both (begins_word b) (1 + prefix_len continues_word (bs ++ rest)) 0 (λ n. n ≤ suc (length bs)) (λ e. omega arith) (λ e. omega arith)

closed_stops : (text rest : List ℕ) → is_closed text ≡ true → closed_length (text ++ rest) ≤ length text
closed_stops text rest h =
    let there : is_closed (take (length text) (text ++ rest)) ≡ true = rw (take_at text rest (length text) refl) h in
    let quote = closes_at (text ++ rest) (length text) (omega (arith, length-append text rest)) there in
    cond_both (_ == 34) (prefix_len is_text_byte (text ++ rest) + 1) 0 (λ n. n ≤ length text) (λ e. omega (arith, quote.0)) (λ e. omega arith)

sign_stops : (b : ℕ) (text rest : List ℕ) → is_sign_text (b ∷ text) ≡ true → token_length Sign b (text ++ rest) ≤ suc (length text)
sign_stops b [] rest h = rw (sign_is_no_dash b h) (omega arith)
sign_stops b (c ∷ []) rest h =
    cond_both (b == 45) _ 1 (λ n. n ≤ 2) (λ e. cond_both (c == 62) 2 0 (λ n. n ≤ 2) (λ f. omega arith) (λ f. omega arith)) (λ e. omega arith)
sign_stops b (c ∷ d ∷ text) rest h = absurd (false≢true h)

-- a token does not go on
stops_word : (kind : TokenKind) (rest : List ℕ) → ends_before kind rest ≡ true → Stops (goes_on kind) rest
stops_word kind [] h = tt
stops_word kind (b ∷ bs) h = not-true (goes_on kind b) h

-- the length of the longest token is no more than the spelling's
token_stops : (kind : TokenKind) (b : ℕ) (text rest : List ℕ) → spells kind (b ∷ text) ≡ true → Stops (goes_on kind) rest → token_length kind b (text ++ rest) ≤ suc (length text)
token_stops Word b text rest h stops = let behind = prefix_len-stops continues_word text rest stops in omega (arith, behind)
token_stops Int b text rest h stops = let behind = prefix_len-stops is_ascii_digit text rest stops in omega (arith, behind)
token_stops Value b text rest h stops = marked_length-le _ _ (prefix_len-stops continues_value text rest stops)
token_stops Symbol b text rest h stops = marked_length-le _ _ (word_stops text rest (and_parts (b == 64) (is_word text) h).1 stops)
token_stops TypeName b text rest h stops = marked_length-le _ _ (word_stops text rest (and_parts (b == 33) (is_word text) h).1 stops)
token_stops Text b text rest h stops = marked_length-le _ _ (closed_stops text rest (and_parts (b == 34) (is_closed text) h).1)
token_stops Sign b text rest h stops = sign_stops b text rest h

-- a spelling is the longest before a byte that it does not go on with, and before the end
pub longest_before_end : (kind : TokenKind) (text rest : List ℕ) → spells kind text ≡ true → ends_before kind rest ≡ true → StartsWithLongest kind (length text) (text ++ rest)
longest_before_end kind [] rest h ends = absurd (false≢true (sym (spells-empty kind) ∙ h))
longest_before_end kind (b ∷ text) rest h ends =
    let front : take (length text) (text ++ rest) ≡ text = take_at text rest (length text) refl in
    let there : spells kind (b ∷ take (length text) (text ++ rest)) ≡ true = rw front h in
    let within : length text ≤ length (text ++ rest) = omega (arith, length-append text rest) in
    let least : suc (length text) ≤ token_length kind b (text ++ rest) = token_at_most kind (length text) b (text ++ rest) within there in
    let most : token_length kind b (text ++ rest) ≤ suc (length text) = token_stops kind b text rest h (stops_word kind rest ends) in
    let same : token_length kind b (text ++ rest) ≡ suc (length text) = omega arith in
    let told : kind_of_first b (starts_with_digit (text ++ rest)) ≡ Some kind = kind_of_spelling kind (length text) b (text ++ rest) there in
    subst (λ (n : ℕ). StartsWithLongest kind n (b ∷ (text ++ rest))) same (first_is_longest kind b (text ++ rest) told (omega arith))

-- ---- no gap where a token starts

-- a blank and a slash begin no token
blank_no_kind : (b : ℕ) (d : Bool) → is_blank b ≡ true → kind_of_first b d ≡ None
blank_no_kind b d h =
    elim (or_cases (b == 32 || b == 9 || b == 13) (b == 10) h) [
      | inr e ↦ at 10 e refl
      | inl g ↦ elim (or_cases (b == 32 || b == 9) (b == 13) g) [
        | inr e ↦ at 13 e refl
        | inl f ↦ elim (or_cases (b == 32) (b == 9) f) [ inl e ↦ at 32 e refl | inr e ↦ at 9 e refl ]
      ]
    ]
  where
    at : (n : ℕ) → (b == n) ≡ true → kind_of_first n d ≡ None → kind_of_first b d ≡ None
    at n e none = subst (λ (x : ℕ). kind_of_first x d ≡ None) (sym (eqb-true b n e)) none

no_kind_no_start : (kind : TokenKind) (n b : ℕ) (bs : List ℕ) → kind_of_first b (starts_with_digit bs) ≡ None → StartsWith kind n (b ∷ bs) → ⊥
no_kind_no_start kind n b bs none starts = let told = kind_of_start kind n b bs starts in cc

comment_no_start : (kind : TokenKind) (n b : ℕ) (bs : List ℕ) → starts_with nat_eq (b ∷ bs) (codes "//") ≡ true → StartsWith kind n (b ∷ bs) → ⊥
comment_no_start kind n b [] h starts = false≢true (and_no (47 == b) h)
  where
    and_no : (t : Bool) → (t && false) ≡ true → false ≡ true
    and_no true e = e
    and_no false e = e
comment_no_start kind n b (c ∷ cs) h starts =
    let first : 47 ≡ b = eqb-true 47 b (and_parts (47 == b) _ h).0 in
    no_kind_no_start kind n b (c ∷ cs) (subst (λ (x : ℕ). kind_of_first x (starts_with_digit (c ∷ cs)) ≡ None) first refl) starts

-- where a token starts there is no gap
pub no_gap_at_token : (kind : TokenKind) (n : ℕ) (bytes : List ℕ) → StartsWith kind n bytes → gap_length false bytes ≡ 0
no_gap_at_token kind n [] starts = refl
no_gap_at_token kind n (b ∷ bs) starts =
    cond_both (is_blank b) (1 + gap_length false bs) _ (λ k. k ≡ 0)
    (λ e. absurd (no_kind_no_start kind n b bs (blank_no_kind b (starts_with_digit bs) e) starts))
    (λ e. cond_both (starts_with nat_eq (b ∷ bs) (codes "//")) (1 + gap_length true bs) 0 (λ k. k ≡ 0) (λ f. absurd (comment_no_start kind n b bs f starts)) (λ f. refl))

-- ---- a text that is made of pieces

-- at its end stand blanks
read_end : (bytes last : List ℕ) (place : ℕ) → place ≤ length bytes → drop place bytes ≡ last → list_all is_blank last ≡ true → IsStopAt bytes (after_gap bytes place) None
read_end bytes last place within left blanks =
    let gap : gap_length false (drop place bytes) ≡ length last + 0 = ap (λ ys. gap_length false ys) (left ∙ sym (append-nil last)) ∙ gap_length-after_blanks last [] blanks in
    let long : length bytes - place ≡ length last = sym (length-drop place bytes) ∙ ap (λ (ys : List ℕ). length ys) left in
    omega (arith, gap, long)

-- what is left behind a piece's blanks and its token
behind : (bytes front rest : List ℕ) (place : ℕ) → place ≤ length bytes → drop place bytes ≡ front ++ rest → (place + length front ≤ length bytes) × (drop (place + length front) bytes ≡ rest)
behind bytes front rest place within left =
    let long : length bytes - place ≡ length front + length rest = sym (length-drop place bytes) ∙ ap (λ (ys : List ℕ). length ys) left ∙ length-append front rest in
    (omega (arith, long), sym (drop-drop (length front) place bytes) ∙ ap (λ ys. drop (length front) ys) left ∙ drop_at front rest (length front) refl)

pub read_from : (bytes : List ℕ) (place : ℕ) (pieces : List Piece) (last : List ℕ) → place ≤ length bytes → drop place bytes ≡ pieces_text pieces last → ArePieces pieces last → AreTokensFrom bytes place (tokens_from place pieces) None
read_from bytes place [] last within left are = read_end bytes last place within left are
read_from bytes place (piece ∷ pieces) last within left are =
    let rest : List ℕ = pieces_text pieces last in
    let longest : StartsWithLongest piece.kind (length piece.text) (piece.text ++ rest) = longest_before_end piece.kind piece.text rest are.1 are.2 in
    let none : gap_length false (piece.text ++ rest) ≡ 0 = no_gap_at_token piece.kind (length piece.text) (piece.text ++ rest) longest.0 in
    let gap : gap_length false (drop place bytes) ≡ length piece.blanks + gap_length false (piece.text ++ rest) = ap (λ ys. gap_length false ys) left ∙ gap_length-after_blanks piece.blanks (piece.text ++ rest) are.0 in
    let start : after_gap bytes place ≡ place + length piece.blanks = omega (arith, gap, none) in
    let token = behind bytes piece.blanks (piece.text ++ rest) place within left in
    let after = behind bytes piece.text rest (place + length piece.blanks) token.0 token.1 in
    let count : length piece.text ≡ place + length piece.blanks + length piece.text - (place + length piece.blanks) = omega arith in
    let there : drop (after_gap bytes place) bytes ≡ piece.text ++ rest = ap (λ n. drop n bytes) start ∙ token.1 in
    let here : StartsWithLongest piece.kind (place + length piece.blanks + length piece.text - (place + length piece.blanks)) (drop (after_gap bytes place) bytes) =
    subst (λ (n : ℕ). StartsWithLongest piece.kind n (drop (after_gap bytes place) bytes)) count (subst (λ (ys : List ℕ). StartsWithLongest piece.kind (length piece.text) ys) (sym there) longest) in
    ((sym start, omega arith, here), read_from bytes (place + length piece.blanks + length piece.text) pieces last after.0 after.1 are.3)

pub read_pieces : (pieces : List Piece) (last : List ℕ) → ArePieces pieces last → AreTokensOf (pieces_text pieces last) (tokens_from 0 pieces) None
read_pieces pieces last are = read_from (pieces_text pieces last) 0 pieces last (omega arith) refl are
