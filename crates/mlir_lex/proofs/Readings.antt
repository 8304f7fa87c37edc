-- What holds of every list of tokens that fits the definition.
use Rattle.std.proofs.Common.{◌≡◌, true, ℕ, zero, suc, length, All, ◌+◌, ◌-◌, ◌≤◌, ◌<◌, List, [], ◌∷◌, ◌++◌, take, drop, refl, ap, sym, ◌∙◌, subst, arith, Option, Some, None}
use Rattle.std.specs.List.{slice_range, AllByRecursion}
use Rattle.std.proofs.lemmas.List.Elements.{All-from_recursion}
use Rattle.std.proofs.lemmas.List.{length-drop, drop-drop, take-append-drop}
use Rattle.std.proofs.Math.ListN.{drop_of_length-le}
use Rattle.mlir_lex.specs.declared.TokenKind.{TokenKind}
use Rattle.mlir_lex.specs.declared.Token.{Token}
use Rattle.mlir_lex.specs.declared.LexFault.{LexFault}
use Rattle.mlir_lex.specs.Tokens.{StartsWith, StartsWithLongest, IsTokenAt, IsStopAt, AreTokensFrom, AreTokensOf, IsWithin, after_gap}
use Rattle.mlir_lex.specs.Spellings.{spells}
use Rattle.mlir_lex.specs.Pieces.{pieces_from, IsSpelled}
use Rattle.mlir_lex.proofs.Longest.{kinds_agree, no_token_at_end, starts_with_nothing}

-- the longest spelling at a place is one
same_length : (bytes : List ℕ) (kind other : TokenKind) (n m : ℕ) → StartsWithLongest kind n bytes → StartsWithLongest other m bytes → n ≡ m
same_length bytes kind other n m h g =
    let up : m ≤ n = h.1 other m g.0 in
    let down : n ≤ m = g.1 kind n h.0 in
    omega arith

same_fields : (token other : Token) → token.kind ≡ other.kind → token.start ≡ other.start → token.end ≡ other.end → token ≡ other
same_fields token other kind start end_ =
    let by_kind : TokenKind → Token = λ k. record { kind = k; start = token.start; end = token.end } in
    let by_start : ℕ → Token = λ n. record { kind = other.kind; start = n; end = token.end } in
    let by_end : ℕ → Token = λ n. record { kind = other.kind; start = other.start; end = n } in
    ap by_kind kind ∙ ap by_start start ∙ ap by_end end_

same_token : (bytes : List ℕ) (place : ℕ) (token other : Token) → IsTokenAt bytes place token → IsTokenAt bytes place other → token ≡ other
same_token bytes place token other h g =
    let kind : token.kind ≡ other.kind = kinds_agree (drop place bytes) token.kind other.kind _ _ h.2.0 g.2.0 in
    let start : token.start ≡ other.start = h.0 ∙ sym g.0 in
    let lengths : token.end - token.start ≡ other.end - other.start = same_length (drop place bytes) token.kind other.kind _ _ h.2 g.2 in
    let order : token.start ≤ token.end = h.1 in
    let other_order : other.start ≤ other.end = g.1 in
    let end_ : token.end ≡ other.end = omega arith in
    same_fields token other kind start end_

-- a token and a stop never stand at one place
no_token_at_stop : (bytes : List ℕ) (place : ℕ) (token : Token) (stop : Option LexFault) → IsTokenAt bytes place token → IsStopAt bytes place stop → ⊥
no_token_at_stop bytes place token None h g =
    let nothing : drop place bytes ≡ [] = drop_of_length-le bytes (omega (arith, g)) in
    no_token_at_end token.kind (token.end - token.start) (subst (λ (ys : List ℕ). StartsWith token.kind (token.end - token.start) ys) nothing h.2.0)
no_token_at_stop bytes place token (Some fault) h g = g.2 token.kind (token.end - token.start) h.2.0

same_stop : (bytes : List ℕ) (place : ℕ) (stop other : Option LexFault) → IsStopAt bytes place stop → IsStopAt bytes place other → stop ≡ other
same_stop bytes place None None h g = refl
same_stop bytes place None (Some fault) h g = absurd (omega (arith, h, g.1))
same_stop bytes place (Some fault) None h g = absurd (omega (arith, g, h.1))
same_stop bytes place (Some fault) (Some other) h g =
    let at : fault.at ≡ other.at = h.0 ∙ sym g.0 in
    let with_place : ℕ → Option LexFault = λ n. Some (record { at = n }) in
    ap with_place at

pub one_reading_from : (bytes : List ℕ) (place : ℕ) (first second : List Token) (stop other : Option LexFault) → AreTokensFrom bytes place first stop → AreTokensFrom bytes place second other → (first ≡ second) × (stop ≡ other)
one_reading_from bytes place [] [] stop other h g = (refl, same_stop bytes (after_gap bytes place) stop other h g)
one_reading_from bytes place [] (token ∷ tokens) stop other h g = absurd (no_token_at_stop bytes (after_gap bytes place) token stop g.0 h)
one_reading_from bytes place (token ∷ tokens) [] stop other h g = absurd (no_token_at_stop bytes (after_gap bytes place) token other h.0 g)
one_reading_from bytes place (token ∷ tokens) (second ∷ others) stop other h g =
    let same : token ≡ second = same_token bytes (after_gap bytes place) token second h.0 g.0 in
    let behind : AreTokensFrom bytes token.end others other = subst (λ (t : Token). AreTokensFrom bytes t.end others other) (sym same) g.1 in
    let rest = one_reading_from bytes token.end tokens others stop other h.1 behind in
    (cc (same, rest.0), rest.1)

-- the bytes from a place on, taken in two parts
drop_in_two : (bytes : List ℕ) (place later : ℕ) → place ≤ later → slice_range bytes place later ++ drop later bytes ≡ drop place bytes
drop_in_two bytes place later h =
    let there : place + (later - place) ≡ later = omega arith in
    subst (λ (n : ℕ). take (later - place) (drop place bytes) ++ drop n bytes ≡ drop place bytes) there
    (ap (λ ys. take (later - place) (drop place bytes) ++ ys) (sym (drop-drop (later - place) place bytes)) ∙ take-append-drop (later - place) (drop place bytes))

pub pieces_are_bytes_from : (bytes : List ℕ) (place : ℕ) (tokens : List Token) (stop : Option LexFault) → AreTokensFrom bytes place tokens stop → pieces_from bytes place tokens ≡ drop place bytes
pieces_are_bytes_from bytes place [] stop h = refl
pieces_are_bytes_from bytes place (token ∷ tokens) stop h =
    let before : place ≤ token.start = omega (arith, h.0.0) in
    ap (λ ys. slice_range bytes place token.start ++ (slice_range bytes token.start token.end ++ ys)) (pieces_are_bytes_from bytes token.end tokens stop h.1)
    ∙ ap (λ ys. slice_range bytes place token.start ++ ys) (drop_in_two bytes token.start token.end h.0.1)
    ∙ drop_in_two bytes place token.start before

-- a spelling takes at least one byte of those that are there
token_within : (bytes : List ℕ) (place : ℕ) (token : Token) → IsTokenAt bytes place token → IsWithin bytes token
token_within bytes place token h =
    let some_bytes : 0 < token.end - token.start = above_nothing token.kind (token.end - token.start) (drop place bytes) h.2.0 in
    let left : token.end - token.start ≤ length bytes - place = subst (λ (n : ℕ). token.end - token.start ≤ n) (length-drop place bytes) h.2.0.0 in
    let start : token.start ≡ place = h.0 in
    (omega arith, omega arith)
  where
    above_nothing : (kind : TokenKind) (n : ℕ) (xs : List ℕ) → StartsWith kind n xs → 0 < n
    above_nothing kind zero xs g = absurd (starts_with_nothing kind xs g)
    above_nothing kind (suc n) xs g = omega arith

within_from : (bytes : List ℕ) (place : ℕ) (tokens : List Token) (stop : Option LexFault) → AreTokensFrom bytes place tokens stop → AllByRecursion (IsWithin bytes) tokens
within_from bytes place [] stop h = tt
within_from bytes place (token ∷ tokens) stop h = (token_within bytes (after_gap bytes place) token h.0, within_from bytes token.end tokens stop h.1)

pub tokens_are_within : (bytes : List ℕ) (tokens : List Token) (stop : Option LexFault) → AreTokensOf bytes tokens stop → All (IsWithin bytes) tokens
tokens_are_within bytes tokens stop h = All-from_recursion (IsWithin bytes) tokens (within_from bytes 0 tokens stop h)

-- a token's bytes are spelled in its kind
token_spelled_there : (bytes : List ℕ) (place : ℕ) (token : Token) → IsTokenAt bytes place token → IsSpelled bytes token
token_spelled_there bytes place token h = subst (λ (n : ℕ). spells token.kind (take (token.end - token.start) (drop n bytes)) ≡ true) (sym h.0) h.2.0.1

pub spelled_from : (bytes : List ℕ) (place : ℕ) (tokens : List Token) (stop : Option LexFault) → AreTokensFrom bytes place tokens stop → AllByRecursion (IsSpelled bytes) tokens
spelled_from bytes place [] stop h = tt
spelled_from bytes place (token ∷ tokens) stop h = (token_spelled_there bytes (after_gap bytes place) token h.0, spelled_from bytes token.end tokens stop h.1)
