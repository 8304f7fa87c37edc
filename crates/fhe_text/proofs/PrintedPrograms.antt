-- What is printed of a source is read back.
use Rattle.std.proofs.Common.{◌≡◌, ℕ, zero, suc, ◌+◌, ◌-◌, ◌^◌, ◌<◌, ◌≤◌, Bool, true, false, cond, List, [], ◌∷◌, ◌++◌, length, take, drop, map, refl, sym, ap, ◌∙◌, subst, arith, Some, None, Option, Result, Ok, Err, length-append}
use Rattle.std.specs.Prelude.{slice_range}
use Rattle.std.proofs.lemmas.List.{append_assoc, take_at, drop_at, length-map}
use Rattle.mlir_lex.specs.declared.TokenKind.{TokenKind}
use Rattle.mlir_lex.specs.declared.Token.{Token}
use Rattle.mlir_lex.specs.declared.LexFault.{LexFault}
use Rattle.mlir_lex.specs.Tokens.{AreTokensOf, after_gap}
use Rattle.mlir_lex.specs.Reading.{Reading, reading_at, reading_from, first_token, tokens_of}
use Rattle.mlir_lex.specs.Pieces.{Piece, pieces_text, tokens_from}
use Rattle.mlir_lex.specs.Laws.{TokenLaws, PieceLaws}
use Rattle.fhe_text.specs.declared.source.Source.{Source}
use Rattle.fhe_text.specs.declared.fault.Wrong.{Wrong}
use Rattle.fhe_text.specs.Roles.{Spelled}
use Rattle.fhe_text.specs.Conditions.{Part, names_of, is_argument, is_statement}
use Rattle.fhe_text.specs.Program.{args_in, statements_in, source_of}
use Rattle.fhe_text.specs.Faults.{spelled, Spells}
use Rattle.fhe_text.specs.Reading.{program_of}
use Rattle.fhe_text.specs.Printing.{line_feed, program_text}
use Rattle.fhe_text.specs.Spellable.{value_count, IsSpellable}
use Rattle.fhe_text.specs.Descent.{source_at, finished}
use Rattle.fhe_text.specs.Laws.{PrintLaws}
use Rattle.fhe_text.proofs.Decimals.{IsShort}
use Rattle.fhe_text.proofs.Made.{token_of, IsMade}
use Rattle.fhe_text.proofs.MadeSource.{source_made}
use Rattle.fhe_text.proofs.PrintedTokens.{source_tokens}
use Rattle.fhe_text.proofs.BackSource.{source_back}
use Rattle.fhe_text.proofs.Rules.{source_keeps}
use Rattle.fhe_text.proofs.Sources.{program_is}
use Rattle.fhe_text.proofs.Texts.{read_spelled, spelled_read}

-- ---- the tokens of a text that is made of pieces

-- a slice behind a front
slice_behind : (front text rest : List ℕ) (start end_ : ℕ) → length front ≡ start → end_ ≡ start + length text → slice_range (front ++ (text ++ rest)) start end_ ≡ text
slice_behind front text rest start end_ e f =
    ap (take (end_ - start)) (drop_at front (text ++ rest) start e) ∙ take_at text rest (end_ - start) (omega (arith, e, f))

tokens_spelled : (front : List ℕ) (pieces : List Piece) (last bytes : List ℕ) (place : ℕ) → bytes ≡ front ++ pieces_text pieces last → length front ≡ place → map (spelled bytes) (tokens_from place pieces) ≡ map token_of pieces
tokens_spelled front [] last bytes place e f = refl
tokens_spelled front (piece ∷ pieces) last bytes place e f =
    let start : ℕ = place + length piece.blanks in
    let behind : List ℕ = pieces_text pieces last in
    let before : List ℕ = front ++ piece.blanks in
    let grouped : bytes ≡ before ++ (piece.text ++ behind) = e ∙ sym (append_assoc front piece.blanks (piece.text ++ behind)) in
    let whole : bytes ≡ (before ++ piece.text) ++ behind = grouped ∙ sym (append_assoc before piece.text behind) in
    let long : length before ≡ start = omega (arith, f, length-append front piece.blanks) in
    let longer : length (before ++ piece.text) ≡ start + length piece.text = omega (arith, long, length-append before piece.text) in
    let own : slice_range bytes start (start + length piece.text) ≡ piece.text = ap (λ l. slice_range l start (start + length piece.text)) grouped ∙ slice_behind before piece.text behind start (start + length piece.text) long refl in
    ap (λ (t : List ℕ). (piece.kind, t) ∷ map (spelled bytes) (tokens_from (start + length piece.text) pieces)) own
    ∙ ap (λ (l : List Spelled). (piece.kind, piece.text) ∷ l) (tokens_spelled (before ++ piece.text) pieces last bytes (start + length piece.text) whole longer)

-- what the reader gives for a text that is made of tokens
made_read : TokenLaws → PieceLaws → (text : List ℕ) (tokens : List Spelled) (source : Source) → IsMade text tokens → source_at tokens ≡ Ok source → program_of text ≡ Ok source
made_read laws pieces text tokens source m e =
    let found : List Token = tokens_from 0 m.pieces in
    let are : AreTokensOf text found None = subst (λ (l : List ℕ). AreTokensOf l found None) (sym m.text_is) (pieces.read m.pieces line_feed m.are) in
    let same : map (spelled text) found ≡ tokens = tokens_spelled [] m.pieces line_feed text 0 m.text_is refl ∙ sym m.tokens_are in
    program_is laws text found None are ∙ ap (finished text found None) (ap source_at same ∙ e)

-- ---- what is read keeps the rules

was_read : (bytes : List ℕ) (tokens : List Token) (stop : Option LexFault) (read : Result Source Wrong) (source : Source) → finished bytes tokens stop read ≡ Ok source → read ≡ Ok source
was_read bytes tokens None (Ok found) source e = let same : found ≡ source = cc in ap (λ s. Ok s) same
was_read bytes tokens None (Err wrong) source e = absurd cc
was_read bytes tokens (Some stop) (Ok found) source e = absurd cc
was_read bytes tokens (Some stop) (Err wrong) source e = absurd cc

keeps_rules : TokenLaws → (bytes : List ℕ) (source : Source) → Spells bytes source → IsSpellable source
keeps_rules laws bytes source h =
    let tokens : List Token = (tokens_of bytes).0 in
    let read : finished bytes tokens (tokens_of bytes).1 (source_at (map (spelled bytes) tokens)) ≡ Ok source = sym (program_is laws bytes tokens (tokens_of bytes).1 (laws.each_has_reading bytes)) ∙ spelled_read bytes source h in
    source_keeps (map (spelled bytes) tokens) source (was_read bytes tokens (tokens_of bytes).1 (source_at (map (spelled bytes) tokens)) source read)

-- ---- how many values a text has

few_at : (behind : ℕ → Reading) (end_ place most : ℕ) (found : Option (TokenKind × ℕ)) → ((next : ℕ) → length (behind next).0 ≤ most) → length (reading_at behind end_ place found).0 ≤ suc most
few_at behind end_ place most None h = omega arith
few_at behind end_ place most (Some found) h = let fewer = h (place + found.1) in omega (arith, fewer)

few_tokens : (most : ℕ) (bytes : List ℕ) (place : ℕ) → length (reading_from most bytes place).0 ≤ most
few_tokens zero bytes place = omega arith
few_tokens (suc most) bytes place = few_at (reading_from most bytes) (length bytes) (after_gap bytes place) most (first_token (drop (after_gap bytes place) bytes)) (λ next. few_tokens most bytes next)

tokens_fit : (bytes : List ℕ) → length (tokens_of bytes).0 ≤ length bytes
unfolding tokens_of
tokens_fit bytes = few_tokens (length bytes) bytes 0

one_more : {X : Type 0} (test : Bool) (x : X) (xs : List X) (most : ℕ) → length xs ≤ most → length (cond test (x ∷ xs) xs) ≤ suc most
one_more true x xs most h = omega (arith, h)
one_more false x xs most h = omega (arith, h)

args_fit : (parts : List Part) → length (args_in parts) ≤ length parts
args_fit [] = omega arith
args_fit (part ∷ parts) = one_more (is_argument part.0) _ (args_in parts) (length parts) (args_fit parts)

statements_fit : (names : List (List ℕ)) (parts : List Part) → length (statements_in names parts) ≤ length parts
statements_fit names [] = omega arith
statements_fit names (part ∷ parts) = one_more (is_statement part.0) _ (statements_in names parts) (length parts) (statements_fit names parts)

parts_fit : (parts : List Part) → value_count (source_of parts) ≤ length parts + length parts
unfolding source_of
parts_fit parts = let a = args_fit parts in let b = statements_fit (names_of parts) parts in omega (arith, a, b)

few_values : (bytes : List ℕ) (source : Source) → length bytes < 2 ^ 64 → Spells bytes source → value_count source < 2 ^ 65
few_values bytes source short h =
    let parts : List Part = h.1.0 in
    let count : length parts ≡ length (tokens_of bytes).0 = sym (length-map parts (λ (part : Part). part.1)) ∙ ap length h.1.1 ∙ length-map (tokens_of bytes).0 (spelled bytes) in
    let most = tokens_fit bytes in
    let values : value_count source ≤ length parts + length parts = subst (λ (s : Source). value_count s ≤ length parts + length parts) (sym h.1.4) (parts_fit parts) in
    omega (arith, short, count, most, values)

-- ---- the laws

printed_again : TokenLaws → PieceLaws → (source : Source) → IsSpellable source → value_count source < 2 ^ 65 → program_of (program_text source) ≡ Ok source
printed_again laws pieces source h few =
    let short : IsShort (value_count source) = omega (arith, few) in
    made_read laws pieces (program_text source) (source_tokens source) source (source_made source h short) (source_back source h short)

pub print_laws : TokenLaws → PieceLaws → PrintLaws
print_laws laws pieces = record {
  rules = keeps_rules laws;
  printed = λ source h few. read_spelled (program_text source) source (printed_again laws pieces source h few);
  read_back = λ bytes source short h. printed_again laws pieces source (keeps_rules laws bytes source h) (few_values bytes source short h);
}
