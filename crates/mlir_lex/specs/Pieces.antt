-- Texts in pieces: what stands before a token, and the token; and what a gap between tokens is.
use Rattle.std.specs.Prelude.{ℕ, ◌+◌, ◌≡◌, Bool, true, false, not, ◌&&◌, ◌==◌, IsTrue, List, [], ◌∷◌, ◌++◌, length, drop, slice_range, codes, nat_eq, ◌⊎◌}
use Rattle.std.specs.Char.{is_ascii_digit}
use Rattle.std.specs.List.{list_all, starts_with, AllByRecursion}
use Rattle.mlir_lex.specs.declared.TokenKind.{TokenKind}
use Rattle.mlir_lex.specs.declared.TokenKind.TheVariants.{Word, Int, Value, Symbol, TypeName, Text, Sign}
use Rattle.mlir_lex.specs.declared.Token.{Token}
use Rattle.mlir_lex.specs.Spellings.{continues_word, continues_value, spells, is_blank}

-- ---- the text that has tokens

-- from the place on: what stands before each token, then the token, and what is left behind the last
abbrev pub pieces_from : List ℕ → ℕ → List Token → List ℕ
pieces_from bytes place [] = drop place bytes
pieces_from bytes place (token ∷ tokens) = slice_range bytes place token.start ++ (slice_range bytes token.start token.end ++ pieces_from bytes token.end tokens)

-- the bytes of a token are a spelling of its kind
abbrev pub IsSpelled : List ℕ → Token → Type 0
IsSpelled bytes token = IsTrue (spells token.kind (slice_range bytes token.start token.end))

-- ---- the tokens of a text that is made of pieces

-- blanks, and a token behind them: its kind and its bytes
pub record Piece : Type 0 where
  pub blanks : List ℕ
  pub kind : TokenKind
  pub text : List ℕ

-- the pieces one behind the other, and the blanks behind the last
abbrev pub pieces_text : List Piece → List ℕ → List ℕ
pieces_text [] last = last
pieces_text (piece ∷ pieces) last = piece.blanks ++ (piece.text ++ pieces_text pieces last)

-- where the tokens of the pieces stand, the first piece at the place
abbrev pub tokens_from : ℕ → List Piece → List Token
tokens_from place [] = []
tokens_from place (piece ∷ pieces) =
    record { kind = piece.kind; start = place + length piece.blanks; end = place + length piece.blanks + length piece.text }
    ∷ tokens_from (place + length piece.blanks + length piece.text) pieces

-- a token of the kind goes on with the byte: digits in an INT, letters and such in a name
abbrev pub goes_on : TokenKind → ℕ → Bool
goes_on Word b = continues_word b
goes_on Int b = is_ascii_digit b
goes_on Value b = continues_value b
goes_on Symbol b = continues_word b
goes_on TypeName b = continues_word b
goes_on Text b = false
goes_on Sign b = false

-- a token of the kind ends before these bytes: there are none, or it does not go on with the first
abbrev pub ends_before : TokenKind → List ℕ → Bool
ends_before kind [] = true
ends_before kind (b ∷ bs) = not (goes_on kind b)

-- each token is spelled in its kind, ends before what follows, and has blanks alone before it, as has the end
abbrev pub ArePieces : List Piece → List ℕ → Type 0
ArePieces [] last = IsTrue (list_all is_blank last)
ArePieces (piece ∷ pieces) last =
    IsTrue (list_all is_blank piece.blanks) × IsTrue (spells piece.kind piece.text)
    × IsTrue (ends_before piece.kind (pieces_text pieces last)) × ArePieces pieces last

-- ---- gaps

-- no byte of the text is a LF
abbrev pub has_no_line_feed : List ℕ → Bool
has_no_line_feed text = list_all (λ b. not (b == 10)) text

-- one blank, or one comment with the LF that ends it
abbrev pub IsBlankOrComment : List ℕ → Type 0
IsBlankOrComment item =
    ((b : ℕ) × (item ≡ b ∷ []) × IsTrue (is_blank b))
    ⊎ ((text : List ℕ) × (item ≡ codes "//" ++ (text ++ 10 ∷ [])) × IsTrue (has_no_line_feed text))

-- one behind the other
abbrev pub joined : List (List ℕ) → List ℕ
joined [] = []
joined (item ∷ items) = item ++ joined items

-- any number of blanks and of comments with their LF
abbrev pub IsGap : List ℕ → Type 0
IsGap bytes = (items : List (List ℕ)) × (bytes ≡ joined items) × AllByRecursion IsBlankOrComment items

-- neither a blank nor a comment stands at the front
abbrev pub ends_gap : List ℕ → Bool
ends_gap [] = true
ends_gap (b ∷ bs) = not (is_blank b) && not (starts_with nat_eq (b ∷ bs) (codes "//"))

-- the first n bytes are blanks and comments and no more follow, or all are, and the last comment has no LF
abbrev pub IsGapLength : List ℕ → ℕ → Type 0
IsGapLength bytes n =
    ((gap rest : List ℕ) × (bytes ≡ gap ++ rest) × IsGap gap × IsTrue (ends_gap rest) × (n ≡ length gap))
    ⊎ ((gap text : List ℕ) × (bytes ≡ gap ++ (codes "//" ++ text)) × IsGap gap × IsTrue (has_no_line_feed text)
    × (n ≡ length bytes))
