-- The tokens of a program text, said without a lexer.
use Rattle.std.specs.Prelude.{ℕ, ◌+◌, ◌-◌, ◌≤◌, ◌<◌, ◌≡◌, Bool, true, false, not, ◌==◌, IsTrue, List, [], ◌∷◌, length, take, drop, if◌then◌else◌, Option, Some, None, Result, Ok, Err, nat_eq, codes}
use Rattle.std.specs.List.{starts_with}
use Rattle.mlir_lex.specs.declared.TokenKind.{TokenKind}
use Rattle.mlir_lex.specs.declared.Token.{Token}
use Rattle.mlir_lex.specs.declared.LexFault.{LexFault}
use Rattle.mlir_lex.specs.Spellings.{spells, is_blank}

-- how many bytes at the front are blanks and comments: a comment goes on through any bytes up to a LF (10) or the end
abbrev pub gap_length : Bool → List ℕ → ℕ
gap_length in_comment [] = 0
gap_length true (b ∷ bs) = 1 + gap_length (not (b == 10)) bs
gap_length false (b ∷ bs) =
    if is_blank b then 1 + gap_length false bs else (
    if starts_with nat_eq (b ∷ bs) (codes "//") then 1 + gap_length true bs else 0)

-- the first n bytes are a spelling of the kind
abbrev pub StartsWith : TokenKind → ℕ → List ℕ → Type 0
StartsWith kind n bytes = (n ≤ length bytes) × IsTrue (spells kind (take n bytes))

-- the first n bytes are a spelling of the kind, and no longer front is a spelling of any kind
abbrev pub StartsWithLongest : TokenKind → ℕ → List ℕ → Type 0
StartsWithLongest kind n bytes = StartsWith kind n bytes × ((other : TokenKind) (m : ℕ) → StartsWith other m bytes → m ≤ n)

-- no front is a spelling of any kind
abbrev pub StartsNoToken : List ℕ → Type 0
StartsNoToken bytes = (kind : TokenKind) (n : ℕ) → ¬ StartsWith kind n bytes

-- the first place from here on that is in no blank and in no comment
abbrev pub after_gap : List ℕ → ℕ → ℕ
after_gap bytes place = place + gap_length false (drop place bytes)

-- the token stands at the place, with the longest spelling there
abbrev pub IsTokenAt : List ℕ → ℕ → Token → Type 0
IsTokenAt bytes place token = (token.start ≡ place) × (token.start ≤ token.end) × StartsWithLongest token.kind (token.end - token.start) (drop place bytes)

-- the tokens end at the place: the bytes do, or a byte stands there at which no token starts
abbrev pub IsStopAt : List ℕ → ℕ → Option LexFault → Type 0
IsStopAt bytes place None = place ≡ length bytes
IsStopAt bytes place (Some fault) = (fault.at ≡ place) × (place < length bytes) × StartsNoToken (drop place bytes)

-- the tokens from the place on, in order, with blanks and comments alone before each, and where they stop
abbrev pub AreTokensFrom : List ℕ → ℕ → List Token → Option LexFault → Type 0
AreTokensFrom bytes place [] stop = IsStopAt bytes (after_gap bytes place) stop
AreTokensFrom bytes place (token ∷ tokens) stop = IsTokenAt bytes (after_gap bytes place) token × AreTokensFrom bytes token.end tokens stop

-- the tokens of the bytes, and where they stop
abbrev pub AreTokensOf : List ℕ → List Token → Option LexFault → Type 0
AreTokensOf bytes tokens stop = AreTokensFrom bytes 0 tokens stop

-- the token has at least one byte, and its bytes are among those given
abbrev pub IsWithin : List ℕ → Token → Type 0
IsWithin bytes token = (token.start < token.end) × (token.end ≤ length bytes)

-- what comes next from the place on: a token, the end of the bytes, or a byte at which no token starts
abbrev pub IsNextFrom : List ℕ → ℕ → Result (Option Token) LexFault → Type 0
IsNextFrom bytes place (Ok (Some token)) = IsTokenAt bytes (after_gap bytes place) token
IsNextFrom bytes place (Ok None) = IsStopAt bytes (after_gap bytes place) None
IsNextFrom bytes place (Err fault) = IsStopAt bytes (after_gap bytes place) (Some fault)
