-- What holds of every list of tokens that fits the definition.
use Rattle.std.specs.Prelude.{ℕ, ◌+◌, ◌≡◌, IsTrue, false, List, [], ◌∷◌, ◌++◌, length, Option, None}
use Rattle.std.specs.List.{list_all, AllByRecursion}
use Rattle.mlir_lex.specs.declared.TokenKind.{TokenKind}
use Rattle.mlir_lex.specs.declared.Token.{Token}
use Rattle.mlir_lex.specs.declared.LexFault.{LexFault}
use Rattle.mlir_lex.specs.Spellings.{spells, is_blank}
use Rattle.mlir_lex.specs.Tokens.{StartsWith, StartsWithLongest, AreTokensOf, gap_length}
use Rattle.mlir_lex.specs.Reading.{tokens_of}
use Rattle.mlir_lex.specs.Pieces.{pieces_from, IsSpelled, Piece, pieces_text, tokens_from, ends_before, ArePieces, IsGapLength}

-- the tokens of some bytes
pub record TokenLaws : Type 0 where
  -- two readings of the same bytes are one
  pub one_reading : (bytes : List ℕ) (first second : List Token) (stop other : Option LexFault)
      → AreTokensOf bytes first stop → AreTokensOf bytes second other → (first ≡ second) × (stop ≡ other)
  -- each list of bytes has a reading, that of `tokens_of`
  pub each_has_reading : (bytes : List ℕ) → AreTokensOf bytes (tokens_of bytes).0 (tokens_of bytes).1
  -- the tokens' slices together with what stands between them are the bytes
  pub pieces_are_bytes : (bytes : List ℕ) (tokens : List Token) (stop : Option LexFault)
      → AreTokensOf bytes tokens stop → pieces_from bytes 0 tokens ≡ bytes
  -- each token's slice is spelled in its kind
  pub spelled : (bytes : List ℕ) (tokens : List Token) (stop : Option LexFault)
      → AreTokensOf bytes tokens stop → AllByRecursion (IsSpelled bytes) tokens

-- spellings of tokens
pub record SpellingLaws : Type 0 where
  -- spellings of two kinds never stand at the same place
  pub one_kind : (bytes : List ℕ) (kind other : TokenKind) (n m : ℕ)
      → StartsWith kind n bytes → StartsWith other m bytes → kind ≡ other
  -- a spelling is the longest before a byte that it does not go on with, and before the end
  pub longest : (kind : TokenKind) (text rest : List ℕ)
      → IsTrue (spells kind text) → IsTrue (ends_before kind rest) → StartsWithLongest kind (length text) (text ++ rest)

-- what stands between tokens
pub record GapLaws : Type 0 where
  -- a gap is blanks and comments, as many as stand there
  pub gap : (bytes : List ℕ) → IsGapLength bytes (gap_length false bytes)
  -- blanks at the front belong to it
  pub blanks : (blanks bytes : List ℕ) → IsTrue (list_all is_blank blanks)
      → gap_length false (blanks ++ bytes) ≡ length blanks + gap_length false bytes
  -- where a token starts there is none
  pub token : (kind : TokenKind) (n : ℕ) (bytes : List ℕ) → StartsWith kind n bytes → gap_length false bytes ≡ 0

-- texts that are made of pieces
pub record PieceLaws : Type 0 where
  -- they are read as those pieces
  pub read : (pieces : List Piece) (last : List ℕ) → ArePieces pieces last
      → AreTokensOf (pieces_text pieces last) (tokens_from 0 pieces) None
