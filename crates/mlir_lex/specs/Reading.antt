-- The tokens as a function of the bytes. It is no definition of them: that what it gives fits the definition is a law.
use Rattle.std.specs.Prelude.{ℕ, zero, suc, ◌+◌, ◌==◌, List, [], ◌∷◌, length, drop, if◌then◌else◌, Option, Some, None}
use Rattle.mlir_lex.specs.declared.TokenKind.{TokenKind}
use Rattle.mlir_lex.specs.declared.Token.{Token}
use Rattle.mlir_lex.specs.declared.LexFault.{LexFault}
use Rattle.mlir_lex.specs.Tokens.{after_gap}
use Rattle.mlir_lex.specs.Lengths.{kind_of_first, starts_with_digit, token_length}

-- some tokens, and where they stop
abbrev pub Reading : Type 0
Reading = List Token × Option LexFault

-- a token of this length, or none where the length is 0
abbrev pub of_length : TokenKind → ℕ → Option (TokenKind × ℕ)
of_length kind n = if n == 0 then None else Some (kind, n)

-- the token of the kind that the first byte tells
abbrev pub of_kind : Option TokenKind → ℕ → List ℕ → Option (TokenKind × ℕ)
of_kind None b bs = None
of_kind (Some kind) b bs = of_length kind (token_length kind b bs)

-- the token at the front
abbrev pub first_token : List ℕ → Option (TokenKind × ℕ)
first_token [] = None
first_token (b ∷ bs) = of_kind (kind_of_first b (starts_with_digit bs)) b bs

-- what was found at a place, and then the tokens behind it
abbrev pub reading_at : (ℕ → Reading) → ℕ → ℕ → Option (TokenKind × ℕ) → Reading
reading_at behind end_ place None = ([], if place == end_ then None else Some (record { at = place }))
reading_at behind end_ place (Some found) =
    let rest : Reading = behind (place + found.1) in
    (record { kind = found.0; start = place; end = place + found.1 } ∷ rest.0, rest.1)

-- the tokens from the place on, as many as the first number says at most
abbrev pub reading_from : ℕ → List ℕ → ℕ → Reading
reading_from zero bytes place = ([], None)
reading_from (suc most) bytes place = reading_at (reading_from most bytes) (length bytes) (after_gap bytes place) (first_token (drop (after_gap bytes place) bytes))

-- the tokens of the bytes, and where they stop
unfoldable pub tokens_of : List ℕ → Reading
tokens_of bytes = reading_from (length bytes) bytes 0
