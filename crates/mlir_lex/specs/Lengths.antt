-- How a lexer finds the longest spelling at the front: its kind by the first byte, its length by the kind.
-- The contract of `lex` speaks of spellings alone; that these lengths are the longest is proved.
use Rattle.std.specs.Prelude.{ℕ, ◌+◌, Bool, false, ◌==◌, List, [], ◌∷◌, slice_index, if◌then◌else◌, Option, Some, None}
use Rattle.std.specs.Char.{is_ascii_digit}
use Rattle.std.specs.List.{prefix_len}
use Rattle.mlir_lex.specs.declared.TokenKind.{TokenKind}
use Rattle.mlir_lex.specs.declared.TokenKind.TheVariants.{Word, Int, Value, Symbol, TypeName, Text, Sign}
use Rattle.mlir_lex.specs.Spellings.{begins_word, continues_word, continues_value, is_text_byte, is_sign}
use Rattle.mlir_lex.specs.Tokens.{StartsWithLongest, StartsNoToken}

-- a digit stands at the front
abbrev pub starts_with_digit : List ℕ → Bool
starts_with_digit [] = false
starts_with_digit (b ∷ bs) = is_ascii_digit b

-- the only kind of a token that begins with the byte; a `-` (45) begins an INT or the sign `->`
abbrev pub kind_of_first : ℕ → Bool → Option TokenKind
kind_of_first b digit_follows =
    if is_ascii_digit b then Some Int else (
    if begins_word b then Some Word else (
    if b == 37 then Some Value else (
    if b == 64 then Some Symbol else (
    if b == 33 then Some TypeName else (
    if b == 34 then Some Text else (
    if is_sign b then Some Sign else (
    if b == 45 then Some (if digit_follows then Int else Sign) else None)))))))

-- the length of a mark of one byte and of what has to follow it, 0 where nothing does
abbrev pub marked_length : ℕ → ℕ
marked_length n = if n == 0 then 0 else n + 1

-- the length of the longest WORD at the front, 0 where none starts
abbrev pub word_length : List ℕ → ℕ
word_length [] = 0
word_length (b ∷ bs) = if begins_word b then 1 + prefix_len continues_word bs else 0

-- the length up to and with the closing `"` (34), 0 where another byte or the end comes before it
abbrev pub closed_length : List ℕ → ℕ
closed_length bytes = if slice_index bytes (prefix_len is_text_byte bytes) == 34 then prefix_len is_text_byte bytes + 1 else 0

-- the length of the longest token of the kind, from its first byte and those behind, 0 where none starts
abbrev pub token_length : TokenKind → ℕ → List ℕ → ℕ
token_length Word b bs = 1 + prefix_len continues_word bs
token_length Int b bs = 1 + prefix_len is_ascii_digit bs
token_length Value b bs = marked_length (prefix_len continues_value bs)
token_length Symbol b bs = marked_length (word_length bs)
token_length TypeName b bs = marked_length (word_length bs)
token_length Text b bs = marked_length (closed_length bs)
token_length Sign b bs = if b == 45 then (if slice_index bs 0 == 62 then 2 else 0) else 1

-- the token at the front, as its kind and length, or that none starts there
abbrev pub IsFirstToken : List ℕ → Option (TokenKind × ℕ) → Type 0
IsFirstToken bytes None = StartsNoToken bytes
IsFirstToken bytes (Some found) = StartsWithLongest found.0 found.1 bytes
