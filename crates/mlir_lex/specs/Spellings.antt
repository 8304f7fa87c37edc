-- How the tokens of a program text are spelled. A text is the list of its bytes.
use Rattle.std.specs.Prelude.{ℕ, Bool, false, not, ◌&&◌, ◌||◌, ◌==◌, List, [], ◌∷◌, codes}
use Rattle.std.specs.Char.{is_ascii_digit, is_ascii_alphabetic, is_ascii_alphanumeric}
use Rattle.std.specs.Int.{is_in_range}
use Rattle.std.specs.List.{list_all, list_any}
use Rattle.mlir_lex.specs.declared.TokenKind.{TokenKind}
use Rattle.mlir_lex.specs.declared.TokenKind.TheVariants.{Word, Int, Value, Symbol, TypeName, Text, Sign}

-- a letter or `_`
abbrev pub begins_word : ℕ → Bool
begins_word b = is_ascii_alphabetic b || b == 95

-- a letter, a digit, `_`, `$` or `.`
abbrev pub continues_word : ℕ → Bool
continues_word b = is_ascii_alphanumeric b || b == 95 || b == 36 || b == 46

-- one of those, or `-`
abbrev pub continues_value : ℕ → Bool
continues_value b = continues_word b || b == 45

-- a byte from 32 to 126 other than `"` and `\`
abbrev pub is_text_byte : ℕ → Bool
is_text_byte b = is_in_range 32 126 b && not (b == 34) && not (b == 92)

-- one of the signs of one byte
abbrev pub is_sign : ℕ → Bool
is_sign b = list_any (λ sign. sign == b) (codes "(){}[]<>,:=")

-- a letter or `_`, then letters, digits, `_`, `$`, `.`
abbrev pub is_word : List ℕ → Bool
is_word [] = false
is_word (b ∷ bs) = begins_word b && list_all continues_word bs

-- one or more digits
abbrev pub is_digits : List ℕ → Bool
is_digits [] = false
is_digits (b ∷ bs) = is_ascii_digit b && list_all is_ascii_digit bs

-- one or more digits, with or without a `-` directly before
abbrev pub is_int : List ℕ → Bool
is_int [] = false
is_int (b ∷ bs) = is_digits (b ∷ bs) || (b == 45 && is_digits bs)

-- one or more letters, digits, `_`, `$`, `.`, `-`
abbrev pub is_value_name : List ℕ → Bool
is_value_name [] = false
is_value_name (b ∷ bs) = continues_value b && list_all continues_value bs

-- bytes from 32 to 126 other than `"` and `\`, then `"`
abbrev pub is_closed : List ℕ → Bool
is_closed [] = false
is_closed (b ∷ []) = b == 34
is_closed (b ∷ c ∷ bs) = is_text_byte b && is_closed (c ∷ bs)

-- the mark, and then what belongs behind it
abbrev pub is_marked : ℕ → (List ℕ → Bool) → List ℕ → Bool
is_marked mark belongs [] = false
is_marked mark belongs (b ∷ bs) = b == mark && belongs bs

-- a sign of one byte, or `->`
abbrev pub is_sign_text : List ℕ → Bool
is_sign_text [] = false
is_sign_text (b ∷ []) = is_sign b
is_sign_text (b ∷ c ∷ []) = b == 45 && c == 62
is_sign_text (b ∷ c ∷ d ∷ bs) = false

-- a text is a spelling of the kind: `%`, `@`, `!` and `"` are 37, 64, 33 and 34
abbrev pub spells : TokenKind → List ℕ → Bool
spells Word text = is_word text
spells Int text = is_int text
spells Value text = is_marked 37 is_value_name text
spells Symbol text = is_marked 64 is_word text
spells TypeName text = is_marked 33 is_word text
spells Text text = is_marked 34 is_closed text
spells Sign text = is_sign_text text

-- a byte that separates tokens: a space, a tab, CR or LF
abbrev pub is_blank : ℕ → Bool
is_blank b = b == 32 || b == 9 || b == 13 || b == 10
