-- The tokens that are left to read.
use Rattle.std.specs.Prelude.{◌≡◌, ℕ, ◌+◌, ◌^◌, ◌<◌, List, [], ◌∷◌, length, map, Option, Some, None, IsTrue}
use Rattle.std.specs.Borrow.{Bor}
use Rattle.mlir_lex.specs.declared.TokenKind.{TokenKind}
use Rattle.mlir_lex.specs.Spellings.{spells}
use Rattle.fhe_text.specs.declared.rest.Rest.{Rest}
use Rattle.fhe_text.specs.Roles.{Spelled}
use Rattle.fhe_text.specs.Faults.{spelled}

-- each as its kind and its bytes
abbrev pub pieces : Rest → List Spelled
pieces rest = map (spelled rest.bytes.now) rest.tokens.now

-- fewer tokens are left
abbrev pub IsBehind : Rest → Rest → Type 0
IsBehind rest after = length after.tokens.now < length rest.tokens.now

-- the numbers of the names, and of one more for each token that is left, fit 32 bits
abbrev pub HasRoom : List (List ℕ) → Rest → Type 0
HasRoom names rest = length names + length rest.tokens.now < 2 ^ 32

-- the first token and those behind it
abbrev pub IsFirst : Rest → Option (TokenKind × Bor (List ℕ) × Rest) → Type 0
IsFirst rest None = pieces rest ≡ []
IsFirst rest (Some found) = (pieces rest ≡ (found.0, found.1.now) ∷ pieces found.2) × IsTrue (spells found.0 found.1.now) × IsBehind rest found.2
