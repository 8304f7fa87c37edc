-- Which sources have a text: the rules of a program, said of its source alone.
use Rattle.std.specs.Prelude.{◌≡◌, ℕ, ◌+◌, ◌^◌, ◌≤◌, ◌<◌, List, [], ◌∷◌, length, IsTrue, Option, Some, None, ℤ}
use Rattle.std.specs.List.{AllByRecursion}
use Rattle.fhe_text.specs.declared.source.WrittenType.{WrittenType}
use Rattle.fhe_text.specs.declared.source.WrittenType.TheVariants as types
use Rattle.fhe_text.specs.declared.source.Arg.{Arg}
use Rattle.fhe_text.specs.declared.source.Entries.{Entries}
use Rattle.fhe_text.specs.declared.source.Entries.TheVariants as entries
use Rattle.fhe_text.specs.declared.source.Statement.{Statement}
use Rattle.fhe_text.specs.declared.source.Statement.TheVariants as statements
use Rattle.fhe_text.specs.declared.source.Source.{Source}
use Rattle.fhe_text.specs.Numbers.{fits_bits, AreBits}
use Rattle.fhe_text.specs.Conditions.{all_fit}

-- a width that nine digits spell, and not zero
abbrev pub IsWidth : ℕ → Type 0
IsWidth n = (1 ≤ n) × (n < 10 ^ 9)

-- a length that a tensor has
abbrev pub IsLength : ℕ → Type 0
IsLength n = (1 ≤ n) × (n ≤ 2 ^ 31)

-- an encrypted type of such a width
abbrev pub IsEncrypted : WrittenType → Type 0
IsEncrypted (types.Eint width) = IsWidth width
IsEncrypted (types.Int bits) = ⊥
IsEncrypted (types.Tensor count bits) = ⊥

-- a type whose numbers are within their limits
abbrev pub IsWritable : WrittenType → Type 0
IsWritable (types.Eint width) = IsWidth width
IsWritable (types.Int bits) = AreBits bits
IsWritable (types.Tensor count bits) = IsLength count × AreBits bits

-- no range, or one whose ends 128 bits hold
abbrev pub IsDeclared : Option (ℤ × ℤ) → Type 0
IsDeclared None = Unit {0}
IsDeclared (Some range) = IsTrue (fits_bits 128 range.0) × IsTrue (fits_bits 128 range.1)

-- an argument
abbrev pub IsArgument : Arg → Type 0
IsArgument arg = IsEncrypted arg.ty × IsDeclared arg.declared

-- so many entries of so many bits
abbrev pub AreEntries : ℕ → ℕ → Entries → Type 0
AreEntries count bits (entries.List numbers) = (length numbers ≡ count) × IsTrue (all_fit bits numbers)
AreEntries count bits (entries.Splat value) = IsTrue (fits_bits bits value)

-- values, of which so many are defined
abbrev pub AreDefined : ℕ → List ℕ → Type 0
AreDefined count values = AllByRecursion (λ value. value < count) values

-- a statement behind so many values
abbrev pub IsStatement : ℕ → Statement → Type 0
IsStatement before (statements.Int value bits) = AreBits bits × IsTrue (fits_bits bits value)
IsStatement before (statements.Dense found count bits) = IsLength count × AreBits bits × AreEntries count bits found
IsStatement before (statements.Op name operands written result) =
    AreDefined before operands × AllByRecursion IsWritable written × IsWritable result

-- statements, the first behind so many values
abbrev pub AreStatements : ℕ → List Statement → Type 0
AreStatements before [] = Unit {0}
AreStatements before (statement ∷ body) = IsStatement before statement × AreStatements (before + 1) body

-- one or more
abbrev pub AreSome : {X : Type 0} → (X → Type 0) → List X → Type 0
AreSome Holds xs = (0 < length xs) × AllByRecursion Holds xs

-- how many values a source defines
abbrev pub value_count : Source → ℕ
value_count source = length source.args + length source.body

-- the rules of a source
pub record IsSpellable (source : Source) : Type 0 where
  pub args : AllByRecursion IsArgument source.args
  pub results : AreSome IsEncrypted source.results
  pub body : AreStatements (length source.args) source.body
  pub returned : AreSome (λ value. value < value_count source) source.returned
  pub returned_types : AreSome IsWritable source.returned_types
