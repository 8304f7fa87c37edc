-- When a program can be computed on whole numbers.
use Rattle.std.specs.Prelude.{◌≡◌, ℕ, ◌-◌, ◌^◌, ◌<◌, ◌≤◌, ◌==◌, Bool, true, false, IsTrue, not, List, [], ◌∷◌, length, map, find, All, Option, Some, None, ℤ, pos, ◌≤ℤ◌, ◌<ℤ◌, IsSomeAnd}
use Rattle.std.specs.List.{list_all}
use Rattle.std.specs.Option.{option_map, option_map_or}
use Rattle.ir_core.specs.Graph.{Holds, place_of}
use Rattle.forms.specs.Forms.{AreIn, number_at}
use Rattle.fhe_text.specs.declared.source.WrittenType.{WrittenType}
use Rattle.fhe_text.specs.declared.source.WrittenType.TheVariants as types
use Rattle.fhe_text.specs.declared.source.OpName.{OpName}
use Rattle.fhe_text.specs.declared.source.OpName.TheVariants.{ApplyLookupTable}
use Rattle.fhe_text.specs.declared.source.Entries.{Entries}
use Rattle.fhe_text.specs.declared.source.Entries.TheVariants as tables
use Rattle.fhe_level.specs.declared.level.FheOp.{FheOp}
use Rattle.fhe_level.specs.declared.level.FheOp.TheVariants.{Arg, Int, Dense, Apply}
use Rattle.fhe_level.specs.declared.program.Program.{Program}
use Rattle.fhe_level.specs.Rows.{row_of, keeps_row, fits_table}
use Rattle.fhe_level.specs.Operations.{type_of}
use Rattle.fhe_level.specs.Types.{type_range, is_range_in}
use Rattle.fhe_level.specs.Programs.{Value, number, table, number_in, operand_at, apply, value_at, operation_values}

-- ---- operations

-- the operation with a number
abbrev pub op_with : List (ℕ × FheOp) → ℕ → Option FheOp
op_with operations wanted = option_map (λ entry. entry.1) (find (λ entry. entry.0 == wanted) operations)

-- the type of what it gives
abbrev pub type_with : List (ℕ × FheOp) → ℕ → WrittenType
type_with operations wanted = option_map_or type_of (op_with operations wanted) (types.Int 0)

-- an operation keeps its row
abbrev pub KeepsRow : List (ℕ × FheOp) → FheOp → Type 0
KeepsRow operations (Apply name operands ty) =
    (length operands ≡ length (row_of name))
    × IsTrue (keeps_row name (map (type_with operations) operands) ty)
    × IsTrue (fits_table name (map (type_with operations) operands))
KeepsRow operations _ = Unit {0}

-- a list of entries has as many as the table's length
abbrev pub HasEntries : FheOp → Type 0
HasEntries (Dense (tables.List numbers) count bits) = length numbers ≡ count
HasEntries _ = Unit {0}

-- an encrypted type has from 1 to 16 bits
abbrev pub HasWidth : WrittenType → Type 0
HasWidth (types.Eint width) = (1 ≤ width) × (width ≤ 16)
HasWidth _ = Unit {0}

-- a number of an encrypted type lies in its range
abbrev pub IsNumberOf : WrittenType → ℤ → Type 0
IsNumberOf (types.Eint width) z = (pos 0 ≤ℤ z) × (z ≤ℤ pos (2 ^ width - 1))
IsNumberOf _ z = Unit {0}

-- an argument
abbrev pub is_argument : FheOp → Bool
is_argument (Arg ty) = true
is_argument _ = false

-- a constant of the text
abbrev pub is_constant : FheOp → Bool
is_constant (Int value bits) = true
is_constant (Dense found count bits) = true
is_constant _ = false

-- the arguments come first, one for each range, which lies in the argument's type
abbrev pub AreArguments : List (ℕ × FheOp) → List (ℤ × ℤ) → Type 0
AreArguments operations [] = IsTrue (list_all (λ entry. not (is_argument entry.1)) operations)
AreArguments [] (range ∷ ranges) = ⊥
AreArguments (entry ∷ operations) (range ∷ ranges) =
    IsTrue (is_argument entry.1) × IsTrue (is_range_in (type_range (type_of entry.1)) range)
    × AreArguments operations ranges

-- a result is there, and no constant of the text
abbrev pub IsResult : List (ℕ × FheOp) → ℕ → Type 0
IsResult operations wanted = IsSomeAnd (op_with operations wanted) (λ op. IsTrue (not (is_constant op)))

-- ---- the whole

-- a program whose operations, arguments and results are as its types ask
pub record IsFhe (program : Program) : Type 0 where
  pub widths : All (λ entry. HasWidth (type_of entry.1)) program.graph.list
  pub rows : All (λ entry. KeepsRow program.graph.list entry.1) program.graph.list
  pub tables : All (λ entry. HasEntries entry.1) program.graph.list
  pub arguments : AreArguments program.graph.list program.args
  pub results : All (IsResult program.graph.list) program.results

-- the number of the operation with a number
abbrev pub number_of : Program → List ℤ → ℕ → ℤ
number_of program inputs wanted = number_in (value_at (operation_values program.graph.list inputs) wanted)

-- it can be computed where the arguments have these values
pub record IsClear (program : Program) (inputs : List ℤ) : Type 0 where
  pub fhe : IsFhe program
  -- one for each argument, in its range,
  pub arguments : AreIn program.args inputs
  -- and the number of each operation lies in its type
  pub numbers : All (λ entry. IsNumberOf (type_of entry.1) (number_of program inputs entry.0)) program.graph.list
