-- Numbers that are kept at the places of their operations' numbers, and what an operation needs of them.
use Rattle.std.specs.Prelude.{◌≡◌, ℕ, ◌^◌, ◌<◌, List, length, map, All, Option, ℤ, pos, ◌≤ℤ◌, ◌<ℤ◌}
use Rattle.std.specs.Option.{option_map_or}
use Rattle.ir_core.specs.Graph.{Holds, place_of}
use Rattle.forms.specs.Forms.{number_at}
use Rattle.fhe_text.specs.declared.source.OpName.{OpName}
use Rattle.fhe_text.specs.declared.source.OpName.TheVariants.{ApplyLookupTable}
use Rattle.fhe_text.specs.declared.source.Entries.{Entries}
use Rattle.fhe_text.specs.declared.source.Entries.TheVariants as tables
use Rattle.fhe_level.specs.declared.level.FheOp.{FheOp}
use Rattle.fhe_level.specs.declared.level.FheOp.TheVariants.{Dense}
use Rattle.fhe_level.specs.declared.program.Program.{Program}
use Rattle.fhe_level.specs.Programs.{Value, number, table, number_in, operand_at, apply}
use Rattle.fhe_level.specs.Clearing.{op_with, number_of}

-- the value of an operation whose number is this one
abbrev pub held : ℤ → FheOp → Value
held z (Dense found count bits) = table found
held z _ = number z

-- the value of the operation with a number, where the room has its number
abbrev pub held_value : List (ℕ × FheOp) → List ℤ → ℕ → Value
held_value operations room wanted =
    option_map_or (held (number_at room wanted)) (op_with operations wanted) (number (pos 0))

-- the table with a number, where there is one
abbrev pub held_table : List (ℕ × FheOp) → ℕ → Value
held_table operations wanted = option_map_or (held (pos 0)) (op_with operations wanted) (number (pos 0))

-- the room has the numbers of the operations before a place
abbrev pub HoldsBefore : Program → List ℤ → List ℤ → ℕ → Type 0
HoldsBefore program inputs room place =
    (wanted : ℕ) → place_of program.graph.list wanted < place → number_at room wanted ≡ number_of program inputs wanted

-- it has those of all operations
abbrev pub HoldsAll : Program → List ℤ → List ℤ → Type 0
HoldsAll program inputs room = HoldsBefore program inputs room (length program.graph.list)

-- the operands are there, and the room has their numbers
pub record AreHeld (operations : List (ℕ × FheOp)) (room : List ℤ) (operands : List ℕ) : Type 0 where
  pub there : All (Holds operations) operands
  pub numbers : All (λ operand. number_in (held_value operations room operand) ≡ number_at room operand) operands

-- entries have one at this number
abbrev pub IsIndexOf : Entries → ℤ → Type 0
IsIndexOf (tables.List numbers) index = (pos 0 ≤ℤ index) × (index <ℤ pos (length numbers))
IsIndexOf (tables.Splat z) index = Unit {0}

-- so has a table
abbrev pub IsIndexIn : Value → ℤ → Type 0
IsIndexIn (table found) index = IsIndexOf found index
IsIndexIn (number z) index = Unit {0}

-- an operation gives a number that fits on these operands, and a look-up finds its entry
abbrev pub CanApply : OpName → List Value → Type 0
CanApply ApplyLookupTable operands = IsIndexIn (operand_at operands 1) (number_in (operand_at operands 0))
CanApply name operands = (pos 0 ≤ℤ apply name operands) × (apply name operands <ℤ pos (2 ^ 16))
