-- The program of a source, and what it computes on whole numbers.
use Rattle.std.specs.Prelude.{◌≡◌, ℕ, List, [], ◌∷◌, ◌++◌, length, map, find, Option, Some, None, Result, Ok, Err, ℤ, pos, neg_ℤ, ◌+ℤ◌, ◌-ℤ◌, ◌*ℤ◌, ◌==◌, unsigned_abs}
use Rattle.std.specs.List.{enumerate_from, slice_index_or}
use Rattle.std.specs.Option.{option_map_or}
use Rattle.ir_core.specs.Graph.{Operations}
use Rattle.forms.specs.Forms.{number_at}
use Rattle.forms.specs.FromEarlier.{from_earlier}
use Rattle.fhe_text.specs.declared.source.Arg.{Arg}
use Rattle.fhe_text.specs.declared.source.OpName.{OpName}
use Rattle.fhe_text.specs.declared.source.OpName.TheVariants.{AddEint, AddEintInt, SubEint, SubEintInt, SubIntEint, NegEint, MulEintInt, Zero, ApplyLookupTable}
use Rattle.fhe_text.specs.declared.source.Entries.{Entries}
use Rattle.fhe_text.specs.declared.source.Entries.TheVariants as entries
use Rattle.fhe_text.specs.declared.source.Statement.{Statement}
use Rattle.fhe_text.specs.declared.source.Statement.TheVariants as statements
use Rattle.fhe_text.specs.declared.source.Source.{Source}
use Rattle.fhe_level.specs.declared.fault.TypeFault.{TypeFault}
use Rattle.fhe_level.specs.declared.level.FheOp.{FheOp}
use Rattle.fhe_level.specs.declared.level.FheOp.TheVariants as ops
use Rattle.fhe_level.specs.declared.program.Program.{Program}
use Rattle.fhe_level.specs.Types.{argument_range, type_fault}

-- ---- the program of a source

-- the operation of an argument
abbrev pub argument_op : Arg → FheOp
argument_op arg = ops.Arg arg.ty

-- the operation of a statement
abbrev pub statement_op : Statement → FheOp
statement_op (statements.Int value bits) = ops.Int value bits
statement_op (statements.Dense found count bits) = ops.Dense found count bits
statement_op (statements.Op name operands written result) = ops.Apply name operands result

-- the operations of a source: its arguments and then its statements
abbrev pub operations_in : Source → List FheOp
operations_in source = map argument_op source.args ++ map statement_op source.body

-- these operations, each with its place as its number
abbrev pub numbered : List FheOp → Operations FheOp
numbered operations = record { list = enumerate_from 0 operations; made = length operations }

-- the program of a source
abbrev pub program_of : Source → Program
program_of source = record {
  graph = numbered (operations_in source);
  args = map argument_range source.args;
  results = source.returned;
}

-- the program, or the first check of types that fails
abbrev pub typed : Source → Option TypeFault → Result Program TypeFault
typed source None = Ok (program_of source)
typed source (Some fault) = Err fault

abbrev pub checked_program : Source → Result Program TypeFault
checked_program source = typed source (type_fault source)

-- a source has this program
abbrev pub IsTyped : Source → Program → Type 0
IsTyped source program = checked_program source ≡ Ok program

-- ---- values

-- what an operation gives: a whole number, or a table of them
pub data Value : Type 0 where
  number : ℤ → Value
  table : Entries → Value

-- the number, and 0 of a table
abbrev pub number_in : Value → ℤ
number_in (number z) = z
number_in (table found) = pos 0

-- the entry at a number
abbrev pub entry_of : Entries → ℤ → ℤ
entry_of (entries.List numbers) index = number_at numbers (unsigned_abs index)
entry_of (entries.Splat z) index = z

-- the entry at a number of a table, and 0 of a number
abbrev pub entry_in : Value → ℤ → ℤ
entry_in (table found) index = entry_of found index
entry_in (number z) index = pos 0

-- the value with a number, and 0 where there is none
abbrev pub value_at : List (ℕ × Value) → ℕ → Value
value_at values wanted = option_map_or (λ entry. entry.1) (find (λ entry. entry.0 == wanted) values) (number (pos 0))

-- the operand at a place
abbrev pub operand_at : List Value → ℕ → Value
operand_at operands place = slice_index_or operands place (number (pos 0))

-- the number that an operation gives on these operands
abbrev pub apply : OpName → List Value → ℤ
apply AddEint operands = number_in (operand_at operands 0) +ℤ number_in (operand_at operands 1)
apply AddEintInt operands = number_in (operand_at operands 0) +ℤ number_in (operand_at operands 1)
apply SubEint operands = number_in (operand_at operands 0) -ℤ number_in (operand_at operands 1)
apply SubEintInt operands = number_in (operand_at operands 0) -ℤ number_in (operand_at operands 1)
apply SubIntEint operands = number_in (operand_at operands 0) -ℤ number_in (operand_at operands 1)
apply NegEint operands = neg_ℤ (number_in (operand_at operands 0))
apply MulEintInt operands = number_in (operand_at operands 0) *ℤ number_in (operand_at operands 1)
apply Zero operands = pos 0
apply ApplyLookupTable operands = entry_in (operand_at operands 1) (number_in (operand_at operands 0))

-- the value of an operation, from those of the arguments and of the operations before it
abbrev pub value_of : List ℤ → List (ℕ × Value) → FheOp → Value
value_of inputs earlier (ops.Arg ty) = number (number_at inputs (length earlier))
value_of inputs earlier (ops.Int value bits) = number value
value_of inputs earlier (ops.Dense found count bits) = table found
value_of inputs earlier (ops.Apply name operands ty) = number (apply name (map (value_at earlier) operands))

-- the value of an operation with its number
abbrev pub numbered_value : List ℤ → List (ℕ × Value) → ℕ × FheOp → ℕ × Value
numbered_value inputs earlier entry = (entry.0, value_of inputs earlier entry.1)

-- the values of all operations, each with its number
abbrev pub operation_values : List (ℕ × FheOp) → List ℤ → List (ℕ × Value)
operation_values operations inputs = from_earlier (numbered_value inputs) [] operations

-- the values of the results, in order, where the arguments have these values
abbrev pub clear_values : Program → List ℤ → List ℤ
clear_values program inputs =
    map (λ value. number_in (value_at (operation_values program.graph.list inputs) value)) program.results
