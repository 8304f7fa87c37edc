-- A program that is built operation by operation.
use Rattle.std.specs.Prelude.{◌≡◌, ℕ, List, ◌++◌, map, Option, Some, None, Result, Ok, Err}
use Rattle.refusals.specs.declared.refusal.Refusal.{Refusal}
use Rattle.refusals.specs.declared.refusal.Refusal.TheVariants.{Fault, Memory}
use Rattle.ir_core.specs.Graph.{Operations}
use Rattle.ir_core.specs.Placed.{operations_of}
use Rattle.fhe_text.specs.declared.source.WrittenType.{WrittenType}
use Rattle.fhe_text.specs.declared.source.Statement.{Statement}
use Rattle.fhe_level.specs.declared.fault.TypeFault.{TypeFault}
use Rattle.fhe_level.specs.declared.level.FheOp.{FheOp}
use Rattle.fhe_level.specs.Operations.{type_of}
use Rattle.fhe_level.specs.Types.{body_fault}
use Rattle.fhe_level.specs.Programs.{statement_op}

-- the types of the operations that are there
abbrev pub types_in : Operations FheOp → List WrittenType
types_in graph = map type_of (operations_of graph)

-- where operations were added no check fails and they stand at the end; a fault is that of the first check that fails
abbrev pub Adds : Operations FheOp → Operations FheOp → List FheOp → Result (Unit {0}) (Refusal TypeFault)
    → Option TypeFault → Type 0
Adds before after added (Ok done) found = (found ≡ None) × (operations_of after ≡ operations_of before ++ added)
Adds before after added (Err (Fault fault)) found = found ≡ Some fault
Adds before after added (Err Memory) found = Unit {0}

-- these statements were added, of which the first is the one at this place, or a check of theirs fails
abbrev pub AddsBody : Operations FheOp → Operations FheOp → ℕ → List Statement → Result (Unit {0}) (Refusal TypeFault)
    → Type 0
AddsBody before after place body result =
    Adds before after (map statement_op body) result (body_fault (types_in before) place body)
