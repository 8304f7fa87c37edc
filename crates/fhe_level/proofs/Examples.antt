-- The definitions on worked programs.
use Rattle.std.proofs.Common.{◌≡◌, ℕ, ◌++◌, List, [], ◌∷◌, map, pos, refl, arith, Option, Some, None}
use Rattle.std.specs.Prelude.{replicate}
use lib.IntN.{ℤ, negsuc}
use Rattle.fhe_text.specs.declared.source.WrittenType.{WrittenType}
use Rattle.fhe_text.specs.declared.source.WrittenType.TheVariants.{Eint, Int, Tensor}
use Rattle.fhe_text.specs.declared.source.Arg.{Arg}
use Rattle.fhe_text.specs.declared.source.OpName.{OpName}
use Rattle.fhe_text.specs.declared.source.OpName.TheVariants.{AddEint, AddEintInt, SubEint, SubEintInt, SubIntEint, NegEint, MulEintInt, Zero, ApplyLookupTable}
use Rattle.fhe_text.specs.declared.source.Entries.{Entries}
use Rattle.fhe_text.specs.declared.source.Entries.TheVariants as entries
use Rattle.fhe_text.specs.declared.source.Statement.{Statement}
use Rattle.fhe_text.specs.declared.source.Statement.TheVariants as statements
use Rattle.fhe_text.specs.declared.source.Source.{Source}
use Rattle.fhe_level.specs.declared.fault.LimitName.TheVariants as limits
use Rattle.fhe_level.specs.declared.fault.TypeKind.TheVariants as kinds
use Rattle.fhe_level.specs.Limits.{limit_fault}
use Rattle.fhe_level.specs.Types.{type_fault}
use Rattle.std.proofs.lemmas.Int.{ints}
use Rattle.std.proofs.lemmas.List.Elements.{All-from_recursion}
use Rattle.fhe_level.specs.declared.level.FheOp.{FheOp}
use Rattle.fhe_level.specs.declared.level.FheOp.TheVariants as ops
use Rattle.fhe_level.specs.declared.program.Program.{Program}
use Rattle.fhe_level.specs.Operations.{type_of}
use Rattle.fhe_level.specs.Programs.{numbered, program_of, clear_values}
use Rattle.fhe_level.specs.Clearing.{KeepsRow, HasEntries, HasWidth, IsNumberOf, IsResult, number_of, IsFhe, IsClear}

-- an argument with its declared range, and one without
abbrev within : ℕ → ℤ → ℤ → Arg
within width lo hi = record { ty = Eint width; declared = Some (lo, hi) }

abbrev plain : ℕ → Arg
plain width = record { ty = Eint width; declared = None }

-- a function of these arguments and statements that returns values of this type
abbrev function : List Arg → List Statement → List ℕ → WrittenType → Source
function args body returned ty = record {
  args = args;
  results = map (λ value. ty) returned;
  body = body;
  returned = returned;
  returned_types = map (λ value. ty) returned;
}

-- ---- 1, 2 and 3 times three arguments, and the squares of the sum modulo 16

abbrev square_entries : List ℤ
square_entries = pos 0 ∷ pos 1 ∷ pos 4 ∷ pos 9 ∷ pos 0 ∷ pos 9 ∷ pos 4 ∷ pos 1 ∷ pos 0 ∷ pos 1 ∷ pos 4 ∷ pos 9 ∷ pos 0 ∷ pos 9 ∷ pos 4 ∷ pos 1 ∷ []

abbrev squares : Source
squares =
    function (within 4 (pos 0) (pos 3) ∷ within 4 (pos 0) (pos 3) ∷ within 4 (pos 0) (pos 2) ∷ [])
    (
    statements.Int (pos 2) 5
    ∷ statements.Int (pos 3) 5
    ∷ statements.Op MulEintInt (1 ∷ 3 ∷ []) (Eint 4 ∷ Int 5 ∷ []) (Eint 4)
    ∷ statements.Op MulEintInt (2 ∷ 4 ∷ []) (Eint 4 ∷ Int 5 ∷ []) (Eint 4)
    ∷ statements.Op AddEint (0 ∷ 5 ∷ []) (Eint 4 ∷ Eint 4 ∷ []) (Eint 4)
    ∷ statements.Op AddEint (7 ∷ 6 ∷ []) (Eint 4 ∷ Eint 4 ∷ []) (Eint 4)
    ∷ statements.Dense (entries.List square_entries) 16 64
    ∷ statements.Op ApplyLookupTable (8 ∷ 9 ∷ []) (Eint 4 ∷ Tensor 16 64 ∷ []) (Eint 4)
    ∷ []
    )
    (10 ∷ []) (Eint 4)

no_limit_of_squares : limit_fault squares ≡ None
no_limit_of_squares = refl

types_of_squares : type_fault squares ≡ None
types_of_squares = refl

ten_squared : clear_values (program_of squares) (pos 3 ∷ pos 2 ∷ pos 1 ∷ []) ≡ pos 4 ∷ []
ten_squared = refl

-- ---- each operation

abbrev operations : Source
operations =
    function (plain 4 ∷ plain 4 ∷ [])
    (
    statements.Int (pos 5) 5
    ∷ statements.Op AddEint (0 ∷ 1 ∷ []) (Eint 4 ∷ Eint 4 ∷ []) (Eint 4)
    ∷ statements.Op AddEintInt (0 ∷ 2 ∷ []) (Eint 4 ∷ Int 5 ∷ []) (Eint 4)
    ∷ statements.Op SubEint (0 ∷ 1 ∷ []) (Eint 4 ∷ Eint 4 ∷ []) (Eint 4)
    ∷ statements.Op SubEintInt (0 ∷ 2 ∷ []) (Eint 4 ∷ Int 5 ∷ []) (Eint 4)
    ∷ statements.Op SubIntEint (2 ∷ 0 ∷ []) (Int 5 ∷ Eint 4 ∷ []) (Eint 4)
    ∷ statements.Op NegEint (0 ∷ []) (Eint 4 ∷ []) (Eint 4)
    ∷ statements.Op MulEintInt (0 ∷ 2 ∷ []) (Eint 4 ∷ Int 5 ∷ []) (Eint 4)
    ∷ statements.Op Zero [] [] (Eint 4)
    ∷ statements.Dense (entries.Splat (negsuc 2)) 16 64
    ∷ statements.Op ApplyLookupTable (1 ∷ 11 ∷ []) (Eint 4 ∷ Tensor 16 64 ∷ []) (Eint 4)
    ∷ []
    )
    (3 ∷ 4 ∷ 5 ∷ 6 ∷ 7 ∷ 8 ∷ 9 ∷ 10 ∷ 12 ∷ 0 ∷ []) (Eint 4)

types_of_operations : type_fault operations ≡ None
types_of_operations = refl

values_of_operations : clear_values (program_of operations) (pos 7 ∷ pos 3 ∷ [])
    ≡ pos 10 ∷ pos 12 ∷ pos 4 ∷ pos 2 ∷ negsuc 1 ∷ negsuc 6 ∷ pos 35 ∷ pos 0 ∷ negsuc 2 ∷ pos 7 ∷ []
values_of_operations = refl

-- ---- faults of types

-- one operation on two arguments, of which the first has this range
abbrev one_op : Arg → OpName → List ℕ → List WrittenType → WrittenType → Source
one_op arg name operands written result =
    function (arg ∷ plain 3 ∷ []) (statements.Op name operands written result ∷ []) (2 ∷ []) result

declared_empty : type_fault (one_op (within 2 (pos 3) (pos 1)) AddEint (0 ∷ []) [] (Eint 2)) ≡ Some (record { place = 0; kind = kinds.Declared })
declared_empty = refl

declared_past : type_fault (one_op (within 2 (pos 0) (pos 4)) AddEint (0 ∷ []) [] (Eint 2)) ≡ Some (record { place = 0; kind = kinds.Declared })
declared_past = refl

declared_below : type_fault (one_op (within 2 (negsuc 0) (pos 3)) AddEint (0 ∷ []) [] (Eint 2)) ≡ Some (record { place = 0; kind = kinds.Declared })
declared_below = refl

too_few : type_fault (one_op (plain 2) AddEint (0 ∷ []) [] (Eint 2)) ≡ Some (record { place = 0; kind = kinds.Arity })
too_few = refl

types_missing : type_fault (one_op (plain 2) AddEint (0 ∷ 1 ∷ []) (Eint 2 ∷ []) (Eint 2)) ≡ Some (record { place = 0; kind = kinds.Operand })
types_missing = refl

type_not_own : type_fault (one_op (plain 2) AddEint (0 ∷ 1 ∷ []) (Eint 2 ∷ Eint 2 ∷ []) (Eint 2)) ≡ Some (record { place = 0; kind = kinds.Operand })
type_not_own = refl

two_widths : type_fault (one_op (plain 2) AddEint (0 ∷ 1 ∷ []) (Eint 2 ∷ Eint 3 ∷ []) (Eint 2)) ≡ Some (record { place = 0; kind = kinds.Rule })
two_widths = refl

no_result : type_fault (one_op (plain 2) NegEint (0 ∷ []) (Eint 2 ∷ []) (Int 5)) ≡ Some (record { place = 0; kind = kinds.Rule })
no_result = refl

-- a table of 15 entries on four bits
abbrev fifteen : Source
fifteen =
    function (plain 4 ∷ [])
    (
    statements.Dense (entries.Splat (pos 1)) 15 64
    ∷ statements.Op ApplyLookupTable (0 ∷ 1 ∷ []) (Eint 4 ∷ Tensor 15 64 ∷ []) (Eint 4)
    ∷ []
    )
    (2 ∷ []) (Eint 4)

table_of_fifteen : type_fault fifteen ≡ Some (record { place = 1; kind = kinds.Table })
table_of_fifteen = refl

abbrev returned_as : List ℕ → List WrittenType → List WrittenType → Source
returned_as returned written results =
    record { args = plain 2 ∷ []; results = results; body = []; returned = returned; returned_types = written }

returned_well : type_fault (returned_as (0 ∷ []) (Eint 2 ∷ []) (Eint 2 ∷ [])) ≡ None
returned_well = refl

returned_twice : type_fault (returned_as (0 ∷ 0 ∷ []) (Eint 2 ∷ []) (Eint 2 ∷ [])) ≡ Some (record { place = 0; kind = kinds.Return })
returned_twice = refl

returned_more : type_fault (returned_as (0 ∷ []) (Eint 2 ∷ []) (Eint 2 ∷ Eint 2 ∷ [])) ≡ Some (record { place = 0; kind = kinds.Return })
returned_more = refl

returned_other : type_fault (returned_as (0 ∷ []) (Eint 3 ∷ []) (Eint 3 ∷ [])) ≡ Some (record { place = 0; kind = kinds.Return })
returned_other = refl

promised_other : type_fault (returned_as (0 ∷ []) (Eint 2 ∷ []) (Eint 3 ∷ [])) ≡ Some (record { place = 0; kind = kinds.Return })
promised_other = refl

-- ---- faults of limits

abbrev many_arguments : ℕ → Source
many_arguments count = function (replicate count (plain 1)) [] (0 ∷ []) (Eint 1)

most_arguments : limit_fault (many_arguments 64) ≡ None
most_arguments = refl

past_arguments : limit_fault (many_arguments 65) ≡ Some (record { what = limits.Arguments; count = 65; most = 64 })
past_arguments = refl

wide : limit_fault (function (plain 17 ∷ []) [] (0 ∷ []) (Eint 1)) ≡ Some (record { what = limits.Width; count = 17; most = 16 })
wide = refl

-- ---- a program that can be computed

abbrev pub doubled_operations : List FheOp
doubled_operations =
    ops.Arg (Eint 2)
    ∷ ops.Int (pos 2) 5
    ∷ ops.Apply MulEintInt (0 ∷ 1 ∷ []) (Eint 2)
    ∷ ops.Dense (entries.List (pos 1 ∷ pos 3 ∷ pos 2 ∷ pos 0 ∷ [])) 4 64
    ∷ ops.Apply ApplyLookupTable (2 ∷ 3 ∷ []) (Eint 2)
    ∷ []

abbrev pub doubled : Program
doubled = record { graph = numbered doubled_operations; args = (pos 0, pos 1) ∷ []; results = 4 ∷ [] }

entry_at_two : clear_values doubled (pos 1 ∷ []) ≡ pos 2 ∷ []
entry_at_two = refl

doubled_is_fhe : IsFhe doubled
doubled_is_fhe = record {
  widths =
      let P : ℕ × FheOp → Type 0 = λ (entry : ℕ × FheOp). HasWidth (type_of entry.1) in
      All-from_recursion P doubled.graph.list ((omega arith, omega arith), (tt, ((omega arith, omega arith), (tt, ((omega arith, omega arith), tt)))));
  rows =
      let P : ℕ × FheOp → Type 0 = λ (entry : ℕ × FheOp). KeepsRow doubled.graph.list entry.1 in
      All-from_recursion P doubled.graph.list (tt, (tt, ((refl, refl, refl), (tt, ((refl, refl, refl), tt)))));
  tables =
      let P : ℕ × FheOp → Type 0 = λ (entry : ℕ × FheOp). HasEntries entry.1 in
      All-from_recursion P doubled.graph.list (tt, (tt, (tt, (refl, (tt, tt)))));
  arguments = (refl, refl, refl);
  results = All-from_recursion (IsResult doubled.graph.list) (4 ∷ []) (refl, tt);
}

doubled_is_clear : IsClear doubled (pos 1 ∷ [])
doubled_is_clear = record {
  fhe = doubled_is_fhe;
  arguments = (record { least = omega (arith, ints); most = omega (arith, ints) }, tt);
  numbers =
      let P : ℕ × FheOp → Type 0 = λ (entry : ℕ × FheOp). IsNumberOf (type_of entry.1) (number_of doubled (pos 1 ∷ []) entry.0) in
      All-from_recursion P doubled.graph.list ((omega (arith, ints), omega (arith, ints)), (tt, ((omega (arith, ints), omega (arith, ints)), (tt, ((omega (arith, ints), omega (arith, ints)), tt)))));
}
