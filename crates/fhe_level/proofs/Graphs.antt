-- The operations of a source are a graph: their operands come before them.
use Rattle.std.proofs.Common.{◌≡◌, ℕ, zero, suc, ◌+◌, ◌<◌, ◌≤◌, ◌^◌, Bool, false, List, [], ◌∷◌, ◌++◌, length, get_or, map, All, refl, sym, ap, ◌∙◌, subst, arith}
use Rattle.std.specs.Prelude.{nat_eq, pos, Contains}
use Rattle.std.specs.List.{AllByRecursion, enumerate_from, IsDistinct}
use Rattle.std.proofs.lemmas.Bool.{ne_eqb}
use Rattle.std.proofs.lemmas.List.{length-map, length-append, get_or-map}
use Rattle.std.proofs.lemmas.List.Elements.{All-from_recursion, All-contains, All-from_get_or}
use Rattle.std.proofs.lemmas.List.FromFn.{length-enumerate_from, get_or-enumerate_from}
use Rattle.std.proofs.lemmas.Map.Keys.{IsDistinct-from_apart}
use Rattle.ir_core.specs.Graph.{IsGraph, StandsBefore, numbers_of}
use Rattle.ir_core.specs.Placed.{IsPlaced}
use Rattle.ir_core.specs.Laws.{PlacedLaws}
use Rattle.fhe_text.specs.declared.source.Arg.{Arg}
use Rattle.fhe_text.specs.declared.source.OpName.{OpName}
use Rattle.fhe_text.specs.declared.source.OpName.TheVariants as names
use Rattle.fhe_text.specs.declared.source.Statement.{Statement}
use Rattle.fhe_text.specs.declared.source.Statement.TheVariants as statements
use Rattle.fhe_text.specs.declared.source.Source.{Source}
use Rattle.fhe_text.specs.Spellable.{AreDefined, IsStatement, AreStatements, IsSpellable}
use Rattle.fhe_level.specs.declared.level.FheOp.{FheOp}
use Rattle.fhe_level.specs.declared.level.FheOp.TheVariants as ops
use Rattle.fhe_level.specs.Rows.{row_of}
use Rattle.fhe_level.specs.Operations.{operands_of}
use Rattle.fhe_level.specs.Programs.{argument_op, statement_op, operations_in, numbered, program_of}
use Rattle.fhe_level.specs.Clearing.{KeepsRow}
use Rattle.fhe_level.proofs.Widths.{IsWithin}

-- ---- operands

-- the operands of each operation are numbers below its own, which are counted from this one on
AreEarlier : ℕ → List FheOp → Type 0
AreEarlier number [] = Unit {0}
AreEarlier number (op ∷ operations) = AreDefined number (operands_of op) × AreEarlier (number + 1) operations

statement_earlier : (before : ℕ) (statement : Statement) → IsStatement before statement → AreDefined before (operands_of (statement_op statement))
statement_earlier before (statements.Int value bits) is = tt
statement_earlier before (statements.Dense found count bits) is = tt
statement_earlier before (statements.Op name operands written result) is = is.0

body_earlier : (before : ℕ) (body : List Statement) → AreStatements before body → AreEarlier before (map statement_op body)
unfolding AreEarlier
body_earlier before [] are = tt
body_earlier before (statement ∷ body) are = (statement_earlier before statement are.0, body_earlier (before + 1) body are.1)

arguments_earlier : (number before : ℕ) (args : List Arg) (more : List FheOp) → number + length args ≡ before → AreEarlier before more → AreEarlier number (map argument_op args ++ more)
unfolding AreEarlier
arguments_earlier number before [] more same are = let own : before ≡ number = omega (arith, same) in subst (λ n. AreEarlier n more) own are
arguments_earlier number before (arg ∷ args) more same are = (tt, arguments_earlier (number + 1) before args more (omega (arith, same)) are)

same_number : (number user : ℕ) (own op : FheOp) → ◌≡◌ {A = ℕ × FheOp} (number, own) (user, op) → (number ≡ user) × (own ≡ op)
same_number number user own op same = (ap (λ (entry : ℕ × FheOp). entry.0) same, ap (λ (entry : ℕ × FheOp). entry.1) same)

-- an operand is below its user, which is one of the numbers
operand_below : (number : ℕ) (operations : List FheOp) (user value : ℕ) (op : FheOp) → AreEarlier number operations → Contains (enumerate_from number operations) (user, op) → Contains (operands_of op) value
    → (value < user) × (user < number + length operations)
unfolding AreEarlier
operand_below number [] user value op are (k, within, at) has = absurd (omega arith)
operand_below number (own ∷ operations) user value op are (zero, within, at) has =
    let same = same_number number user own op at in
    let defined : AreDefined user (operands_of op) = subst (λ n. AreDefined n (operands_of op)) same.0 (subst (λ o. AreDefined number (operands_of o)) same.1 are.0) in
    (All-contains (λ v. v < user) (operands_of op) value (All-from_recursion (λ v. v < user) (operands_of op) defined) has, omega (arith, same.0))
operand_below number (own ∷ operations) user value op are (suc k, within, at) has =
    let rest = operand_below (number + 1) operations user value op are.1 (k, omega arith, at) has in
    (rest.0, omega (arith, rest.1))

-- ---- numbers

none_before : (place : ℕ) → 0 + place ≡ place
none_before place = omega arith

number_at : (operations : List FheOp) (place d : ℕ) → place < length operations → get_or (numbers_of (enumerate_from 0 operations)) place d ≡ place
number_at operations place d within =
    let list = enumerate_from 0 operations in
    let inside : place < length list = omega (arith, length-enumerate_from 0 operations) in
    let last : FheOp = ops.Int (pos 0) 0 in
    get_or-map (λ (entry : ℕ × FheOp). entry.0) list place (d, last) d inside ∙ ap (λ (entry : ℕ × FheOp). entry.0) (get_or-enumerate_from 0 operations place (d, last) within) ∙ none_before place

numbers_count : (operations : List FheOp) → length (numbers_of (enumerate_from 0 operations)) ≡ length operations
numbers_count operations = length-map (enumerate_from 0 operations) (λ (entry : ℕ × FheOp). entry.0) ∙ length-enumerate_from 0 operations

numbers_apart : (operations : List FheOp) → IsDistinct nat_eq (numbers_of (enumerate_from 0 operations))
numbers_apart operations =
    IsDistinct-from_apart nat_eq (numbers_of (enumerate_from 0 operations)) (λ i j d before within.
    let count = numbers_count operations in
    let first = number_at operations i d (omega (arith, count, before, within)) in
    let second = number_at operations j d (omega (arith, count, within)) in
    ne_eqb _ _ (λ same. omega (arith, before, first, second, same)))

numbers_below : (operations : List FheOp) → All (λ number. number < length operations) (numbers_of (enumerate_from 0 operations))
numbers_below operations =
    All-from_get_or (λ number. number < length operations) (numbers_of (enumerate_from 0 operations)) 0 (λ i within.
    let count = numbers_count operations in
    let inside : i < length operations = omega (arith, count, within) in
    omega (arith, inside, number_at operations i 0 inside))

-- ---- rows

row_short : (name : OpName) → length (row_of name) ≤ 2
row_short names.AddEint = omega arith
row_short names.AddEintInt = omega arith
row_short names.SubEint = omega arith
row_short names.SubEintInt = omega arith
row_short names.SubIntEint = omega arith
row_short names.NegEint = omega arith
row_short names.MulEintInt = omega arith
row_short names.Zero = omega arith
row_short names.ApplyLookupTable = omega arith

few_operands : (list : List (ℕ × FheOp)) (op : FheOp) → KeepsRow list op → length (operands_of op) < 2 ^ 32
few_operands list (ops.Arg ty) keeps = omega arith
few_operands list (ops.Int value bits) keeps = omega arith
few_operands list (ops.Dense found count bits) keeps = omega arith
few_operands list (ops.Apply name operands ty) keeps = omega (arith, keeps.0, row_short name)

-- ---- the whole

operations_count : (source : Source) → length (operations_in source) ≡ length source.args + length source.body
operations_count source =
    length-append (map argument_op source.args) (map statement_op source.body)
    ∙ ap (λ n. n + length (map statement_op source.body)) (length-map source.args argument_op)
    ∙ ap (λ n. length source.args + n) (length-map source.body statement_op)

-- the program of a source that has a text and is within the limits is a graph, where its operations keep their rows
pub program_graph : PlacedLaws operands_of → (source : Source) → IsSpellable source → IsWithin source → IsPlaced (numbered (operations_in source))
    → All (λ (entry : ℕ × FheOp). KeepsRow (enumerate_from 0 (operations_in source)) entry.1) (enumerate_from 0 (operations_in source)) → IsGraph operands_of (numbered (operations_in source))
program_graph laws source spell within placed rows =
    let operations = operations_in source in
    let graph = numbered operations in
    let count = operations_count source in
    let long = length-enumerate_from 0 operations in
    let are : AreEarlier 0 operations = arguments_earlier 0 (length source.args) source.args (map statement_op source.body) (omega arith) (body_earlier (length source.args) source.body spell.body) in
    record {
      earlier = λ user value op has uses.
          let below = operand_below 0 operations user value op are has uses in
          let first = laws.place graph value placed (omega (arith, below.0, below.1, long)) in
          let second = laws.place graph user placed (omega (arith, below.1, long)) in
          omega (arith, first, second, below.0);
      distinct = numbers_apart operations;
      given = numbers_below operations;
      fits = omega (arith, long);
      narrow = omega (arith, count, within.operations, within.arguments);
      few = λ place d inside. few_operands _ _ (rows place d inside);
    }
