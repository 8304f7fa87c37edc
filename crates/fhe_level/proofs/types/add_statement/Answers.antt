use Rattle.std.proofs.Common.{◌≡◌, ◌<◌, ℕ, length, All, sym, ap, ◌∙◌, subst, arith, Option, None}
use Rattle.std.proofs.lemmas.List.{length-map}
use Rattle.ir_core.specs.Placed.{operations_of}
use Rattle.fhe_level.specs.declared.level.FheOp.{FheOp}
use Rattle.fhe_level.specs.Operations.{operands_of, type_of}
use Rattle.fhe_level.specs.Types.{statement_fault}
use Rattle.fhe_level.specs.Programs.{statement_op}
use Rattle.fhe_level.specs.Building.{types_in}
use Rattle.fhe_level.proofs.Steps.{operands_there}
use Rattle.fhe_level.proofs.types.add_statement.Goals as goal

pub append-requires-clause-earlier : goal.append-requires-clause-earlier
append-requires-clause-earlier c =
    let there : All (λ value. value < length (types_in c.args.graph.now)) (operands_of (statement_op c.args.statement.now)) =
    operands_there (types_in c.args.graph.now) c.args.statement.now (sym c.in_default.ensures) in
    let count : length (types_in c.args.graph.now) ≡ length (operations_of c.args.graph.now) = length-map {A = FheOp} (operations_of c.args.graph.now) type_of in
    subst (λ (op : FheOp). All (λ value. value < length (operations_of c.args.graph.now)) (operands_of op)) (sym c.in_ok-statement_op.ensures)
    (subst (λ (n : ℕ). All (λ value. value < n) (operands_of (statement_op c.args.statement.now))) count there)
