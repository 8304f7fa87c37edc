use Rattle.std.proofs.Common.{◌≡◌, ◌++◌, List, map, sym, ap, ◌∙◌, Option, None, Some, Ok}
use Rattle.std.proofs.lemmas.Result.{err_from_is_err_and}
use Rattle.ir_core.specs.Placed.{operations_of}
use Rattle.fhe_text.specs.declared.source.Arg.{Arg}
use Rattle.fhe_level.specs.declared.program.Program.{Program}
use Rattle.fhe_level.specs.Types.{argument_fault}
use Rattle.fhe_level.specs.Programs.{argument_op}
use Rattle.fhe_level.proofs.Whole.{body_refused, return_refused, checked_is}
use Rattle.fhe_level.proofs.types.check_types.Goals as goal

pub returns-in_err-add_body : goal.returns-in_err-add_body
returns-in_err-add_body c =
    let p = err_from_is_err_and c.from_residual-in_err-add_body.result c.from_residual-in_err-add_body.ensures.1 in
    let none : argument_fault 0 c.args.source.now.args ≡ None = ap (λ (l : List Arg). argument_fault 0 l) (sym c.as_slice.ensures) ∙ sym c.in_default.ensures in
    let args : operations_of c.in_ok-graph.graph ≡ map argument_op c.args.source.now.args =
    c.in_ok-graph.ensures.arguments ∙ ap (λ (l : List Arg). map argument_op l) c.as_slice-2.ensures in
    let found = rw c.as_slice-3.ensures at c.in_err-add_body.ensures.added in
    rw (p.1, p.2) (body_refused c.args.source.now (operations_of c.in_ok-graph.graph) none args c.in_err-add_body.field-0.0 c.in_ok-graph.graph c.in_ok-graph.graph found)

pub returns-in-Some-return_fault : goal.returns-in-Some-return_fault
returns-in-Some-return_fault c =
    let none : argument_fault 0 c.args.source.now.args ≡ None = ap (λ (l : List Arg). argument_fault 0 l) (sym c.as_slice.ensures) ∙ sym c.in_default.ensures in
    let args : operations_of c.in_ok-graph.graph ≡ map argument_op c.args.source.now.args =
    c.in_ok-graph.ensures.arguments ∙ ap (λ (l : List Arg). map argument_op l) c.as_slice-2.ensures in
    let found = rw c.as_slice-3.ensures at c.in_ok-add_body.ensures.added in
    return_refused c.args.source.now (operations_of c.in_ok-graph.graph) none args _ found.0 found.1 c.in-Some-return_fault.fault (sym c.in-Some-return_fault.ensures)

pub returns : goal.returns
returns c =
    let none : argument_fault 0 c.args.source.now.args ≡ None = ap (λ (l : List Arg). argument_fault 0 l) (sym c.as_slice.ensures) ∙ sym c.in_default.ensures in
    let args : operations_of c.in_ok-graph.graph ≡ map argument_op c.args.source.now.args =
    c.in_ok-graph.ensures.arguments ∙ ap (λ (l : List Arg). map argument_op l) c.as_slice-2.ensures in
    let found = rw c.as_slice-3.ensures at c.in_ok-add_body.ensures.added in
    checked_is c.args.source.now (operations_of c.in_ok-graph.graph) none args _ found.0 found.1 (sym c.in_default-return_fault.ensures)
    ∙ ap (λ (p : Program). Ok p) (sym c.in_ok-program_from.ensures)
