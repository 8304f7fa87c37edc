use Rattle.std.proofs.Common.{◌≡◌, ℕ, List, length, All, sym, ap, ◌∙◌, subst, arith, Some}
use Rattle.ir_core.specs.Graph.{Holds}
use Rattle.fhe_level.specs.declared.level.FheOp.{FheOp}
use Rattle.fhe_level.specs.declared.level.FheOp.TheVariants as ops
use Rattle.pattern_walk.proofs.Here.{within_here, width_at, row_at, operands_at}
use Rattle.pattern_walk.proofs.walk.Walk.step.Goals as goal

pub with_operation-requires-clause-ty : goal.with_operation-requires-clause-ty
with_operation-requires-clause-ty c =
    let here = c.requires.here ∙ ap (λ (o : FheOp). Some (c.args.number, o)) c.in-Apply.is in
    width_at c.args.program.now c.requires.limited.fhe c.args.self.place c.args.number (ops.Apply c.in-Apply.name c.in-Apply.operands c.in-Apply.ty) here

pub with_operation-requires-clause-row : goal.with_operation-requires-clause-row
with_operation-requires-clause-row c =
    let here = c.requires.here ∙ ap (λ (o : FheOp). Some (c.args.number, o)) c.in-Apply.is in
    ap (λ (l : List ℕ). length l) c.as_slice.ensures
    ∙ (row_at c.args.program.now c.requires.limited.fhe c.args.self.place c.args.number (ops.Apply c.in-Apply.name c.in-Apply.operands c.in-Apply.ty) here).0

pub with_operation-requires-clause-there : goal.with_operation-requires-clause-there
with_operation-requires-clause-there c =
    let here = c.requires.here ∙ ap (λ (o : FheOp). Some (c.args.number, o)) c.in-Apply.is in
    subst (λ (l : List ℕ). All (Holds c.args.program.now.graph.list) l) (sym c.as_slice.ensures)
    (operands_at c.args.program.now c.requires.limited.fhe c.args.self.place c.args.number (ops.Apply c.in-Apply.name c.in-Apply.operands c.in-Apply.ty) here c.known.ensures)

pub with_constant-requires : goal.with_constant-requires
with_constant-requires c =
    let within = within_here c.args.program.now c.requires.limited.fhe c.args.self.place c.args.number c.args.op.now c.requires.here in
    omega (arith, within, c.known.ensures.fits, c.known.ensures.narrow)
