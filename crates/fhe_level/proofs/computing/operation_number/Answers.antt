use Rattle.std.proofs.Common.{◌≡◌, ℕ, List, length, map, sym, ap, ◌∙◌, subst, arith, Some}
use Rattle.std.specs.Prelude.{ℤ, pos}
use Rattle.std.proofs.lemmas.Int.{ints}
use Rattle.std.specs.List.{slice_get}
use Rattle.forms.specs.Forms.{number_at}
use Rattle.ir_core.specs.Graph.{place_of}
use Rattle.fhe_level.specs.declared.level.FheOp.{FheOp}
use Rattle.fhe_level.specs.declared.level.FheOp.TheVariants as ops
use Rattle.fhe_level.specs.Programs.{Value, apply}
use Rattle.fhe_level.specs.Clearing.{number_of}
use Rattle.fhe_level.specs.Room.{held_value, HoldsBefore, AreHeld, CanApply}
use Rattle.fhe_level.proofs.Clears.{number_here, count_here, held_values, are_held, argument_here, number_is, row, can_here}
use Rattle.fhe_level.proofs.computing.operation_number.Goals as goal

pub bounds-inputs-place : goal.bounds-inputs-place
bounds-inputs-place c =
    let at = c.op.ensures ∙ ap (λ (o : FheOp). Some (c.args.number, o)) c.in-Arg.is in
    omega (arith, argument_here c.args.program.now c.args.inputs.now c.requires.clear c.args.number c.in-Arg.ty at, c.requires.place)

pub applied-requires-clause-row : goal.applied-requires-clause-row
applied-requires-clause-row c =
    let at = c.op.ensures ∙ ap (λ (o : FheOp). Some (c.args.number, o)) c.in-Apply.is in
    ap (λ (l : List ℕ). length l) c.as_slice.ensures
    ∙ (row c.args.program.now c.args.inputs.now c.known.ensures c.requires.clear c.args.number c.in-Apply.name c.in-Apply.operands c.in-Apply.ty at).0

pub applied-requires-clause-held : goal.applied-requires-clause-held
applied-requires-clause-held c =
    let at = c.op.ensures ∙ ap (λ (o : FheOp). Some (c.args.number, o)) c.in-Apply.is in
    let holds : HoldsBefore c.args.program.now c.args.inputs.now c.args.room.now (place_of c.args.program.now.graph.list c.args.number) =
    subst (λ (p : ℕ). HoldsBefore c.args.program.now c.args.inputs.now c.args.room.now p) (sym c.requires.place) c.requires.before in
    subst (λ (l : List ℕ). AreHeld c.args.program.now.graph.list c.args.room.now l) (sym c.as_slice.ensures)
    (are_held c.args.program.now c.args.inputs.now c.known.ensures c.args.number (ops.Apply c.in-Apply.name c.in-Apply.operands c.in-Apply.ty) at c.args.room.now holds)

pub applied-requires-clause-can : goal.applied-requires-clause-can
applied-requires-clause-can c =
    let at = c.op.ensures ∙ ap (λ (o : FheOp). Some (c.args.number, o)) c.in-Apply.is in
    let holds : HoldsBefore c.args.program.now c.args.inputs.now c.args.room.now (place_of c.args.program.now.graph.list c.args.number) =
    subst (λ (p : ℕ). HoldsBefore c.args.program.now c.args.inputs.now c.args.room.now p) (sym c.requires.place) c.requires.before in
    let same = ap (λ (l : List ℕ). map (held_value c.args.program.now.graph.list c.args.room.now) l) c.as_slice.ensures
    ∙ held_values c.args.program.now c.args.inputs.now c.known.ensures c.args.number (ops.Apply c.in-Apply.name c.in-Apply.operands c.in-Apply.ty) at c.args.room.now holds in
    subst (λ (vs : List Value). CanApply c.in-Apply.name vs) (sym same)
    (can_here c.args.program.now c.args.inputs.now c.known.ensures c.requires.clear c.args.number c.in-Apply.name c.in-Apply.operands c.in-Apply.ty at)

pub returns-in-Arg : goal.returns-in-Arg
returns-in-Arg c =
    let at = c.op.ensures ∙ ap (λ (o : FheOp). Some (c.args.number, o)) c.in-Arg.is in
    let count = count_here c.args.program.now c.args.inputs.now c.known.ensures c.args.number (ops.Arg c.in-Arg.ty) at in
    let is : number_of c.args.program.now c.args.inputs.now c.args.number ≡ number_at c.args.inputs.now c.args.place =
    number_here c.args.program.now c.args.inputs.now c.known.ensures c.args.number (ops.Arg c.in-Arg.ty) at
    ∙ ap (λ (n : ℕ). number_at c.args.inputs.now n) (count ∙ c.requires.place) in
    omega (arith, ints, is)

pub returns-in-Int : goal.returns-in-Int
returns-in-Int c =
    let at = c.op.ensures ∙ ap (λ (o : FheOp). Some (c.args.number, o)) c.in-Int.is in
    let is : number_of c.args.program.now c.args.inputs.now c.args.number ≡ c.in-Int.value =
    number_here c.args.program.now c.args.inputs.now c.known.ensures c.args.number (ops.Int c.in-Int.value c.in-Int.bits) at in
    omega (arith, ints, is)

pub returns-in-Dense : goal.returns-in-Dense
returns-in-Dense c =
    let at = c.op.ensures ∙ ap (λ (o : FheOp). Some (c.args.number, o)) c.in-Dense.is in
    sym (number_here c.args.program.now c.args.inputs.now c.known.ensures c.args.number (ops.Dense c.in-Dense.entries c.in-Dense.length c.in-Dense.bits) at)

pub returns-in-Apply : goal.returns-in-Apply
returns-in-Apply c =
    let at = c.op.ensures ∙ ap (λ (o : FheOp). Some (c.args.number, o)) c.in-Apply.is in
    let holds : HoldsBefore c.args.program.now c.args.inputs.now c.args.room.now (place_of c.args.program.now.graph.list c.args.number) =
    subst (λ (p : ℕ). HoldsBefore c.args.program.now c.args.inputs.now c.args.room.now p) (sym c.requires.place) c.requires.before in
    let same = ap (λ (l : List ℕ). map (held_value c.args.program.now.graph.list c.args.room.now) l) c.as_slice.ensures
    ∙ held_values c.args.program.now c.args.inputs.now c.known.ensures c.args.number (ops.Apply c.in-Apply.name c.in-Apply.operands c.in-Apply.ty) at c.args.room.now holds in
    let is : c.applied.result ≡ number_of c.args.program.now c.args.inputs.now c.args.number =
    c.applied.ensures ∙ ap (λ (vs : List Value). apply c.in-Apply.name vs) same
    ∙ sym (number_is c.args.program.now c.args.inputs.now c.known.ensures c.requires.clear c.args.number c.in-Apply.name c.in-Apply.operands c.in-Apply.ty at) in
    omega (arith, ints, is)
