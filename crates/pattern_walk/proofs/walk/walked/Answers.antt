use Rattle.std.proofs.Common.{◌≡◌, ℕ, ◌+◌, ◌-◌, ◌<◌, ◌≤◌, List, length, drop, sym, ap, ◌∙◌, subst, arith, Option, Some, None, Ok}
use Rattle.std.specs.Prelude.{Result}
use Rattle.std.proofs.lemmas.Result.{err_from_is_err_and}
use Rattle.refusals.specs.Reading.{Refuses}
use Rattle.pattern_walk.specs.declared.fault.FormFault.{FormFault}
use Rattle.std.proofs.lemmas.List.{length-map, drop_all}
use Rattle.std.proofs.lemmas.Option.{slice_get_within}
use Rattle.std.specs.List.{slice_get}
use Rattle.std.specs.Option.{IfSome}
use Rattle.ir_core.specs.Graph.{Holds, place_of, numbers_of}
use Rattle.fhe_level.specs.declared.level.FheOp.{FheOp}
use Rattle.fhe_level.specs.Standing.{past_all}
use Rattle.pattern_walk.specs.Safe.{IsSafe}
use Rattle.pattern_walk.specs.Walking.{Walked, step, walk}
use Rattle.pattern_walk.specs.Keeping.{step_safe, start_safe}
use Rattle.pattern_walk.specs.Stepping.{step_place}
use Rattle.pattern_walk.proofs.Going.{rest_ok, rest_refused}
use Rattle.pattern_walk.proofs.walk.walked.Goals as goal

pub loop-next-init : goal.loop-next-init
loop-next-init c =
    let list = c.args.program.now.graph.list in
    let start = c.in_ok-walk.ensures in
    record {
      safe = subst (IsSafe c.args.program.now) (sym start) (start_safe c.args.program.now c.requires);
      rest = ap (λ (w : Walked). walk (length c.args.program.now.args) list w (drop w.place list)) start;
      next = c.first-next.ensures.number ∙ ap (λ (w : Walked). slice_get (numbers_of list) w.place) (sym start);
      at = subst (λ (w : Walked). IfSome c.first-next.result (λ (number : ℕ). place_of list number ≡ w.place)) (sym start) c.first-next.ensures.place;
      there = c.first-next.ensures.there;
    }

-- the operation that was taken stands at the place
pub loop-next-preserved : goal.loop-next-preserved
loop-next-preserved c =
    let program = c.args.program.now in
    let list = program.graph.list in
    let before = c.loop-next.walk in
    let after = c.in_ok-walk-2.walk in
    let number = c.in-Some.number in
    let op : FheOp = c.op.result.now in
    let at : place_of list number ≡ before.place = rw c.in-Some.is at c.loop-next.invariant.at in
    let here : slice_get list before.place ≡ Some (number, op) =
    subst (λ (n : ℕ). slice_get list n ≡ Some (number, op)) at c.op.ensures in
    let stepped : step (length program.args) list before number op ≡ Ok after = c.in_ok-walk-2.ensures in
    let placed : after.place ≡ before.place + 1 = step_place (length program.args) list before number op after stepped in
    let behind : place_of list number + 1 ≡ after.place = omega (arith, at, placed) in
    record {
      safe = step_safe c.laws-2.ensures c.laws.ensures program c.requires before c.loop-next.invariant.safe number op after here stepped;
      rest = rest_ok program c.requires.fhe before number op here after stepped ∙ c.loop-next.invariant.rest;
      next = c.next-next.ensures.number ∙ ap (λ (n : ℕ). slice_get (numbers_of list) n) behind;
      at = subst (λ (n : ℕ). IfSome c.next-next.result (λ (next : ℕ). place_of list next ≡ n)) behind c.next-next.ensures.place;
      there = c.next-next.ensures.there;
    }

pub loop-next-smaller : goal.loop-next-smaller
loop-next-smaller c =
    let program = c.args.program.now in
    let list = program.graph.list in
    let before = c.loop-next.walk in
    let after = c.in_ok-walk-2.walk in
    let number = c.in-Some.number in
    let op : FheOp = c.op.result.now in
    let at : place_of list number ≡ before.place = rw c.in-Some.is at c.loop-next.invariant.at in
    let here : slice_get list before.place ≡ Some (number, op) =
    subst (λ (n : ℕ). slice_get list n ≡ Some (number, op)) at c.op.ensures in
    let stepped : step (length program.args) list before number op ≡ Ok after = c.in_ok-walk-2.ensures in
    let placed : after.place ≡ before.place + 1 = step_place (length program.args) list before number op after stepped in
    let within : before.place < length list = slice_get_within list before.place (number, op) here in
    omega (arith, placed, within)

pub returns-in_err-walk-2 : goal.returns-in_err-walk-2
returns-in_err-walk-2 c =
    let p = err_from_is_err_and c.from_residual-in_err-walk-2.result c.from_residual-in_err-walk-2.ensures.1 in
    let program = c.args.program.now in
    let list = program.graph.list in
    let before = c.loop-next.walk in
    let number = c.in-Some.number in
    let op : FheOp = c.op.result.now in
    let at : place_of list number ≡ before.place = rw c.in-Some.is at c.loop-next.invariant.at in
    let here : slice_get list before.place ≡ Some (number, op) =
    subst (λ (n : ℕ). slice_get list n ≡ Some (number, op)) at c.op.ensures in
    let refused = rest_refused program c.requires.fhe before number op here c.in_err-walk-2.field-0.0 c.in_err-walk-2.ensures in
    rw (p.1, p.2) (subst (λ (r : Result Walked FormFault). Refuses c.in_err-walk-2.field-0.0 r) c.loop-next.invariant.rest refused)

pub returns : goal.returns
returns c =
    let list = c.args.program.now.graph.list in
    let count : length (numbers_of list) ≡ length list = length-map list (λ (entry : ℕ × FheOp). entry.0) in
    let past : length (numbers_of list) ≤ c.loop-next.walk.place = past_all (numbers_of list) c.loop-next.walk.place (sym c.loop-next.invariant.next ∙ c.in_default.is) in
    sym c.loop-next.invariant.rest
    ∙ ap (walk (length c.args.program.now.args) list c.loop-next.walk) (drop_all c.loop-next.walk.place list (omega (arith, past, count)))
