use Rattle.std.proofs.Common.{◌≡◌, ◌<◌, length, get_or, sym, ap, ◌∙◌, arith}
use Rattle.std.specs.List.{slice_index}
use Rattle.std.proofs.lemmas.List.{get_or_default}
use Rattle.ap_level.specs.Operations.{operands_of}
use Rattle.ap_level.specs.PutOperands.{own_put_is_same}
use Rattle.live_patterns.proofs.Anew.{operands_anew, operand_is_old, one_anew, still_there}
use Rattle.live_patterns.proofs.renumbering.renumber.Goals as goal

pub loop-at-init : goal.loop-at-init
loop-at-init c = sym (own_put_is_same c.args.op.now)

pub operand-number-requires : goal.operand-number-requires
operand-number-requires c =
    still_there (slice_index c.args.places.now) c.loop-at.at c.args.op.now c.loop-at.op (omega (arith, c.loop-at-test.true, c.arity-at-end.ensures)) c.loop-at.invariant

pub bounds-places-number : goal.bounds-places-number
bounds-places-number c =
    let numbering = slice_index c.args.places.now in
    let first = c.args.op.now in
    let below : c.loop-at.at < length (operands_of first) = omega (arith, c.loop-at-test.true, c.arity-at-end.ensures) in
    let old : c.operand-number.result ≡ get_or (operands_of first) c.loop-at.at 0
    = c.operand-number.ensures ∙ ap (λ l. get_or l c.loop-at.at 0) (operands_anew numbering c.loop-at.at first c.loop-at.op c.loop-at.invariant) ∙ operand_is_old numbering c.loop-at.at (operands_of first) 0 below in
    omega (arith, old, c.requires c.loop-at.at 0 below)

pub set_operand-requires : goal.set_operand-requires
set_operand-requires c =
    still_there (slice_index c.args.places.now) c.loop-at.at c.args.op.now c.loop-at.op (omega (arith, c.loop-at-test.true, c.arity-at-end.ensures)) c.loop-at.invariant

pub loop-at-preserved : goal.loop-at-preserved
loop-at-preserved c =
    let numbering = slice_index c.args.places.now in
    let first = c.args.op.now in
    let below : c.loop-at.at < length (operands_of first) = omega (arith, c.loop-at-test.true, c.arity-at-end.ensures) in
    let read : c.operand-number.result ≡ get_or (operands_of c.loop-at.op) c.loop-at.at c.operand-number.result
    = c.operand-number.ensures ∙ get_or_default (operands_of c.loop-at.op) c.loop-at.at 0 c.operand-number.result (still_there numbering c.loop-at.at first c.loop-at.op below c.loop-at.invariant) in
    one_anew numbering c.loop-at.at c.operand-number.result first c.loop-at.op c.set_operand.new.op below c.loop-at.invariant read c.set_operand.ensures
