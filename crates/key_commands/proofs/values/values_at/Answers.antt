use Rattle.std.proofs.lemmas.Int.{to_z-of_z, fits_signed_from_abs}
use mir.Syntax.{w64}
use Rattle.std.proofs.Common.{◌≡◌, ℕ, ◌+◌, List, get_or, Ok, subst, pos, arith}
use Rattle.std.proofs.lemmas.Result.{err_from_is_err_and}
use Rattle.refusals.specs.Reading.{Refuses}
use Rattle.key_commands.specs.Decrypt.{value_at, values_at}
use Rattle.key_commands.proofs.ValueLemmas.{front_begins, goes_on, value_ends, all_decoded}
use Rattle.key_commands.proofs.values.values_at.Goals as goal

pub loop-place-init : goal.loop-place-init
loop-place-init c = rw c.in_ok-values.ensures.items (front_begins (values_at 1 c.args.width c.args.key.now c.args.ranges.now c.args.list.now))

pub returns-in_err-value : goal.returns-in_err-value
returns-in_err-value c =
    let p = err_from_is_err_and c.from_residual-in_err-value.result c.from_residual-in_err-value.ensures.1 in
    rw (p.1, p.2) (value_ends c.in_err-value.field-0.0 c.loop-place.values.items (c.loop-place.place + 1) c.args.width c.args.key.now c.args.ranges.now c.args.list.now c.loop-place.place (pos 0, pos 0) c.index-list-place.result (values_at 1 c.args.width c.args.key.now c.args.ranges.now c.args.list.now) c.loop-place-test.true (omega (arith, c.loop-place-test.true, c.requires.number)) (subst (λ (words : List ℕ). Refuses c.in_err-value.field-0.0 (value_at (c.loop-place.place + 1) c.args.width c.args.key.now (get_or c.args.ranges.now c.loop-place.place (pos 0, pos 0)) words)) c.index-list-place.is c.in_err-value.ensures.value) c.loop-place.invariant)

pub loop-place-preserved : goal.loop-place-preserved
loop-place-preserved c =
    let fits = fits_signed_from_abs w64 c.in_ok-value.value (omega (arith, c.in_ok-value.ensures.limit)) in
    rw (c.in_ok-push.ensures.items, to_z-of_z w64 c.in_ok-value.value fits) (goes_on c.loop-place.values.items (c.loop-place.place + 1) c.args.width c.args.key.now c.args.ranges.now c.args.list.now c.loop-place.place (pos 0, pos 0) c.index-list-place.result c.in_ok-value.value (values_at 1 c.args.width c.args.key.now c.args.ranges.now c.args.list.now) c.loop-place-test.true (omega (arith, c.loop-place-test.true, c.requires.number)) (subst (λ (words : List ℕ). value_at (c.loop-place.place + 1) c.args.width c.args.key.now (get_or c.args.ranges.now c.loop-place.place (pos 0, pos 0)) words ≡ Ok c.in_ok-value.value) c.index-list-place.is c.in_ok-value.ensures.value) c.loop-place.invariant)

pub returns : goal.returns
returns c = all_decoded c.loop-place.values.items (c.loop-place.place + 1) c.args.width c.args.key.now c.args.ranges.now c.args.list.now c.loop-place.place (values_at 1 c.args.width c.args.key.now c.args.ranges.now c.args.list.now) c.loop-place-test.false c.loop-place.invariant
