use Rattle.std.proofs.lemmas.Int.{to_z-of_z, fits_signed_from_abs}
use mir.Syntax.{w64}
use Rattle.std.proofs.Common.{◌≡◌, ℕ, ◌+◌, drop, length, subst, sym, ◌∙◌, arith, pos}
use Rattle.std.proofs.lemmas.Result.{err_from_is_err_and}
use Rattle.value_files.specs.Values.{values_from, values_of}
use Rattle.value_files.proofs.LineLemmas.{with_front, left_over, front_begins, goes_on, few_refused, value_ends, many_refused, all_read, all_within}
use Rattle.value_files.proofs.reader.read_values.Goals as goal

pub loop-place-init : goal.loop-place-init
loop-place-init c = rw c.in_ok-values.ensures.items (front_begins (values_of c.args.bytes.now c.args.ranges.now))

pub returns-in_err-unless-clause-values : goal.returns-in_err-unless-clause-values
returns-in_err-unless-clause-values c =
    let p = err_from_is_err_and c.from_residual-in_err-unless.result c.from_residual-in_err-unless.ensures.1 in
    rw (p.1, p.2) (few_refused c.in_err-unless.field-0.0 c.loop-place.values.items c.loop-place.rest.now c.args.ranges.now (c.loop-place.place + 1) c.loop-place.place (pos 0, pos 0) (values_of c.args.bytes.now c.args.ranges.now) c.loop-place-test.true (rw c.is_empty.ensures at c.in_err-unless.ensures.exact) c.loop-place.invariant)

pub returns-in_err-value-clause-values : goal.returns-in_err-value-clause-values
returns-in_err-value-clause-values c =
    let p = err_from_is_err_and c.from_residual-in_err-value.result c.from_residual-in_err-value.ensures.1 in
    rw (p.1, p.2) (value_ends c.in_err-value.field-0.0 c.loop-place.values.items c.loop-place.rest.now c.args.ranges.now (c.loop-place.place + 1) c.loop-place.place (pos 0, pos 0) (values_of c.args.bytes.now c.args.ranges.now) c.loop-place-test.true (left_over _ _ c.is_empty.ensures c.in_ok-unless.ensures.held) (rw c.first_line.ensures at c.in_err-value.ensures.value) c.loop-place.invariant)

pub loop-place-preserved : goal.loop-place-preserved
loop-place-preserved c =
    let fits = fits_signed_from_abs w64 c.in_ok-value.value (omega (arith, c.in_ok-value.ensures.limit)) in
    rw (c.in_ok-push.ensures.items, to_z-of_z w64 c.in_ok-value.value fits, c.after_line-rest.ensures) (goes_on c.loop-place.values.items c.loop-place.rest.now c.args.ranges.now (c.loop-place.place + 1) c.loop-place.place (pos 0, pos 0) c.in_ok-value.value (values_of c.args.bytes.now c.args.ranges.now) c.loop-place-test.true (left_over _ _ c.is_empty.ensures c.in_ok-unless.ensures.held) (rw c.first_line.ensures at c.in_ok-value.ensures.value) c.loop-place.invariant)

pub returns-in_err-unless-2-clause-values : goal.returns-in_err-unless-2-clause-values
returns-in_err-unless-2-clause-values c =
    let p = err_from_is_err_and c.from_residual-in_err-unless-2.result c.from_residual-in_err-unless-2.ensures.1 in
    let last : c.loop-place.place ≡ length c.args.ranges.now = omega (arith, c.loop-place-test.false, c.loop-place.auto.place-end) in
    rw (p.1, p.2) (many_refused c.in_err-unless-2.field-0.0 c.loop-place.values.items c.loop-place.rest.now c.args.ranges.now (length c.args.ranges.now + 1) c.loop-place.place (values_of c.args.bytes.now c.args.ranges.now) c.loop-place-test.false (rw c.is_empty-2.ensures at c.in_err-unless-2.ensures.exact)
    (subst (λ (n : ℕ). with_front c.loop-place.values.items (values_from (n + 1) c.loop-place.rest.now (drop c.loop-place.place c.args.ranges.now)) ≡ values_of c.args.bytes.now c.args.ranges.now) last c.loop-place.invariant))

pub returns-clause-values : goal.returns-clause-values
returns-clause-values c = all_read c.loop-place.values.items c.loop-place.rest.now c.args.ranges.now (c.loop-place.place + 1) c.loop-place.place (values_of c.args.bytes.now c.args.ranges.now) c.loop-place-test.false (sym c.is_empty-2.ensures ∙ c.in_ok-unless-2.ensures.held) c.loop-place.invariant

pub returns-clause-within : goal.returns-clause-within
returns-clause-within c = all_within 1 c.args.bytes.now c.args.ranges.now c.loop-place.values.items (all_read c.loop-place.values.items c.loop-place.rest.now c.args.ranges.now (c.loop-place.place + 1) c.loop-place.place (values_of c.args.bytes.now c.args.ranges.now) c.loop-place-test.false (sym c.is_empty-2.ensures ∙ c.in_ok-unless-2.ensures.held) c.loop-place.invariant)
