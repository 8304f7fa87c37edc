use Rattle.std.proofs.Common.{◌≡◌, ◌-◌, ◌+◌, ◌*◌, ℕ, ap, ◌∙◌, arith}
use Rattle.std.proofs.lemmas.Result.{err_from_is_err_and}
use Rattle.cipher_files.specs.CipherFile.{ranges_at}
use Rattle.cipher_files.proofs.CipherTexts.{ranges_begin, ranges_go_on, ranges_end, ranges_are_done}
use Rattle.cipher_files.proofs.cipher.ranges_at.Goals as goal

pub loop-i-init : goal.loop-i-init
loop-i-init c =
    let place : ℕ = c.args.place in
    let at : place + 2 * 0 ≡ place = omega arith in
    let left : c.args.count - 0 ≡ c.args.count = omega arith in
    rw c.in_ok-ranges.ensures.items (ranges_begin (ranges_at c.args.bytes.now (place + 2 * 0) (c.args.count - 0)) ∙ ap (λ (p : ℕ). ranges_at c.args.bytes.now p (c.args.count - 0)) at ∙ ap (ranges_at c.args.bytes.now place) left)

pub returns-in_err-range_at : goal.returns-in_err-range_at
returns-in_err-range_at c =
    let p = err_from_is_err_and c.from_residual-in_err-range_at.result c.from_residual-in_err-range_at.ensures.1 in
    rw (p.1, p.2) (ranges_end c.in_err-range_at.field-0.0 c.loop-i.ranges.items c.args.bytes.now c.args.place c.args.count c.loop-i.i (ranges_at c.args.bytes.now c.args.place c.args.count) c.loop-i-test.true c.in_err-range_at.ensures c.loop-i.invariant)

pub loop-i-preserved : goal.loop-i-preserved
loop-i-preserved c =
    rw c.in_ok-push.ensures.items (ranges_go_on c.loop-i.ranges.items c.args.bytes.now c.args.place c.args.count c.loop-i.i c.in_ok-range_at.field-0 (ranges_at c.args.bytes.now c.args.place c.args.count) c.loop-i-test.true c.in_ok-range_at.ensures c.loop-i.invariant)

pub returns : goal.returns
returns c = ranges_are_done c.loop-i.ranges.items c.args.bytes.now c.args.place c.args.count c.loop-i.i (ranges_at c.args.bytes.now c.args.place c.args.count) c.loop-i-test.false c.loop-i.invariant
