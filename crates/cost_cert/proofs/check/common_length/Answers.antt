use Rattle.std.proofs.Common.{◌≡◌, length, min, sym, ◌∙◌, arith}
use Rattle.cost_cert.proofs.Prefixes.{apart_at, same_all, one_ends}
use Rattle.cost_cert.proofs.check.common_length.Goals as goal

pub returns-then-text-at : goal.returns-then-text-at
returns-then-text-at c =
    let at = c.loop-at.at in
    sym (apart_at at c.args.text.now c.args.bytes.now 0 0 (omega (arith, c.loop-at-test.true, c.min-most.ensures)) (omega (arith, c.loop-at-test.true, c.min-most.ensures)) c.loop-at.invariant.same c.if-text-at.true)

pub returns : goal.returns
returns c =
    let at = c.loop-at.at in
    let text = c.args.text.now in
    let bytes = c.args.bytes.now in
    let most : at ≡ min (length text) (length bytes) = omega (arith, c.loop-at-test.false, c.loop-at.invariant.low, c.loop-at.invariant.high, c.min-most.ensures) in
    c.min-most.ensures ∙ sym most ∙ sym (same_all at text bytes c.loop-at.invariant.low c.loop-at.invariant.high (one_ends (length text) (length bytes) at most) c.loop-at.invariant.same)
