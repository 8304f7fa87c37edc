use Rattle.std.proofs.Common.{◌≡◌, ◌-◌, ◌+◌, ℕ, ap, ◌∙◌, arith}
use Rattle.std.proofs.lemmas.Result.{err_from_is_err_and}
use Rattle.cipher_files.specs.SecretFile.{bits_at}
use Rattle.cipher_files.proofs.SecretTexts.{bits_begin, bits_go_on, bits_end, bits_are_done}
use Rattle.cipher_files.proofs.secret.bits_at.Goals as goal

pub loop-i-init : goal.loop-i-init
loop-i-init c =
    let place : ℕ = c.args.place in
    let at : place + 0 ≡ place = omega arith in
    let left : c.args.count - 0 ≡ c.args.count = omega arith in
    rw c.in_ok-bits.ensures.items (bits_begin (bits_at c.args.bytes.now (place + 0) (c.args.count - 0)) ∙ ap (λ (p : ℕ). bits_at c.args.bytes.now p (c.args.count - 0)) at ∙ ap (bits_at c.args.bytes.now place) left)

pub returns-in_err-bit_at : goal.returns-in_err-bit_at
returns-in_err-bit_at c =
    let p = err_from_is_err_and c.from_residual-in_err-bit_at.result c.from_residual-in_err-bit_at.ensures.1 in
    rw (p.1, p.2) (bits_end c.in_err-bit_at.field-0.0 c.loop-i.bits.items c.args.bytes.now c.args.place c.args.count c.loop-i.i (bits_at c.args.bytes.now c.args.place c.args.count) c.loop-i-test.true c.in_err-bit_at.ensures c.loop-i.invariant)

pub loop-i-preserved : goal.loop-i-preserved
loop-i-preserved c =
    rw c.in_ok-push.ensures.items (bits_go_on c.loop-i.bits.items c.args.bytes.now c.args.place c.args.count c.loop-i.i c.in_ok-bit_at.field-0 (bits_at c.args.bytes.now c.args.place c.args.count) c.loop-i-test.true c.in_ok-bit_at.ensures c.loop-i.invariant)

pub returns : goal.returns
returns c = bits_are_done c.loop-i.bits.items c.args.bytes.now c.args.place c.args.count c.loop-i.i (bits_at c.args.bytes.now c.args.place c.args.count) c.loop-i-test.false c.loop-i.invariant
