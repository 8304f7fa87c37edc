use Rattle.std.proofs.Common.{length, ap, arith}
use Rattle.key_gen.proofs.Factors.{minus_bits_are}
use Rattle.key_gen.proofs.messages.set_minus_bits.Goals as goal

pub returns-clause-bits : goal.returns-clause-bits
returns-clause-bits c =
    let n = length c.args.out.now in
    minus_bits_are n c.args.at c.args.key.now c.loop-i.out c.requires c.loop-i.invariant.long (λ m below. c.loop-i.invariant.done m (omega (arith, below, c.loop-i-test.false, ap length c.coeffs-i-end.ensures)))
