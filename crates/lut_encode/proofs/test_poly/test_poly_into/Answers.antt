use Rattle.std.proofs.Common.{◌<◌, length, arith, ◌∙◌}
use Rattle.std.proofs.lemmas.List.{length-set}
use Rattle.lut_encode.specs.TestPolynomial.{test_coefficient}
use Rattle.lut_encode.proofs.Bits.{one_more}
use Rattle.lut_encode.proofs.test_poly.test_poly_into.Goals as goal

pub loop-j-preserved : goal.loop-j-preserved
loop-j-preserved c =
    let n = length c.coeffs-n.result.now in
    let out = c.loop-j.out in
    let inside : c.loop-j.j < length out = omega (arith, c.loop-j.invariant.number, c.loop-j-test.true) in
    record {
      number = rw c.set.ensures (length-set out c.loop-j.j c.test_coefficient.result ∙ c.loop-j.invariant.number);
      done = rw c.set.ensures (one_more (test_coefficient c.args.entries.now n c.args.width) out c.loop-j.j c.test_coefficient.result inside c.test_coefficient.ensures c.loop-j.invariant.done);
    }
