use Rattle.std.proofs.Common.{◌≡◌, ◌++◌, ◌<◌, length, map, ap, ◌∙◌, arith}
use Rattle.glwe_core.specs.Glwe.{words_bits}
use Rattle.glwe_core.proofs.KeyLoops.{flat_more}
use Rattle.glwe_core.proofs.key.flat_key.Goals as goal

pub loop-j-preserved : goal.loop-j-preserved
loop-j-preserved c =
    let polys = c.key.inside.polys.items in
    let same : c.args.key.now ≡ map words_bits polys = cc in
    let inside : c.loop-j.j < length polys = omega (arith, c.loop-j-test.true, c.len-j-end.ensures, c.key.inside.polys.ok.0) in
    flat_more polys c.args.key.now c.loop-j.j c.index.result.now c.push_bits.new.bits.items c.loop-j.bits.items same inside c.index.ensures c.loop-j.invariant
    (c.in_ok-push_bits.ensures ∙ ap (λ words. c.loop-j.bits.items ++ words_bits words) c.coeffs.ensures)
