use Rattle.std.proofs.Common.{◌≡◌, ◌<◌, [], length, ap, sym, ◌∙◌, arith}
use Rattle.std.proofs.lemmas.List.{length-map, get_or_default}
use Rattle.lwe_core.specs.Secret.{bit_words}
use Rattle.glwe_core.proofs.PhaseLoops.{poly_is_bits, poly_length, product_added, added_length, all_added}
use Rattle.glwe_core.proofs.phases.mask_sum_into.Goals as goal

pub mul_add-requires-clause-second : goal.mul_add-requires-clause-second
mul_add-requires-clause-second c =
    let key = c.args.key.now in
    let polys = c.polys-polys.result.now in
    let inside : c.loop-j.j < length key = omega (arith, c.loop-j-test.true, ap length c.polys-polys.ensures, length-map key bit_words) in
    poly_length (length c.args.out.now) key polys c.loop-j.j c.index-polys-j.result c.polys-polys.ensures inside c.index-polys-j.is c.requires.bits ∙ sym c.loop-j.invariant.long

pub loop-j-preserved : goal.loop-j-preserved
loop-j-preserved c =
    let n = length c.args.out.now in
    let key = c.args.key.now in
    let mask = c.args.mask.now in
    let j = c.loop-j.j in
    let part = c.index-mask-j.result in
    let inside : j < length key = omega (arith, c.loop-j-test.true, ap length c.polys-polys.ensures, length-map key bit_words) in
    let there : j < length mask = omega (arith, c.requires.number, inside) in
    let poly_is = poly_is_bits key c.polys-polys.result.now j c.index-polys-j.result c.polys-polys.ensures inside c.index-polys-j.is in
    record {
      sum = product_added n key mask j part c.index-polys-j.result c.loop-j.out c.mul_add.new.into c.requires.number inside c.index-mask-j.is poly_is c.loop-j.invariant.sum c.mul_add.ensures.sum;
      long = added_length n part c.index-polys-j.result c.loop-j.out c.mul_add.new.into c.loop-j.invariant.long (ap length (c.index-mask-j.is ∙ get_or_default mask j part [] there) ∙ c.requires.lengths j [] there) c.mul_add.ensures.sum;
      room = c.mul_add.ensures.room_stays ∙ c.loop-j.invariant.room;
    }

pub returns-clause-sum : goal.returns-clause-sum
returns-clause-sum c =
    let key = c.args.key.now in
    all_added (length c.args.out.now) key c.args.mask.now c.loop-j.j c.loop-j.out c.requires.number (omega (arith, c.loop-j-test.false, ap length c.polys-polys.ensures, length-map key bit_words)) c.loop-j.invariant.sum
