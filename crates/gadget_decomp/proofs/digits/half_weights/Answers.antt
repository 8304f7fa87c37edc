use Rattle.std.proofs.Common.{◌≡◌, ◌≤◌, ◌-◌, ◌*◌, ◌%◌, ◌^◌, arith}
use Rattle.std.proofs.lemmas.Nat.{one_shl}
use Rattle.gadget_decomp.proofs.Machine.{place_fits, halves_room, halves_more}
use Rattle.gadget_decomp.proofs.Places.{pow_parts}
use Rattle.gadget_decomp.proofs.digits.half_weights.Goals as goal

pub overflow_add-sum : goal.overflow_add-sum
overflow_add-sum c =
    let n = c.args.base * c.loop-t.t in
    let fits : n ≤ 63 = place_fits c.args.base c.args.level c.loop-t.t c.requires.fits (omega arith) in
    let term : 1 * 2 ^ (63 - n) % 2 ^ 64 ≡ 2 ^ (63 - n) = one_shl (63 - n) 64 (omega arith) in
    let room = halves_room c.args.base c.loop-t.t c.requires.some_bits (omega arith) in
    record { fits = omega (arith, term, room, c.loop-t.invariant, pow_parts (64 - n) (63 - n) 1 (omega arith)) }

pub loop-t-preserved : goal.loop-t-preserved
loop-t-preserved c =
    let n = c.args.base * c.loop-t.t in
    let term : 1 * 2 ^ (63 - n) % 2 ^ 64 ≡ 2 ^ (63 - n) = one_shl (63 - n) 64 (omega arith) in
    omega (arith, term, halves_more c.args.base c.loop-t.t, c.loop-t.invariant)
