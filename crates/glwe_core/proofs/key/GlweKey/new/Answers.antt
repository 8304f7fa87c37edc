use Rattle.std.proofs.Common.{◌^◌, length, ap, arith}
use Rattle.glwe_core.proofs.KeyLoops.{HasTaken_more, piece_fits}
use Rattle.glwe_core.proofs.key.GlweKey.new.Goals as goal

pub loop-j-preserved : goal.loop-j-preserved
loop-j-preserved c =
    let n = 2 ^ c.args.log_n in
    let flat = c.args.flat.now in
    let room = piece_fits n c.args.k flat c.loop-j._j c.loop-j.at c.loop-j.polys.items c.loop-j.invariant c.loop-j-test.true c.requires.length in
    HasTaken_more n flat c.loop-j._j c.loop-j.at (length c.coeffs.result.now) c.loop-j.polys.items c.push.new.self.items c.in_ok-poly.poly c.loop-j.invariant room c.in_ok-poly.ensures (ap length c.coeffs.ensures) c.in_ok-push.ensures.items
