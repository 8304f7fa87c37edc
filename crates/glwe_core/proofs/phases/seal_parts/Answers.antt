use Rattle.std.proofs.Common.{map, length, get_or, refl}
use Rattle.word_ring.specs.Rows.{row_sum}
use Rattle.word_ring.specs.Signed.{word_of}
use Rattle.glwe_core.proofs.PhaseLoops.{parts_made}
use Rattle.glwe_core.proofs.phases.seal_parts.Goals as goal

pub returns : goal.returns
returns c =
    let front = c.split_at_mut-mask.result.0.now in
    let back = c.split_at_mut-mask.result.1.now in
    let phase = row_sum c.args.message.now (map word_of c.args.errors.now) in
    let made = parts_made (length c.args.message.now) _ c.args.key.now c.args.parts.now front back phase (get_or back 0 c.index-body-0.result) c.seal_body.new.body c.index-body-0.result c.requires.fits refl c.split_at_mut-mask.ensures.front c.split_at_mut-mask.ensures.back refl c.seal_body.ensures.body c.seal_body.ensures.length in
    record { parts = made.0; shape = made.1; room_stays = c.seal_body.ensures.room_stays }
