use Rattle.std.proofs.Common.{arith, ◌∙◌}
use Rattle.blind_rotate.proofs.BootRowPlaces.{no_ggsw}
use Rattle.blind_rotate.proofs.Steps.{rotated_more}
use Rattle.blind_rotate.proofs.bootstrap.rotate_blindly.Goals as goal

pub loop-i-preserved : goal.loop-i-preserved
loop-i-preserved c = record {
  done = cc (rotated_more c.args.log_n c.args.acc.now c.args.ggsws.now c.args.words.now c.loop-i.i no_ggsw (omega arith) (omega arith));
  shape = c.step.ensures.shape ∙ c.loop-i.invariant.shape;
  turned = c.step.ensures.turned_stays ∙ c.loop-i.invariant.turned;
  room = c.step.ensures.room_stays ∙ c.loop-i.invariant.room;
}
