use Rattle.std.proofs.Common.{◌+◌, refl, ap, arith, ◌∙◌}
use Rattle.std.proofs.lemmas.List.{length-set}
use Rattle.seed_stream.specs.Draws.{draw, stream_at, next_draw, after_draw}
use Rattle.key_gen.proofs.Places.{written_more}
use Rattle.key_gen.proofs.rows.draw_mask.Goals as goal

pub loop-at-init : goal.loop-at-init
loop-at-init g c = (refl, refl, c.known.ensures ∙ ap (stream_at c.args.stream.now.key) (omega arith))

pub loop-at-preserved : goal.loop-at-preserved
loop-at-preserved g c =
    let key = c.args.stream.now.key in
    let place = c.args.stream.now.place in
    let at = c.loop-at.at in (
      rw c.set.ensures (written_more (draw key) c.loop-at.c place at c.next_u64.result (omega arith) c.loop-at.invariant.0
          (c.next_u64.ensures.value ∙ ap next_draw c.loop-at.invariant.2 ∙ c.laws.ensures.value key (place + at))),
      rw c.set.ensures (length-set c.loop-at.c at c.next_u64.result ∙ c.loop-at.invariant.1),
      c.next_u64.ensures.next ∙ ap after_draw c.loop-at.invariant.2 ∙ c.laws.ensures.after key (place + at) ∙ ap (stream_at key) (omega arith),
    )
