use Rattle.std.proofs.Common.{◌≡◌, ◌+◌, ◌<◌, [], length, get_or, ap, arith, ◌∙◌}
use Rattle.seed_stream.specs.Draws.{draw, stream_at, next_draw, after_draw}
use Rattle.key_gen.proofs.GlweMasks.{word_more, whole_drawn, part_long, number_of_parts}
use Rattle.key_gen.proofs.glwe_rows.draw_polynomial.Goals as goal

pub loop-place-preserved : goal.loop-place-preserved
loop-place-preserved c =
    let key = c.args.stream.now.key in
    let start = c.args.stream.now.place in
    let place = c.loop-place.place in
    let j = c.args.j in
    let parts = c.loop-place.c in
    let k = c.args.k in
    let n = c.args.n in
    let inside : j < k + 1 = omega (arith, c.requires.part) in
    let there : j < length parts = omega (arith, inside, number_of_parts (k + 1) n parts (c.loop-place.invariant.shape ∙ c.requires.shape)) in
    let before : place < length (get_or parts j []) = omega (arith, c.loop-place-test.true, part_long (k + 1) n j parts [] (c.loop-place.invariant.shape ∙ c.requires.shape) inside) in
    let value : c.next_u64.result ≡ draw key (start + place) = c.next_u64.ensures.value ∙ ap next_draw c.loop-place.invariant.stream ∙ c.laws.ensures.value key (start + place) in
    let more = word_more (draw key) start j place c.next_u64.result c.args.c.now parts (record { drawn = c.loop-place.invariant.drawn; others = c.loop-place.invariant.others }) there before value in
    record {
      drawn = rw c.set.ensures.parts more.drawn;
      others = rw c.set.ensures.parts more.others;
      shape = c.set.ensures.shape ∙ c.loop-place.invariant.shape;
      stream = c.next_u64.ensures.next ∙ ap after_draw c.loop-place.invariant.stream ∙ c.laws.ensures.after key (start + place) ∙ ap (stream_at key) (omega arith);
    }

pub returns-clause-parts : goal.returns-clause-parts
returns-clause-parts c =
    let key = c.args.stream.now.key in
    let n = c.args.n in
    let parts = c.loop-place.c in
    whole_drawn (draw key) c.args.stream.now.place c.args.j n c.loop-place.place c.args.c.now parts (record { drawn = c.loop-place.invariant.drawn; others = c.loop-place.invariant.others })
    (part_long (c.args.k + 1) n c.args.j parts [] (c.loop-place.invariant.shape ∙ c.requires.shape) (omega (arith, c.requires.part))) (omega (arith, c.loop-place-test.false, c.loop-place.auto.place-end))
