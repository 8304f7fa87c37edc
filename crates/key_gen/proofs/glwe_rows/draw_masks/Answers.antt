use Rattle.std.proofs.Common.{◌≡◌, ℕ, ◌+◌, ◌*◌, ◌<◌, length, ap, arith, ◌∙◌}
use Rattle.seed_stream.specs.Draws.{KeyStream, stream_at}
use Rattle.key_gen.specs.Seeds.{draws_at}
use Rattle.key_gen.proofs.Places.{written_more}
use Rattle.key_gen.proofs.Streams.{draws_turned, stream_turned}
use Rattle.key_gen.proofs.GlweMasks.{number_of_parts}
use Rattle.key_gen.proofs.glwe_rows.draw_masks.Goals as goal

pub loop-j-preserved : goal.loop-j-preserved
loop-j-preserved c =
    let key = c.args.stream.now.key in
    let start = c.args.stream.now.place in
    let k = c.args.k in
    let n = c.args.n in
    let j = c.loop-j.j in
    let parts = c.loop-j.c in
    let there : j < length parts = omega (arith, c.loop-j-test.true, number_of_parts (k + 1) n parts (c.loop-j.invariant.shape ∙ c.requires.shape)) in
    let drawn : draws_at c.loop-j.stream.key c.loop-j.stream.place n ≡ draws_at key (start + (0 + j) * n) n =
    ap (λ (s : KeyStream). draws_at s.key s.place n) c.loop-j.invariant.stream ∙ draws_turned c.laws.ensures key (start + j * n) n ∙ ap (λ (i : ℕ). draws_at key (start + i * n) n) (omega arith) in
    record {
      drawn = rw c.draw_polynomial.ensures.parts (written_more (λ i. draws_at key (start + i * n) n) parts 0 j (draws_at c.loop-j.stream.key c.loop-j.stream.place n) there c.loop-j.invariant.drawn drawn);
      shape = c.draw_polynomial.ensures.shape ∙ c.loop-j.invariant.shape;
      stream =
          c.draw_polynomial.ensures.stream ∙ ap (λ (s : KeyStream). stream_at s.key (s.place + n)) c.loop-j.invariant.stream ∙ stream_turned key (start + j * n) n ∙ ap (stream_at key) (omega arith);
    }
