use Rattle.seed_stream.proofs.DrawLemmas.{draw-periodic, after_draw-stream_at, next_draws-stream_at, draw-below, error_of-within}
use Rattle.seed_stream.specs.Draws.{stream_key}
use Rattle.seed_stream.proofs.laws.laws.Goals as goal

pub returns : goal.returns
returns c = record {
  value = draw-periodic;
  after = after_draw-stream_at;
  in_order = next_draws-stream_at;
  from_start = λ seed label n. next_draws-stream_at (stream_key seed label) 0 n;
  word = draw-below;
  within = error_of-within;
}
