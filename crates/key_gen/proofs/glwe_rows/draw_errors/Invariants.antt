use Rattle.std.proofs.Common.{◌≡◌, ◌+◌, take}
use Rattle.seed_stream.specs.Draws.{stream_at}
use Rattle.key_gen.specs.Seeds.{errors_at}
use Rattle.key_gen.proofs.glwe_rows.draw_errors.Given as goal

-- the errors before the index are drawn
abbrev pub invariant-loop-at : goal.invariant-loop-at
invariant-loop-at l = record {
  drawn : take l.at l.errors ≡ errors_at l.initial.stream.key l.initial.stream.place l.at l.bound;
  stream : l.stream ≡ stream_at l.initial.stream.key (l.initial.stream.place + l.at);
}
