use Rattle.std.proofs.Common.{◌≡◌, ◌+◌, length, take}
use Rattle.seed_stream.specs.Draws.{stream_at}
use Rattle.key_gen.specs.Seeds.{draws_at}
use Rattle.key_gen.proofs.rows.draw_mask.Given as goal

abbrev pub invariant-loop-at : goal.invariant-loop-at
invariant-loop-at g l = (take l.at l.c ≡ draws_at l.initial.stream.key l.initial.stream.place l.at) × (length l.c ≡ length l.initial.c) × (l.stream ≡ stream_at l.initial.stream.key (l.initial.stream.place + l.at))
