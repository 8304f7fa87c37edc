use Rattle.std.proofs.Common.{◌≡◌, ◌+◌, [], take, set, get_or}
use Rattle.seed_stream.specs.Draws.{stream_at}
use Rattle.glwe_core.specs.Glwe.{lengths_of}
use Rattle.key_gen.specs.Seeds.{draws_at}
use Rattle.key_gen.proofs.glwe_rows.draw_polynomial.Given as goal

-- the words before the place are drawn, and nothing else is changed
abbrev pub invariant-loop-place : goal.invariant-loop-place
invariant-loop-place l = record {
  drawn : take l.place (get_or l.c l.j []) ≡ draws_at l.initial.stream.key l.initial.stream.place l.place;
  others : l.c ≡ set l.initial.c l.j (get_or l.c l.j []);
  shape : lengths_of l.c ≡ lengths_of l.initial.c;
  stream : l.stream ≡ stream_at l.initial.stream.key (l.initial.stream.place + l.place);
}
