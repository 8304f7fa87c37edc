use Rattle.std.proofs.Common.{◌≡◌, ◌+◌, ◌*◌, take}
use Rattle.seed_stream.specs.Draws.{stream_at}
use Rattle.glwe_core.specs.Glwe.{lengths_of}
use Rattle.key_gen.specs.Seeds.{masks_at}
use Rattle.key_gen.proofs.glwe_rows.draw_masks.Given as goal

-- the first j polynomials are drawn
abbrev pub invariant-loop-j : goal.invariant-loop-j
invariant-loop-j l = record {
  drawn : take l.j l.c ≡ masks_at l.initial.stream.key l.initial.stream.place l.j l.n;
  shape : lengths_of l.c ≡ lengths_of l.initial.c;
  stream : l.stream ≡ stream_at l.initial.stream.key (l.initial.stream.place + l.j * l.n);
}
