use Rattle.std.proofs.Common.{◌≡◌}
use Rattle.seed_stream.specs.Draws.{stream_at}
use Rattle.key_gen.specs.Seeds.{drawn_bits}
use Rattle.key_gen.proofs.secret.draw_key.Given as goal

abbrev pub invariant-loop : goal.invariant-loop
invariant-loop g l = (l.bits.items ≡ drawn_bits l.fn.stream.key l.dim l.counter) × (l.stream ≡ stream_at l.fn.stream.key l.counter)
