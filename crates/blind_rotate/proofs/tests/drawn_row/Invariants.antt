use Rattle.std.proofs.Common.{◌≡◌, ◌^◌, replicate}
use Rattle.glwe_core.specs.Glwe.{lengths_of}
use Rattle.blind_rotate.proofs.tests.drawn_row.Given as goal

-- the lengths stay
abbrev pub invariant-loop-at : goal.invariant-loop-at
invariant-loop-at l = lengths_of l.c ≡ replicate 2 (2 ^ l.log_n)
