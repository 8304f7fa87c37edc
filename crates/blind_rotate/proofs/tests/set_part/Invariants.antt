use Rattle.std.proofs.Common.{◌≡◌}
use Rattle.glwe_core.specs.Glwe.{lengths_of}
use Rattle.blind_rotate.proofs.tests.set_part.Given as goal

-- the lengths stay
abbrev pub invariant-loop-place : goal.invariant-loop-place
invariant-loop-place l = lengths_of l.c ≡ lengths_of l.fn.c
