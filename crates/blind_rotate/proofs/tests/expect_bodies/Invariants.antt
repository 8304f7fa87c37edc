use Rattle.std.proofs.Common.{◌≡◌, length}
use Rattle.blind_rotate.specs.BootKey.{glwe_shape}
use Rattle.blind_rotate.proofs.tests.expect_bodies.Given as goal

-- what a bootstrap works on keeps its size
abbrev pub invariant-loop-body : goal.invariant-loop-body
invariant-loop-body g l = record { room : l.room ≡ glwe_shape 1 8; c : length l.c ≡ 9; out : length l.out ≡ 257 }
