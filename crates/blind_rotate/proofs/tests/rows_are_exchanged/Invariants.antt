use Rattle.std.proofs.Common.{◌≡◌, length}
use Rattle.blind_rotate.specs.BootKey.{glwe_shape}
use Rattle.blind_rotate.proofs.tests.rows_are_exchanged.Given as goal

-- the key keeps its shape
abbrev pub invariant-loop-place : goal.invariant-loop-place
invariant-loop-place g l = record { shape : l.key.shape ≡ glwe_shape 1 1; level : l.key.level ≡ 3; number : length l.key.ggsws ≡ 3 }
