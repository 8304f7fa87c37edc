use Rattle.std.proofs.Common.{◌≡◌, length}
use Rattle.blind_rotate.specs.BootKey.{glwe_shape}
use Rattle.blind_rotate.proofs.tests.boot_key.Given as goal

-- the key keeps its shape
abbrev pub invariant-loop-place : goal.invariant-loop-place
invariant-loop-place l = record { shape : l.key.shape ≡ glwe_shape 1 4; level : l.key.level ≡ 4; number : length l.key.ggsws ≡ 8 }
