use Rattle.std.proofs.Common.{◌≡◌, length}
use Rattle.blind_rotate.specs.BootKey.{glwe_shape}
use Rattle.blind_rotate.proofs.tests.every_value_with_the_greatest_errors.Given as goal

-- what a bootstrap works on keeps its size
abbrev pub invariant-loop-v : goal.invariant-loop-v
invariant-loop-v g l = record { room : l.room ≡ glwe_shape 1 4; out : length l.out ≡ 17 }

-- the same
abbrev pub invariant-loop-error : goal.invariant-loop-error
invariant-loop-error g l = record { room : l.room ≡ glwe_shape 1 4; out : length l.out ≡ 17 }
