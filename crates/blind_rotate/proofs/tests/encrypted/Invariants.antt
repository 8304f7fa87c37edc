use Rattle.std.proofs.Common.{◌≡◌, length}
use Rattle.blind_rotate.proofs.tests.encrypted.Given as goal

-- the ciphertext keeps its length
abbrev pub invariant-loop-at : goal.invariant-loop-at
invariant-loop-at l = length l.c ≡ 9
