use Rattle.std.proofs.Common.{◌≡◌, ◌+◌, length}
use Rattle.circuit_run.proofs.tests.drawn.Given as goal

-- the ciphertext keeps its length
abbrev pub invariant-loop-at : goal.invariant-loop-at
invariant-loop-at l = length l.c ≡ l.dim + 1
