use Rattle.std.proofs.Common.{◌≡◌, ◌+◌, replicate}
use Rattle.glwe_core.specs.Glwe.{lengths_of}
use Rattle.glwe_core.proofs.tests.ciphertext.Given as goal

-- the lengths stay
abbrev pub invariant-loop-at : goal.invariant-loop-at
invariant-loop-at l = lengths_of l.c ≡ replicate (l.k + 1) 2
