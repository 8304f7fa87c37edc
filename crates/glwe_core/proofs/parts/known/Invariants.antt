use Rattle.std.proofs.Common.{◌<◌, ℕ, [], get_or, All}
use Rattle.word_ring.specs.Words.{IsWord}
use Rattle.glwe_core.proofs.parts.known.Given as goal

-- the parts below the index are words
abbrev pub invariant-loop-i : goal.invariant-loop-i
invariant-loop-i l = (k : ℕ) → k < l.i → All IsWord (get_or l.parts k [])
