use Rattle.std.proofs.Common.{◌≡◌, ◌<◌, ℕ, get_or}
use Rattle.word_ring.specs.Words.{word_sum}
use Rattle.negacyclic.proofs.karatsuba.set_sum.Given as goal

-- the words below the index are done
abbrev pub invariant-loop-i : goal.invariant-loop-i
invariant-loop-i l = (k : ℕ) → k < l.i → get_or l.into k 0 ≡ word_sum (get_or l.a k 0) (get_or l.b k 0)
