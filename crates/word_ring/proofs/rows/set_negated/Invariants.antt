use Rattle.std.proofs.Common.{◌≡◌, ◌<◌, ℕ, get_or}
use Rattle.word_ring.specs.Words.{word_negation}
use Rattle.word_ring.proofs.rows.set_negated.Given as goal

-- the words below the index are done
abbrev pub invariant-loop-i : goal.invariant-loop-i
invariant-loop-i l = (k : ℕ) → k < l.i → get_or l.row k 0 ≡ word_negation (get_or l.other k 0)
