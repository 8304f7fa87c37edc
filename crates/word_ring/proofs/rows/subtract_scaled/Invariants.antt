use Rattle.std.proofs.Common.{◌≡◌, ◌<◌, ◌≤◌, ℕ, get_or, ◌*◌}
use Rattle.word_ring.specs.Words.{word_difference}
use Rattle.word_ring.proofs.rows.subtract_scaled.Given as goal

-- the words below the index are done, and the rest stand as they were
abbrev pub invariant-loop-i : goal.invariant-loop-i
invariant-loop-i l = record {
  done : (k : ℕ) → k < l.i → get_or l.row k 0 ≡ word_difference (get_or l.fn.row k 0) (l.factor * get_or l.other k 0);
  rest : (k : ℕ) → l.i ≤ k → get_or l.row k 0 ≡ get_or l.fn.row k 0;
}
