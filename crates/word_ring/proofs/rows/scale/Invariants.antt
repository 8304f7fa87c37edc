use Rattle.std.proofs.Common.{◌≡◌, ◌<◌, ◌≤◌, ℕ, get_or}
use Rattle.word_ring.specs.Words.{word_product}
use Rattle.word_ring.proofs.rows.scale.Given as goal

-- the words below the index are done, and the rest stand as they were
abbrev pub invariant-loop-word : goal.invariant-loop-word
invariant-loop-word l = record {
  done : (k : ℕ) → k < l.word-index → get_or l.row k 0 ≡ word_product l.factor (get_or l.fn.row k 0);
  rest : (k : ℕ) → l.word-index ≤ k → get_or l.row k 0 ≡ get_or l.fn.row k 0;
}
