use Rattle.std.proofs.Common.{◌≡◌, ◌<◌, ◌≤◌, ℕ, get_or, length, map}
use Rattle.word_ring.specs.Words.{word_sum}
use Rattle.word_ring.specs.Signed.{word_of}
use Rattle.glwe_core.proofs.phases.add_errors.Given as goal

-- the coefficients below the index are done, and the rest stand as they were
abbrev pub invariant-loop-i : goal.invariant-loop-i
invariant-loop-i l = record {
  done : (k : ℕ) → k < l.i → get_or l.poly k 0 ≡ word_sum (get_or l.fn.poly k 0) (get_or (map word_of l.errors) k 0);
  rest : (k : ℕ) → l.i ≤ k → get_or l.poly k 0 ≡ get_or l.fn.poly k 0;
  long : length l.poly ≡ length l.fn.poly;
}
