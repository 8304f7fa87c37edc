use Rattle.std.proofs.Common.{◌≡◌, ◌<◌, ◌≤◌, ℕ, get_or}
use Rattle.word_ring.specs.Words.{word_sum, word_difference}
use Rattle.negacyclic.proofs.karatsuba.join.Given as goal

-- the words below the index are done, and the rest stand as they were
abbrev pub invariant-loop-i : goal.invariant-loop-i
invariant-loop-i l = record {
  second_done : (k : ℕ) → k < l.i → get_or l.second k 0 ≡ word_difference (word_sum (word_difference (get_or l.fn.second k 0) (get_or l.fn.third k 0)) (get_or l.mid_front k 0)) (get_or l.first k 0);
  second_rest : (k : ℕ) → l.i ≤ k → get_or l.second k 0 ≡ get_or l.fn.second k 0;
  third_done : (k : ℕ) → k < l.i → get_or l.third k 0 ≡ word_difference (word_difference (get_or l.mid_back k 0) (word_difference (get_or l.fn.second k 0) (get_or l.fn.third k 0))) (get_or l.fourth k 0);
  third_rest : (k : ℕ) → l.i ≤ k → get_or l.third k 0 ≡ get_or l.fn.third k 0;
}
