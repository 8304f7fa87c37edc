use Rattle.std.proofs.Common.{◌≡◌, ◌+◌, ◌<◌, ◌≤◌, ℕ, get_or, length}
use Rattle.glwe_core.proofs.ExtractionLoops.{mask_word}
use Rattle.glwe_core.proofs.extraction.extract_part.Given as goal

-- the words below the index are set, and the others stand as they were
abbrev pub invariant-loop-i : goal.invariant-loop-i
invariant-loop-i l = record {
  done : (k : ℕ) → k < l.i → get_or l.out (l.at + k) 0 ≡ mask_word l.words k;
  before : (k : ℕ) → k < l.at → get_or l.out k 0 ≡ get_or l.fn.out k 0;
  after : (k : ℕ) → l.at + l.i ≤ k → get_or l.out k 0 ≡ get_or l.fn.out k 0;
  long : length l.out ≡ length l.fn.out;
}
