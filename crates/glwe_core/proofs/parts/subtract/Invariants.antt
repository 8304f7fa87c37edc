use Rattle.std.proofs.Common.{◌≡◌, ◌<◌, ◌≤◌, ℕ, [], get_or}
use Rattle.word_ring.specs.Rows.{row_difference}
use Rattle.glwe_core.proofs.parts.subtract.Given as goal

-- the parts below the index are done, and the rest stand as they were
abbrev pub invariant-loop-i : goal.invariant-loop-i
invariant-loop-i l = record {
  done : (k : ℕ) → k < l.i → get_or l.parts k [] ≡ row_difference (get_or l.fn.parts k []) (get_or l.others k []);
  rest : (k : ℕ) → l.i ≤ k → get_or l.parts k [] ≡ get_or l.fn.parts k [];
}
