use Rattle.std.proofs.Common.{◌≡◌, ◌+◌, ◌^◌, ◌<◌, ℕ, false, get_or, length}
use Rattle.lwe_core.specs.Secret.{bit_word}
use Rattle.glwe_core.proofs.key.poly_at.Given as goal

-- the coefficients below the index are bits of the flat key
abbrev pub invariant-loop-i : goal.invariant-loop-i
invariant-loop-i l = record {
  done : (k : ℕ) → k < l.i → get_or l.poly k 0 ≡ bit_word (get_or l.flat (l.at + k) false);
  long : length l.poly ≡ 2 ^ l.log_n;
}
