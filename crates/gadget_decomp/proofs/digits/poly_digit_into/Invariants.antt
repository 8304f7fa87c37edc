use Rattle.std.proofs.Common.{◌≡◌, ℕ, ◌<◌, get_or, length}
use Rattle.word_ring.specs.Signed.{word_of}
use Rattle.gadget_decomp.specs.Decomposition.{digit_of}
use Rattle.gadget_decomp.proofs.digits.poly_digit_into.Given as goal

-- the coefficients so far are digits
abbrev pub invariant-loop-at : goal.invariant-loop-at
invariant-loop-at l = record {
  long : length l.out ≡ length l.source;
  each : (k : ℕ) → k < l.at → get_or l.out k 0 ≡ word_of (digit_of (get_or l.source k 0) l.base l.level l.t);
}
