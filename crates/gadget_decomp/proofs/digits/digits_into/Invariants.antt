use Rattle.std.proofs.Common.{◌≡◌, ℕ, ◌+◌, ◌<◌, get_or}
use Rattle.std.specs.Prelude.{pos}
use Rattle.gadget_decomp.specs.Decomposition.{digit_of}
use Rattle.gadget_decomp.proofs.digits.digits_into.Given as goal

-- the first t digits stand in their places
abbrev pub invariant-loop-t : goal.invariant-loop-t
invariant-loop-t l = (k : ℕ) → k < l.t → get_or l.out k (pos 0) ≡ digit_of l.word l.base l.level (k + 1)
