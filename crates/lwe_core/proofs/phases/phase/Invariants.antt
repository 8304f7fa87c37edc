use Rattle.std.proofs.Common.{◌≡◌, length, take, get_or, cond}
use Rattle.std.specs.List.{zip, sum_by}
use Rattle.word_ring.specs.Words.{word_difference}
use Rattle.lwe_core.proofs.phases.phase.Given as goal

-- the mask words so far are taken from the body
abbrev pub invariant-loop-i : goal.invariant-loop-i
invariant-loop-i g l = l.phase ≡ word_difference (get_or l.words (length l.key) 0) (sum_by (λ p. cond p.0 p.1 0) (take l.i (zip l.key l.words)))
