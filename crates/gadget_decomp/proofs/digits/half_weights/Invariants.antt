use Rattle.std.proofs.Common.{◌≡◌, ◌-◌, ◌*◌, ◌^◌, map}
use Rattle.std.specs.List.{sum, range_with_len}
use Rattle.gadget_decomp.proofs.digits.half_weights.Given as goal

-- the halves of the weights so far
abbrev pub invariant-loop-t : goal.invariant-loop-t
invariant-loop-t l = l.sum ≡ sum (map (λ t. 2 ^ (63 - l.base * t)) (range_with_len 0 l.t))
