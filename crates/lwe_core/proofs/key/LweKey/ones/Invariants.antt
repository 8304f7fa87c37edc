use Rattle.std.proofs.Common.{◌≡◌, ◌≤◌, take}
use Rattle.std.specs.List.{count_by}
use Rattle.lwe_core.proofs.key.LweKey.ones.Given as goal

-- the ones so far are counted
abbrev pub invariant-loop-bit : goal.invariant-loop-bit
invariant-loop-bit g l = (l.count ≡ count_by (λ bit. bit) (take l.bit-index l.bit-items)) × (l.count ≤ l.bit-index)
