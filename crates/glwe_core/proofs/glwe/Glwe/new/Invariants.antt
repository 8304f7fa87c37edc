use Rattle.std.proofs.Common.{◌≡◌, ◌^◌, replicate}
use Rattle.glwe_core.proofs.glwe.Glwe.new.Given as goal

-- so many parts of zeros
abbrev pub invariant-loop-part : goal.invariant-loop-part
invariant-loop-part l = l.parts.items ≡ replicate l._part (replicate (2 ^ l.log_n) 0)
