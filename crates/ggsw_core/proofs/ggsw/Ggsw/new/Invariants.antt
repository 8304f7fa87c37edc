use Rattle.std.proofs.Common.{◌≡◌, ◌+◌, ◌^◌, replicate}
use Rattle.ggsw_core.proofs.ggsw.Ggsw.new.Given as goal

-- so many rows of zeros
abbrev pub invariant-loop-row : goal.invariant-loop-row
invariant-loop-row l = l.rows.items ≡ replicate l._row (replicate (l.k + 1) (replicate (2 ^ l.log_n) 0))
