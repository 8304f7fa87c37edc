use Rattle.std.proofs.Common.{◌≡◌, ◌+◌, replicate}
use Rattle.key_switch.proofs.key.SwitchKey.new.Given as goal

-- the rows so far are 0
abbrev pub invariant-loop : goal.invariant-loop
invariant-loop l = l.rows.items ≡ replicate l.counter (replicate (l.small_dim + 1) 0)
