use Rattle.std.proofs.Common.{◌≡◌, ◌^◌, length}
use Rattle.negacyclic.proofs.tests.drawn.Given as goal

-- the polynomial keeps its length, which ends the loop
abbrev pub invariant-loop-i : goal.invariant-loop-i
invariant-loop-i l = (length l.poly ≡ 2 ^ l.log_n) × (l.i-end ≡ length l.poly)
