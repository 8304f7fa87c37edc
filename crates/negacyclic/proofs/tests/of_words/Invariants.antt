use Rattle.std.proofs.Common.{◌≡◌, ◌^◌, length}
use Rattle.negacyclic.proofs.tests.of_words.Given as goal

-- the polynomial keeps its length
abbrev pub invariant-loop-i : goal.invariant-loop-i
invariant-loop-i l = length l.poly ≡ 2 ^ l.log_n
