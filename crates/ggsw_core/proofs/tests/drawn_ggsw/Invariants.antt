use Rattle.std.proofs.Common.{◌≡◌, ◌+◌, ◌^◌, replicate}
use Rattle.ggsw_core.specs.Ggsw.{row_lengths}
use Rattle.ggsw_core.proofs.tests.drawn_ggsw.Given as goal

-- the rows keep their shape
abbrev pub invariant-loop-i : goal.invariant-loop-i
invariant-loop-i l = record {
  lengths : row_lengths l.g ≡ replicate (l.k + 1) (2 ^ l.log_n);
  level : l.g.level ≡ l.level;
}
