use Rattle.std.proofs.Common.{◌≡◌, replicate}
use Rattle.ggsw_core.specs.Ggsw.{row_lengths}
use Rattle.ggsw_core.proofs.tests.one_of_two.Given as goal

-- the rows keep their shape
abbrev pub invariant-loop-j : goal.invariant-loop-j
invariant-loop-j l = record {
  lengths : row_lengths l.g ≡ replicate 2 2;
  level : l.g.level ≡ 1;
}
