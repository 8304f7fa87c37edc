use Rattle.std.proofs.Common.{◌≡◌, length, take}
use Rattle.word_ring.specs.Rows.{sum_of_rows}
use Rattle.glwe_core.specs.Glwe.{mask_products}
use Rattle.glwe_core.proofs.phases.mask_sum_into.Given as goal

-- the first products are added
abbrev pub invariant-loop-j : goal.invariant-loop-j
invariant-loop-j l = record {
  sum : l.out ≡ sum_of_rows (length l.fn.out) (take l.j (mask_products l.key l.mask));
  long : length l.out ≡ length l.fn.out;
  room : l.scratch ≡ l.fn.scratch;
}
