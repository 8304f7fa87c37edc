use Rattle.std.proofs.Common.{◌≡◌, length, map, take}
use Rattle.word_ring.specs.Rows.{row_difference, sum_of_rows, scaled_rows}
use Rattle.word_ring.specs.Signed.{word_of}
use Rattle.key_switch.proofs.switching.subtract_rows.Given as goal

-- the rows so far, each times its digit, are subtracted
abbrev pub invariant-loop-t : goal.invariant-loop-t
invariant-loop-t l = record {
  long : length l.out ≡ length l.fn.out;
  words : l.out ≡ row_difference l.fn.out (sum_of_rows (length l.fn.out) (scaled_rows (take l.t (map word_of l.digits)) (take l.t l.rows)));
}
