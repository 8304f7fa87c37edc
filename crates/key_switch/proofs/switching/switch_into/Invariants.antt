use Rattle.std.proofs.Common.{◌≡◌, ◌+◌, ◌*◌, length, take, get_or}
use Rattle.word_ring.specs.Rows.{row_difference, sum_of_rows, scaled_rows}
use Rattle.lwe_core.specs.Phase.{trivial}
use Rattle.key_switch.specs.Switching.{mask_digits}
use Rattle.key_switch.proofs.switching.switch_into.Given as goal

-- the rows of the mask words so far, each times its digit, are subtracted
abbrev pub invariant-loop-i : goal.invariant-loop-i
invariant-loop-i l = record {
  places : length l.digits ≡ l.key.level;
  long : length l.out ≡ l.key.small_dim + 1;
  words : l.out ≡ row_difference (trivial l.key.small_dim (get_or l.c l.key.big_dim 0)) (sum_of_rows (l.key.small_dim + 1) (scaled_rows (mask_digits l.key.base l.key.level (take l.i l.c)) (take (l.i * l.key.level) l.key.rows)));
}
