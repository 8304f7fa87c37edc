use Rattle.std.proofs.Common.{◌≡◌, length, take}
use Rattle.sealed_files.specs.FrameReading.{words_at}
use Rattle.cipher_files.proofs.rows.read_row.Given as goal

-- the words before the place are read
abbrev pub invariant-loop-i : goal.invariant-loop-i
invariant-loop-i g l = record {
  taken : take l.i l.row ≡ words_at l.bytes l.place l.i;
  long : length l.row ≡ length l.initial.row;
}
