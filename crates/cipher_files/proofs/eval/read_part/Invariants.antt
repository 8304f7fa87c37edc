use Rattle.std.proofs.Common.{◌≡◌, [], take, set, get_or}
use Rattle.glwe_core.specs.Glwe.{lengths_of}
use Rattle.sealed_files.specs.FrameReading.{words_at}
use Rattle.cipher_files.proofs.eval.read_part.Given as goal

-- the words before the place are read, and nothing else is changed
abbrev pub invariant-loop-i : goal.invariant-loop-i
invariant-loop-i l = record {
  words : take l.i (get_or l.row l.j []) ≡ words_at l.bytes l.place l.i;
  others : l.row ≡ set l.initial.row l.j (get_or l.row l.j []);
  shape : lengths_of l.row ≡ lengths_of l.initial.row;
}
