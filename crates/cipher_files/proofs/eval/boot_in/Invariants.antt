use Rattle.std.proofs.Common.{◌≡◌}
use Rattle.glwe_core.specs.Glwe.{lengths_of}
use Rattle.blind_rotate.specs.BootKey.{glwe_shape, shape_lengths}
use Rattle.cipher_files.specs.EvalFile.{boot_row_in}
use Rattle.cipher_files.proofs.BootPlaces.{AreBootRows}
use Rattle.cipher_files.proofs.eval.boot_in.Given as goal

-- the first r rows are read
abbrev pub invariant-loop-r : goal.invariant-loop-r
invariant-loop-r l = record {
  rows : AreBootRows (boot_row_in l.params l.bytes) l.params l.params.lwe.n l.r l.key;
  row : lengths_of l.row ≡ shape_lengths (glwe_shape l.params.glwe.k l.params.glwe.log_n);
}
