use Rattle.std.proofs.Common.{◌≡◌, ◌+◌, ◌*◌, ◌^◌, length}
use Rattle.seed_stream.specs.Draws.{stream_key, stream_at}
use Rattle.glwe_core.specs.Glwe.{lengths_of}
use Rattle.blind_rotate.specs.BootKey.{glwe_shape, shape_lengths}
use Rattle.key_gen.specs.Seeds.{boot_label, key_numbers, drawn_boot_row}
use Rattle.key_gen.proofs.BootPlaces.{AreBootRows}
use Rattle.key_gen.proofs.boot.make_boot_key.Given as goal

-- the first r rows are drawn
abbrev pub invariant-loop-r : goal.invariant-loop-r
invariant-loop-r l = record {
  rows : AreBootRows (drawn_boot_row (stream_key l.seed boot_label) (key_numbers l.params) l.secret.big l.secret.small) (key_numbers l.params) (length l.secret.small) l.r l.key;
  row : lengths_of l.row ≡ shape_lengths (glwe_shape l.params.glwe.k l.params.glwe.log_n);
  message : length l.message ≡ 2 ^ l.params.glwe.log_n;
  errors : length l.errors ≡ 2 ^ l.params.glwe.log_n;
  scratch : l.scratch ≡ l.params.glwe.log_n;
  stream : l.stream ≡ stream_at (stream_key l.seed boot_label) (l.r * ((l.params.glwe.k + 1) * 2 ^ l.params.glwe.log_n));
}
