use Rattle.std.proofs.Common.{◌≡◌, ◌+◌, ◌*◌, length}
use Rattle.seed_stream.specs.Draws.{stream_key, stream_at}
use Rattle.key_gen.specs.Seeds.{drawn_switch_row, switch_label}
use Rattle.key_gen.proofs.Places.{AreWritten}
use Rattle.key_gen.proofs.switch.make_switch_key.Given as goal

abbrev pub invariant-loop-r : goal.invariant-loop-r
invariant-loop-r l =
    let key = stream_key l.seed switch_label in
    let digits = l.params.switch in
    AreWritten (drawn_switch_row key digits.base digits.level l.params.lwe.error l.secret.big l.secret.small) (length l.secret.big) (length l.secret.small) digits.base digits.level l.r l.key l.row
    × (l.stream ≡ stream_at key (l.r * (length l.secret.small + 1)))
