use Rattle.std.proofs.Common.{◌≡◌, ℕ, ◌+◌, ◌*◌, ◌/◌, ◌%◌, ◌^◌, length, sym, ap, arith, ◌∙◌}
use Rattle.seed_stream.specs.Draws.{KeyStream, stream_key, stream_at}
use Rattle.key_switch.specs.Key.{SwitchRows, message_of}
use Rattle.key_gen.specs.Seeds.{drawn_row, drawn_switch_row, switch_label}
use Rattle.key_gen.proofs.Fitting.{row_long}
use Rattle.key_gen.proofs.Places.{row_written, place_small}
use Rattle.key_gen.proofs.switch.make_switch_key.Goals as goal

pub swap_row-requires-clause-fits : goal.swap_row-requires-clause-fits
swap_row-requires-clause-fits c =
    let small = c.args.secret.now.small in
    ap length c.draw_row.ensures.words ∙ row_long c.loop-r.stream.key c.loop-r.stream.place small c.weighted_bit-message.result c.args.params.now.lwe.error
    ∙ ap (λ (k : SwitchRows). k.small_dim + 1) (sym c.loop-r.invariant.0.shape)

pub loop-r-preserved : goal.loop-r-preserved
loop-r-preserved c =
    let key = stream_key c.args.seed.now switch_label in
    let digits = c.args.params.now.switch in
    let error = c.args.params.now.lwe.error in
    let big = c.args.secret.now.big in
    let small = c.args.secret.now.small in
    let r = c.loop-r.r in
    let n = length small in
    let place : (r * (n + 1)) % 2 ^ 67 ≡ r * (n + 1) = place_small r n (omega (arith)) (omega (arith, c.requires.dimensions.small_length, c.requires.params.lwe.n_high)) in
    let at : c.loop-r.stream.place ≡ r * (n + 1) = ap (λ (s : KeyStream). s.place) c.loop-r.invariant.1 ∙ place in
    let message : c.weighted_bit-message.result ≡ message_of digits.base big (r / digits.level) (r % digits.level + 1) = cc in
    let words : c.draw_row.new.c ≡ drawn_switch_row key digits.base digits.level error big small r =
    c.draw_row.ensures.words ∙ ap (λ (s : KeyStream). drawn_row s.key c.loop-r.stream.place small c.weighted_bit-message.result error) c.loop-r.invariant.1
    ∙ ap (λ (p : ℕ). drawn_row key p small c.weighted_bit-message.result error) at ∙ ap (λ (m : ℕ). drawn_row key (r * (n + 1)) small m error) message in
    let rows : length big * digits.level ≡ c.dimension.result * digits.level = ap (λ (d : ℕ). d * digits.level) (c.requires.dimensions.big_length ∙ sym c.dimension.ensures.number) in (
      rw c.swap_row.ensures.key (row_written (drawn_switch_row key digits.base digits.level error big small) (length big) n digits.base digits.level r c.loop-r.key c.loop-r.row c.draw_row.new.c c.swap_row.new.row
          c.loop-r.invariant.0 c.known.ensures.long (omega (arith, rows)) words c.swap_row.ensures.row),
      c.draw_row.ensures.stream ∙ ap (λ (s : KeyStream). stream_at s.key (c.loop-r.stream.place + (n + 1))) c.loop-r.invariant.1 ∙ ap (λ (p : ℕ). stream_at key (p + (n + 1))) at ∙ ap (stream_at key) (omega arith),
    )
