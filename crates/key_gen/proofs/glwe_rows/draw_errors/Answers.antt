use Rattle.std.proofs.Common.{w64, ◌≡◌, ◌+◌, take, set, ap, arith, ◌∙◌}
use Rattle.std.proofs.lemmas.Int.{to_z-of_z, fits_signed_from_abs}
use Rattle.seed_stream.specs.Draws.{draw, error_of, stream_at, next_draw, after_draw}
use Rattle.key_gen.proofs.Places.{written_more}
use Rattle.key_gen.proofs.glwe_rows.draw_errors.Goals as goal

pub loop-at-preserved : goal.loop-at-preserved
loop-at-preserved c =
    let key = c.args.stream.now.key in
    let start = c.args.stream.now.place in
    let at = c.loop-at.at in
    let bound = c.args.bound in
    let value : c.next_error.result ≡ error_of (draw key (start + at)) bound =
    c.next_error.ensures.value ∙ ap (λ w. error_of w bound) (ap next_draw c.loop-at.invariant.stream ∙ c.laws.ensures.value key (start + at)) in
    let held = to_z-of_z w64 c.next_error.result (fits_signed_from_abs w64 c.next_error.result (omega (arith, c.next_error.ensures.within, c.requires))) in
    record {
      drawn = ap (λ e. take (at + 1) (set c.loop-at.errors at e)) held ∙ written_more (λ i. error_of (draw key i) bound) c.loop-at.errors start at c.next_error.result (omega (arith, c.loop-at-test.true)) c.loop-at.invariant.drawn value;
      stream = c.next_error.ensures.next ∙ ap after_draw c.loop-at.invariant.stream ∙ c.laws.ensures.after key (start + at) ∙ ap (stream_at key) (omega arith);
    }
