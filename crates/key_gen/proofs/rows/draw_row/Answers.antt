use Rattle.std.proofs.Common.{w64, ◌≡◌, ◌+◌, ◌-◌, ℕ, [], ◌∷◌, ◌++◌, length, take, sym, ap, subst, arith, ◌∙◌}
use Rattle.std.proofs.lemmas.Int.{to_z-of_z, fits_signed_from_abs}
use Rattle.word_ring.specs.Words.{word_sum}
use Rattle.word_ring.specs.Signed.{word_of}
use Rattle.seed_stream.specs.Draws.{draw, stream_at, next_draw, error_of}
use Rattle.lwe_core.specs.Phase.{sealed}
use Rattle.key_gen.specs.Seeds.{draws_at}
use Rattle.key_gen.proofs.Masks.{sealed_by_mask, mask_front}
use Rattle.key_gen.proofs.Fitting.{mask_long}
use Rattle.key_gen.proofs.rows.draw_row.Goals as goal

pub returns-clause-words : goal.returns-clause-words
returns-clause-words g c =
    let key = c.args.stream.now.key in
    let place = c.args.stream.now.place in
    let bits = c.args.key.now in
    let bound = c.args.bound in
    let words = c.draw_mask.new.c in
    let n : length c.args.c.now - 1 ≡ length bits = omega (arith, c.requires.dimension) in
    let drawn : c.next_error-error.result ≡ error_of (draw key (place + length bits)) bound =
    c.next_error-error.ensures.value ∙ ap (λ w. error_of w bound) (ap next_draw (c.draw_mask.ensures.stream ∙ ap (λ m. stream_at key (place + m)) n) ∙ c.laws.ensures.value key (place + length bits)) in
    let mask : take (length bits) words ≡ draws_at key place (length bits) = subst (λ (m : ℕ). take m words ≡ draws_at key place m) n c.draw_mask.ensures.mask in
    let held = to_z-of_z w64 c.next_error-error.result (fits_signed_from_abs w64 c.next_error-error.result (omega (arith, c.next_error-error.ensures.within, c.requires.bound))) in
    c.seal.ensures.words ∙ ap (λ e. sealed bits words (word_sum c.args.message (word_of e))) (held ∙ drawn)
    ∙ sealed_by_mask bits words (draws_at key place (length bits) ++ 0 ∷ []) (word_sum c.args.message (word_of (error_of (draw key (place + length bits)) bound)))
    (c.draw_mask.ensures.length ∙ c.requires.dimension) (mask_long key place (length bits)) (mask ∙ sym (mask_front key place (length bits)))
