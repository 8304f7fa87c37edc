use Rattle.std.proofs.Common.{◌≡◌, ℕ, ℤ, ◌+◌, ◌*◌, List, [], ◌∷◌, ◌++◌, length, map, replicate, take, sym, ap, subst, arith, ◌∙◌}
use Rattle.word_ring.specs.Rows.{row_sum}
use Rattle.word_ring.specs.Signed.{word_of}
use Rattle.seed_stream.specs.Draws.{KeyStream}
use Rattle.glwe_core.specs.Glwe.{lengths_of, FitsGlweKey, sealed_glwe}
use Rattle.key_gen.specs.Seeds.{masks_at, errors_at}
use Rattle.key_gen.proofs.Streams.{errors_turned}
use Rattle.key_gen.proofs.GlweMasks.{number_of_parts, shape_fits, degree_is, sealed_by_masks, masks_front, masks_shape}
use Rattle.key_gen.proofs.glwe_rows.draw_glwe_row.Goals as goal

pub seal_glwe-requires-clause-fits : goal.seal_glwe-requires-clause-fits
seal_glwe-requires-clause-fits c =
    let n = length c.args.message.now in
    let polys = c.args.key.now in
    let parts = c.draw_masks.new.c in
    let shape : lengths_of parts ≡ replicate (length polys + 1) n = c.draw_masks.ensures.shape ∙ c.requires.shape in
    subst (λ (m : ℕ). FitsGlweKey m polys parts) (sym (degree_is n polys parts shape)) (shape_fits n polys parts shape c.requires.bits)

pub returns-clause-words : goal.returns-clause-words
returns-clause-words c =
    let key = c.args.stream.now.key in
    let place = c.args.stream.now.place in
    let message = c.args.message.now in
    let bound = c.args.bound in
    let n = length message in
    let polys = c.args.key.now in
    let k = length polys in
    let parts = c.draw_masks.new.c in
    let shape : lengths_of parts ≡ replicate (k + 1) n = c.draw_masks.ensures.shape ∙ c.requires.shape in
    let number : c.k-k.result ≡ k = omega (arith, c.k-k.ensures, number_of_parts (k + 1) n c.args.c.now c.requires.shape) in
    let degree : length c.coeffs-n.result.now ≡ n = ap length c.coeffs-n.ensures in
    let masks : take k parts ≡ masks_at key place k n =
    subst (λ (a : ℕ). take a parts ≡ masks_at key place a n) number (subst (λ (b : ℕ). take c.k-k.result parts ≡ masks_at key place c.k-k.result b) degree c.draw_masks.ensures.masks) in
    let start : ℕ = place + c.k-k.result * length c.coeffs-n.result.now in
    let start_is : start ≡ place + k * n = ap (λ (a : ℕ). place + a * length c.coeffs-n.result.now) number ∙ ap (λ (b : ℕ). place + k * b) degree in
    let errors : c.draw_errors.new.errors ≡ errors_at key (place + k * n) n bound =
    c.draw_errors.ensures.errors ∙ ap (λ (s : KeyStream). errors_at s.key s.place (length c.args.errors.now) bound) c.draw_masks.ensures.stream
    ∙ errors_turned c.laws.ensures key start (length c.args.errors.now) bound ∙ ap (λ (m : ℕ). errors_at key start m bound) c.requires.errors ∙ ap (λ (m : ℕ). errors_at key m n bound) start_is in
    let phase : List ℕ = row_sum message (map word_of (errors_at key (place + k * n) n bound)) in
    c.seal_glwe.ensures.parts ∙ ap (λ (es : List ℤ). sealed_glwe polys parts (row_sum message (map word_of es))) errors
    ∙ sealed_by_masks n polys parts (masks_at key place k n ++ replicate n 0 ∷ []) phase shape (masks_shape key place k n) (masks ∙ sym (masks_front key place k n))
