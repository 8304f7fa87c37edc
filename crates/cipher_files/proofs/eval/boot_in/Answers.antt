use Rattle.std.proofs.Common.{◌≡◌, ℕ, ◌+◌, ◌*◌, ◌^◌, ◌<◌, ◌≤◌, List, length, sym, ap, subst, arith, ◌∙◌}
use Rattle.std.proofs.lemmas.List.{length-replicate}
use Rattle.glwe_core.specs.Glwe.{lengths_of}
use Rattle.blind_rotate.specs.BootKey.{BootRows, shape_lengths, HasBootRow}
use Rattle.fhe_params.specs.declared.params.Params.{Params}
use Rattle.cipher_files.specs.EvalFile.{rows_of_bit, boot_row_in, glwe_at}
use Rattle.cipher_files.proofs.BootPlaces.{AreBootRows, bit_of, part_of, place_at, has_row, none_written, row_more, row_shape, all_written}
use Rattle.cipher_files.proofs.GlweRows.{zeros_shape}
use Rattle.cipher_files.proofs.Places.{boot_rows_few, shifted_one}
use Rattle.cipher_files.proofs.eval.boot_in.Goals as goal

pub loop-r-init : goal.loop-r-init
loop-r-init c =
    let p : Params = c.args.params.now in
    let made = c.in_ok-key.ensures in
    record {
      rows = none_written (boot_row_in p c.args.bytes.now) p p.lwe.n c.in_ok-key.key c.known.ensures
          (ap (λ (k : BootRows). k.shape) made) (ap (λ (k : BootRows). k.base) made) (ap (λ (k : BootRows). k.level) made)
          (ap (λ (k : BootRows). length k.ggsws) made ∙ length-replicate p.lwe.n _);
      row = ap lengths_of c.in_ok-row.ensures ∙ zeros_shape (p.glwe.k + 1) (2 ^ p.glwe.log_n);
    }

pub overflow_mul-r-end : goal.overflow_mul-r-end
overflow_mul-r-end c = omega (arith, boot_rows_few c.args.params.now c.requires.params)

pub swap_row-requires-clause-bit : goal.swap_row-requires-clause-bit
swap_row-requires-clause-bit c =
    let p : Params = c.args.params.now in
    (has_row (boot_row_in p c.args.bytes.now) p p.lwe.n c.loop-r.r c.loop-r.key c.loop-r.invariant.rows c.requires.params.boot.level_low c.loop-r-test.true).bit

pub loop-r-preserved : goal.loop-r-preserved
loop-r-preserved c =
    let p : Params = c.args.params.now in
    let f : ℕ → List (List ℕ) = boot_row_in p c.args.bytes.now in
    let r : ℕ = c.loop-r.r in
    let old : BootRows = c.loop-r.key in
    let row : List (List ℕ) = c.read_glwe.new.row in
    let some : 1 ≤ p.boot.level = c.requires.params.boot.level_low in
    let are : AreBootRows f p p.lwe.n r old = c.loop-r.invariant.rows in
    let below : r < p.lwe.n * rows_of_bit p = c.loop-r-test.true in
    let has : HasBootRow old (bit_of p.glwe.k p.boot.level r) (part_of p.glwe.k p.boot.level r) (place_at p.boot.level r) = has_row f p p.lwe.n r old are some below in
    let read : row ≡ f r = c.read_glwe.ensures.parts ∙ ap (λ (n : ℕ). glwe_at c.args.bytes.now p.glwe.k n c.boot_row_place-place.result) (shifted_one p.glwe.log_n c.requires.params.glwe.log_n_high) ∙ ap (glwe_at c.args.bytes.now p.glwe.k (2 ^ p.glwe.log_n)) c.boot_row_place-place.ensures.place in
    let fits : lengths_of row ≡ shape_lengths old.shape = c.read_glwe.ensures.shape ∙ c.loop-r.invariant.row ∙ ap shape_lengths (sym are.shape) in
    record {
      rows = subst (AreBootRows f p p.lwe.n (r + 1)) (sym c.swap_row.ensures.key) (row_more c.laws.ensures.exchange f p p.lwe.n r old row are some below fits read);
      row = ap lengths_of c.swap_row.ensures.row ∙ row_shape old (bit_of p.glwe.k p.boot.level r) (part_of p.glwe.k p.boot.level r) (place_at p.boot.level r) are.is has ∙ ap shape_lengths are.shape;
    }

pub returns : goal.returns
returns c =
    let p : Params = c.args.params.now in
    let f : ℕ → List (List ℕ) = boot_row_in p c.args.bytes.now in
    let end : c.loop-r.r ≡ p.lwe.n * rows_of_bit p = omega (arith, c.loop-r-test.false, c.loop-r.auto.r-end) in
    all_written f p p.lwe.n c.loop-r.key (subst (λ (r : ℕ). AreBootRows f p p.lwe.n r c.loop-r.key) end c.loop-r.invariant.rows) c.requires.params.boot.level_low
