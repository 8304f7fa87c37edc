use Rattle.std.proofs.Common.{◌≡◌, ℕ, ◌+◌, ◌*◌, ◌^◌, ◌<◌, ◌≤◌, Bool, List, [], length, get_or, sym, ap, subst, arith, ◌∙◌}
use Rattle.std.proofs.lemmas.List.{length-replicate}
use Rattle.seed_stream.specs.Draws.{stream_key, stream_at}
use Rattle.word_ring.specs.Rows.{scaled_row}
use Rattle.lwe_core.specs.Secret.{bit_word}
use Rattle.gadget_decomp.specs.Decomposition.{place_weight}
use Rattle.glwe_core.specs.Glwe.{lengths_of}
use Rattle.ggsw_core.specs.Noise.{part_factors}
use Rattle.blind_rotate.specs.BootKey.{BootRows, shape_lengths, HasBootRow}
use Rattle.blind_rotate.specs.Fits.{KeyNumbers, key_polynomials}
use Rattle.key_gen.specs.Seeds.{boot_label, key_numbers, rows_of_bit, drawn_boot_row}
use Rattle.key_gen.proofs.BootPlaces.{AreBootRows, bit_of, part_of, place_at, has_row, none_written, row_more, row_shape, all_written}
use Rattle.key_gen.proofs.BootRows.{IsNext, zeros_shape, shifted_one, row_drawn, stream_after}
use Rattle.key_gen.proofs.boot.make_boot_key.Goals as goal

pub loop-r-init : goal.loop-r-init
loop-r-init c =
    let p : KeyNumbers = key_numbers c.args.params.now in
    let small = c.args.secret.now.small in
    let key = stream_key c.args.seed.now boot_label in
    let made = c.in_ok-key.ensures in
    record {
      rows = none_written (drawn_boot_row key p c.args.secret.now.big small) p (length small) c.in_ok-key.key c.known.ensures
          (ap (λ (k : BootRows). k.shape) made) (ap (λ (k : BootRows). k.base) made) (ap (λ (k : BootRows). k.level) made)
          (ap (λ (k : BootRows). length k.ggsws) made ∙ length-replicate p.small_dim _ ∙ sym c.requires.dimensions.small_length);
      row = ap lengths_of c.in_ok-row.ensures ∙ zeros_shape (p.k + 1) (2 ^ p.log_n);
      message = ap length c.in_ok-message.ensures ∙ length-replicate (2 ^ p.log_n) 0;
      errors = c.as_mut_slice-errors.ensures.len ∙ c.in_ok-drawn.ensures.len ∙ shifted_one p.log_n c.requires.params.glwe.log_n_high;
      scratch = c.in_ok-scratch.ensures;
      stream = let start : 0 ≡ 0 * ((p.k + 1) * 2 ^ p.log_n) = omega arith in c.of-stream.ensures ∙ ap (stream_at key) start;
    }

pub draw_glwe_row-requires-clause-bits : goal.draw_glwe_row-requires-clause-bits
draw_glwe_row-requires-clause-bits c = λ j d inside. c.in_ok-big.ensures.lengths j d inside ∙ sym (c.set_message.ensures.length ∙ c.loop-r.invariant.message)

pub swap_row-requires-clause-bit : goal.swap_row-requires-clause-bit
swap_row-requires-clause-bit c =
    let p : KeyNumbers = key_numbers c.args.params.now in
    let small = c.args.secret.now.small in
    let r = c.loop-r.r in
    let below : r < length small * rows_of_bit p = subst (λ (m : ℕ). r < m * rows_of_bit p) (sym c.requires.dimensions.small_length) c.loop-r-test.true in
    (has_row (drawn_boot_row (stream_key c.args.seed.now boot_label) p c.args.secret.now.big small) p (length small) r c.loop-r.key c.loop-r.invariant.rows c.requires.params.boot.level_low below).bit

pub loop-r-preserved : goal.loop-r-preserved
loop-r-preserved c =
    let p : KeyNumbers = key_numbers c.args.params.now in
    let key : List ℕ = stream_key c.args.seed.now boot_label in
    let big : List Bool = c.args.secret.now.big in
    let small : List Bool = c.args.secret.now.small in
    let f : ℕ → List (List ℕ) = drawn_boot_row key p big small in
    let r : ℕ = c.loop-r.r in
    let old : BootRows = c.loop-r.key in
    let row : List (List ℕ) = c.draw_glwe_row.new.c in
    let some : 1 ≤ p.boot_level = c.requires.params.boot.level_low in
    let are : AreBootRows f p (length small) r old = c.loop-r.invariant.rows in
    let below : r < length small * rows_of_bit p = subst (λ (m : ℕ). r < m * rows_of_bit p) (sym c.requires.dimensions.small_length) c.loop-r-test.true in
    let has : HasBootRow old (bit_of p.k p.boot_level r) (part_of p.k p.boot_level r) (place_at p.boot_level r) = has_row f p (length small) r old are some below in
    let out : length c.loop-r.message ≡ 2 ^ p.log_n = c.loop-r.invariant.message in
    let next : IsNext key p big small r c.weighted_bit-factor.result c.loop-r.stream c.in_ok-big.big c.set_message.new.out = record {
      at = c.loop-r.invariant.stream;
      polynomials = c.laws-3.ensures.keys.polynomials_only p.k (2 ^ p.log_n) big c.in_ok-big.big c.in_ok-big.ensures;
      number = c.in_ok-big.ensures.number;
      word = c.weighted_bit-factor.type_inv;
      weight = c.weighted_bit-factor.ensures ∙ ap (λ (b : Bool). bit_word b * place_weight p.boot_base (place_at p.boot_level r)) c.bit.ensures;
      drawn = c.set_message.ensures.message ∙ ap (λ (n : ℕ). scaled_row c.weighted_bit-factor.result (get_or (part_factors n (key_polynomials p.k n big)) (part_of p.k p.boot_level r) [])) out;
      degree = c.set_message.ensures.length ∙ out;
    } in
    let drawn : row ≡ f r = c.draw_glwe_row.ensures.words ∙ row_drawn c.laws.ensures c.laws-2.ensures.row_ring key p big small r c.weighted_bit-factor.result c.loop-r.stream c.in_ok-big.big c.set_message.new.out next in
    let fits : lengths_of row ≡ shape_lengths old.shape = c.draw_glwe_row.ensures.shape ∙ c.loop-r.invariant.row ∙ ap shape_lengths (sym are.shape) in
    record {
      rows = subst (AreBootRows f p (length small) (r + 1)) (sym c.swap_row.ensures.key) (row_more c.laws-3.ensures.exchange f p (length small) r old row are some below fits drawn);
      row = ap lengths_of c.swap_row.ensures.row ∙ row_shape old (bit_of p.k p.boot_level r) (part_of p.k p.boot_level r) (place_at p.boot_level r) are.is has ∙ ap shape_lengths are.shape;
      message = c.set_message.ensures.length ∙ out;
      errors = c.draw_glwe_row.auto.errors ∙ c.loop-r.invariant.errors;
      scratch = c.draw_glwe_row.ensures.room_stays ∙ c.loop-r.invariant.scratch;
      stream = c.draw_glwe_row.ensures.stream ∙ stream_after key p big small r c.weighted_bit-factor.result c.loop-r.stream c.in_ok-big.big c.set_message.new.out next;
    }

pub returns : goal.returns
returns c =
    let p : KeyNumbers = key_numbers c.args.params.now in
    let small : List Bool = c.args.secret.now.small in
    let f : ℕ → List (List ℕ) = drawn_boot_row (stream_key c.args.seed.now boot_label) p c.args.secret.now.big small in
    let bits : p.small_dim ≡ length small = sym c.requires.dimensions.small_length in
    let whole : c.loop-r.r ≡ p.small_dim * rows_of_bit p = omega (arith, c.loop-r-test.false, c.loop-r.auto.r-end) in
    let end : c.loop-r.r ≡ length small * rows_of_bit p = whole ∙ ap (λ (m : ℕ). m * rows_of_bit p) bits in
    all_written f p (length small) c.loop-r.key (subst (λ (r : ℕ). AreBootRows f p (length small) r c.loop-r.key) end c.loop-r.invariant.rows) c.requires.params.boot.level_low
