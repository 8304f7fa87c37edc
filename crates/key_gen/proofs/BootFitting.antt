-- What is drawn for a boot key fits, and so do all three keys of a seed.
use Rattle.std.proofs.Common.{◌≡◌, ℕ, ◌+◌, ◌-◌, ◌*◌, ◌/◌, ◌%◌, ◌^◌, ◌<◌, ◌≤◌, Bool, false, List, [], ◌∷◌, ◌++◌, length, map, set, get_or, replicate, All, refl, sym, ap, subst, arith, ◌∙◌}
use Rattle.std.specs.List.{range_with_len, zip}
use Rattle.std.proofs.lemmas.List.{length-map, get_or-map, get_or_default, map-set, set-get_or}
use Rattle.std.proofs.lemmas.Slice.Zip.{length-zip, get_or-zip}
use Rattle.std.proofs.lemmas.List.FromFn.{get_or-map-range_with_len, length-map-range_with_len}
use Rattle.std.proofs.lemmas.Nat.{pow_pos, mul-le, mod_below}
use Rattle.word_ring.specs.Words.{IsWord, word_sum, word_difference, size}
use Rattle.word_ring.specs.Signed.{word_of}
use Rattle.word_ring.specs.Rows.{row_sum, row_difference, scaled_row, RowWithin, RowLaws}
use Rattle.word_ring.specs.RowLaws.{RowRingLaws, RowTotalLaws}
use Rattle.lwe_core.specs.Secret.{bit_words}
use Rattle.negacyclic.specs.Product.{negacyclic_product}
use Rattle.negacyclic.specs.Laws.{ProductLaws, RotationLaws}
use Rattle.seed_stream.specs.Draws.{stream_key, draw, error_of}
use Rattle.fhe_params.specs.declared.params.Params.{Params}
use Rattle.fhe_params.specs.Params.{IsParams}
use Rattle.gadget_decomp.specs.Decomposition.{IsGadget, place_weight}
use Rattle.glwe_core.specs.Glwe.{lengths_of, degree_of, FitsGlweKey, mask_sum, glwe_phase, sealed_glwe}
use Rattle.glwe_core.specs.Laws.{GlweShapeLaws, GlwePhaseLaws}
use Rattle.ggsw_core.specs.Ggsw.{GgswRows}
use Rattle.ggsw_core.specs.Noise.{GgswFits, row_message, part_factors}
use Rattle.blind_rotate.specs.Fits.{KeyNumbers, BootRowsFit, KeysFit, key_polynomials}
use Rattle.blind_rotate.specs.Laws.{KeyPolynomialLaws}
use Rattle.key_gen.specs.Seeds.{big_label, small_label, switch_label, boot_label, errors_at, masks_at, drawn_glwe_row, rows_of_bit, drawn_boot_row, ggsw_of_rows, drawn_boot_key, key_numbers, big_key_of_seed, small_key_of_seed, switch_key_of_seed, boot_key_of_seed, CanBeDrawn}
use Rattle.key_gen.specs.Laws.{BootKeyLaws}
use Rattle.key_gen.proofs.Bits.{few_ones}
use Rattle.key_gen.proofs.Fitting.{LowerLaws, left_of, size_left, switch_fits}
use Rattle.key_gen.proofs.GlweMasks.{part_long, number_of_parts, masks_shape}
use Rattle.key_gen.proofs.Factors.{factor_long}
use Rattle.key_gen.proofs.BootPlaces.{bit_of, part_of, place_at, ArePlaces, places_are, within_bit}

-- the laws that this stands on
pub record BootServing : Type 0 where
  pub lower : LowerLaws
  pub rows : RowLaws
  pub row_ring : RowRingLaws
  pub totals : RowTotalLaws
  pub products : ProductLaws
  pub rotations : RotationLaws
  pub shapes : GlweShapeLaws
  pub phases : GlwePhaseLaws
  pub polynomials : KeyPolynomialLaws

-- errors that are added to a message are all that is left of it
errors_left : BootServing → (key : List ℕ) (place n bound : ℕ) (message : List ℕ) → length message ≡ n → RowWithin bound (row_difference (row_sum message (map word_of (errors_at key place n bound))) message)
errors_left laws key place n bound message long =
    let numbers = errors_at key place n bound in
    let errors : List ℕ = map word_of numbers in
    let number : length numbers ≡ n = length-map-range_with_len (λ i. error_of (draw key i) bound) place n in
    let count : length errors ≡ n = length-map numbers word_of ∙ number in
    let sum : List ℕ = row_sum message errors in
    let sum_long : length sum ≡ n = laws.rows.zip_length word_sum message errors ∙ omega (arith, long, count) in
    let whole : length (row_difference sum message) ≡ n = laws.rows.zip_length word_difference sum message ∙ omega (arith, long, sum_long) in
    λ c d inside.
    let below : c < n = omega (arith, inside, whole) in
    let w : ℕ = draw key (place + c) in
    let e : ℕ = word_of (error_of w bound) in
    let error : get_or errors c 0 ≡ e =
    get_or-map word_of numbers c (error_of w bound) 0 (omega (arith, below, number)) ∙ ap word_of (get_or-map-range_with_len (λ i. error_of (draw key i) bound) place n c (place + c) (error_of w bound) below refl) in
    let m : ℕ = get_or message c 0 in
    let is : get_or (row_difference sum message) c d ≡ e % 2 ^ 64 =
    get_or_default (row_difference sum message) c d 0 inside
    ∙ laws.rows.zip_word word_difference sum message c (omega (arith, below, sum_long)) (omega (arith, below, long))
    ∙ ap (λ (s : ℕ). word_difference s m) (laws.rows.zip_word word_sum message errors c (omega (arith, below, long)) (omega (arith, below, count)) ∙ ap (word_sum m) error)
    ∙ left_of laws.lower.ring m e in
    let small : size (get_or (row_difference sum message) c d) ≡ size e = ap size is ∙ size_left e in
    omega (arith, small, laws.lower.signed.word_size (error_of w bound), laws.lower.draws.within w bound)

-- what is to be sealed fits the key
masks_fit : (key : List ℕ) (place n : ℕ) (polys : List (List Bool)) → All (λ bits. length bits ≡ n) polys → FitsGlweKey n polys (masks_at key place (length polys) n ++ replicate n 0 ∷ [])
masks_fit key place n polys bits =
    let parts : List (List ℕ) = masks_at key place (length polys) n ++ replicate n 0 ∷ [] in
    let k : ℕ = length polys in
    let shape : lengths_of parts ≡ replicate (k + 1) n = masks_shape key place k n in
    let number : length parts ≡ k + 1 = number_of_parts (k + 1) n parts shape in
    record { number = number; lengths = λ i d inside. part_long (k + 1) n i parts d shape (omega (arith, inside, number)); bits = bits }

-- the sum of products has n words
sum_long : BootServing → (n : ℕ) (polys : List (List Bool)) (parts : List (List ℕ)) → FitsGlweKey n polys parts → length (mask_sum n polys parts) ≡ n
unfolding mask_sum
sum_long laws n polys parts fits =
    let product : List Bool × List ℕ → List ℕ = λ p. negacyclic_product p.1 (bit_words p.0) in
    laws.totals.total_length n (map product (zip polys parts))
    (λ i d inside.
    let below : i < length polys = omega (arith, inside, length-map (zip polys parts) product, length-zip polys parts, fits.number) in
    let there : i < length parts = omega (arith, below, fits.number) in
    ap length (get_or-map product (zip polys parts) i ([], []) d (omega (arith, below, fits.number, length-zip polys parts)) ∙ ap product (get_or-zip polys parts i ([], []) below there))
    ∙ laws.products.product_length (get_or parts i []) (bit_words (get_or polys i [])) ∙ fits.lengths i [] there)

-- and so a sealed ciphertext fits the key too
sealed_fits : BootServing → (n : ℕ) (polys : List (List Bool)) (parts : List (List ℕ)) (phase : List ℕ) → FitsGlweKey n polys parts → length phase ≡ n → FitsGlweKey n polys (sealed_glwe polys parts phase)
sealed_fits laws n polys parts phase fits long =
    let k : ℕ = length polys in
    let inside : k < length parts = omega (arith, fits.number) in
    let degree : degree_of parts ≡ n = fits.lengths 0 [] (omega (arith, inside)) in
    let sum : List ℕ = mask_sum (degree_of parts) polys parts in
    let sum_is : length sum ≡ n = ap (λ (m : ℕ). length (mask_sum m polys parts)) degree ∙ sum_long laws n polys parts fits in
    let body : List ℕ = row_sum phase sum in
    let body_is : length body ≡ n = laws.rows.zip_length word_sum phase sum ∙ omega (arith, long, sum_is) in
    let same : lengths_of (set parts k body) ≡ lengths_of parts =
    map-set length parts k body ∙ ap (set (lengths_of parts) k) (body_is ∙ sym (get_or-map length parts k [] 0 inside ∙ fits.lengths k [] inside)) ∙ set-get_or (lengths_of parts) k 0 in
    laws.shapes.fits_lengths n polys parts (set parts k body) fits same

-- ---- rows

phase_long : BootServing → (key : List ℕ) (place n bound : ℕ) (message : List ℕ) → length message ≡ n → length (row_sum message (map word_of (errors_at key place n bound))) ≡ n
phase_long laws key place n bound message long =
    let numbers = errors_at key place n bound in
    let count : length (map word_of numbers) ≡ n = length-map numbers word_of ∙ length-map-range_with_len (λ i. error_of (draw key i) bound) place n in
    laws.rows.zip_length word_sum message (map word_of numbers) ∙ omega (arith, long, count)

-- a row that is drawn fits the key
row_fits : BootServing → (key : List ℕ) (place n : ℕ) (polys : List (List Bool)) (message : List ℕ) (bound : ℕ) → length message ≡ n → All (λ bits. length bits ≡ n) polys → FitsGlweKey n polys (drawn_glwe_row key place n polys message bound)
row_fits laws key place n polys message bound long bits =
    let start : ℕ = place + length polys * n in
    sealed_fits laws n polys (masks_at key place (length polys) n ++ replicate n 0 ∷ []) (row_sum message (map word_of (errors_at key start n bound))) (masks_fit key place n polys bits) (phase_long laws key start n bound message long)

-- and its phase is the message, within the bound
row_near : BootServing → (key : List ℕ) (place n : ℕ) (polys : List (List Bool)) (message : List ℕ) (bound : ℕ) → length message ≡ n → All (λ bits. length bits ≡ n) polys → RowWithin bound (row_difference (glwe_phase polys (drawn_glwe_row key place n polys message bound)) message)
row_near laws key place n polys message bound long bits =
    let start : ℕ = place + length polys * n in
    let parts : List (List ℕ) = masks_at key place (length polys) n ++ replicate n 0 ∷ [] in
    let errors : List ℕ = map word_of (errors_at key start n bound) in
    let phase : List ℕ = row_sum message errors in
    let words : All IsWord phase = laws.row_ring.zip_are_words word_sum message errors (λ x y. omega arith) in
    let is : glwe_phase polys (sealed_glwe polys parts phase) ≡ phase =
    laws.phases.phase_sealed n polys parts phase (masks_fit key place n polys bits) (phase_long laws key start n bound message long) words in
    subst (λ (xs : List ℕ). RowWithin bound (row_difference xs message)) (sym is) (errors_left laws key start n bound message long)

-- ---- the boot key

-- what stands of the numbers of a boot key
pub record BootNumbers (p : KeyNumbers) (big : List Bool) : Type 0 where
  pub gadget : IsGadget p.boot_base p.boot_level
  pub big_length : length big ≡ p.k * 2 ^ p.log_n

-- the message of a row
message_long : BootServing → (p : KeyNumbers) (big : List Bool) (bit : Bool) (j t : ℕ) → BootNumbers p big → j ≤ p.k → length (row_message (2 ^ p.log_n) (key_polynomials p.k (2 ^ p.log_n) big) bit p.boot_base j t) ≡ 2 ^ p.log_n
message_long laws p big bit j t numbers part =
    let n : ℕ = 2 ^ p.log_n in
    let factor : List ℕ = get_or (part_factors n (key_polynomials p.k n big)) j [] in
    let weight : ℕ = place_weight p.boot_base t in
    length-map (scaled_row weight factor) _ ∙ length-map factor _ ∙ factor_long laws.rotations p.k n j big part numbers.big_length

part_small : (k q : ℕ) → q % (k + 1) ≤ k
part_small k q = let below : q % (k + 1) < k + 1 = mod_below q (k + 1) (omega arith) in omega (arith, below)

boot_row_fits : BootServing → (key : List ℕ) (p : KeyNumbers) (big small : List Bool) (r : ℕ) → BootNumbers p big → FitsGlweKey (2 ^ p.log_n) (key_polynomials p.k (2 ^ p.log_n) big) (drawn_boot_row key p big small r)
boot_row_fits laws key p big small r numbers =
    let n : ℕ = 2 ^ p.log_n in
    let polys : List (List Bool) = key_polynomials p.k n big in
    let bit : Bool = get_or small (bit_of p.k p.boot_level r) false in
    let j : ℕ = part_of p.k p.boot_level r in
    let t : ℕ = place_at p.boot_level r in
    row_fits laws key (r * ((p.k + 1) * n)) n polys (row_message n polys bit p.boot_base j t) p.big_error
    (message_long laws p big bit j t numbers (part_small p.k (r / p.boot_level))) (laws.polynomials.polynomials_are p.k n big numbers.big_length).lengths

boot_row_near : BootServing → (key : List ℕ) (p : KeyNumbers) (big small : List Bool) (r i j t : ℕ) → BootNumbers p big → ArePlaces p.k p.boot_level i j t r
    → RowWithin p.big_error (row_difference (glwe_phase (key_polynomials p.k (2 ^ p.log_n) big) (drawn_boot_row key p big small r)) (row_message (2 ^ p.log_n) (key_polynomials p.k (2 ^ p.log_n) big) (get_or small i false) p.boot_base j t))
boot_row_near laws key p big small r i j t numbers at =
    let n : ℕ = 2 ^ p.log_n in
    let polys : List (List Bool) = key_polynomials p.k n big in
    let message : ℕ → ℕ → ℕ → List ℕ = λ a b c. row_message n polys (get_or small a false) p.boot_base b c in
    let a : ℕ = bit_of p.k p.boot_level r in
    let b : ℕ = part_of p.k p.boot_level r in
    let c : ℕ = place_at p.boot_level r in
    let near : RowWithin p.big_error (row_difference (glwe_phase polys (drawn_boot_row key p big small r)) (message a b c)) =
    row_near laws key (r * ((p.k + 1) * n)) n polys (message a b c) p.big_error
    (message_long laws p big (get_or small a false) b c numbers (part_small p.k (r / p.boot_level))) (laws.polynomials.polynomials_are p.k n big numbers.big_length).lengths in
    let same : message a b c ≡ message i j t = ap (λ (x : ℕ). message x b c) at.bit ∙ ap (λ (x : ℕ). message i x c) at.part ∙ ap (message i j) at.place in
    subst (λ (m : List ℕ). RowWithin p.big_error (row_difference (glwe_phase polys (drawn_boot_row key p big small r)) m)) same near

-- the rows of a bit
ggsw_fits : BootServing → (key : List ℕ) (p : KeyNumbers) (big small : List Bool) (i : ℕ) → BootNumbers p big
    → GgswFits (2 ^ p.log_n) p.big_error (key_polynomials p.k (2 ^ p.log_n) big) (get_or small i false) (ggsw_of_rows p (drawn_boot_row key p big small) i)
ggsw_fits laws key p big small i numbers =
    let n : ℕ = 2 ^ p.log_n in
    let polys : List (List Bool) = key_polynomials p.k n big in
    let f : ℕ → List (List ℕ) = drawn_boot_row key p big small in
    let rows : ℕ = rows_of_bit p in
    let first_row : ℕ = i * rows in
    let drawn : List (List (List ℕ)) = map f (range_with_len first_row rows) in
    let count : length drawn ≡ rows = length-map-range_with_len f first_row rows in
    let k : length polys ≡ p.k = (laws.polynomials.polynomials_are p.k n big numbers.big_length).number in
    record {
      gadget = numbers.gadget;
      number = count ∙ ap (λ (m : ℕ). (m + 1) * p.boot_level) (sym k);
      shapes = λ m d inside.
          subst (FitsGlweKey n polys) (sym (get_or-map-range_with_len f first_row rows m (first_row + m) d (omega (arith, inside, count)) refl)) (boot_row_fits laws key p big small (first_row + m) numbers);
      errors = λ j t part first last.
          let in_key : j ≤ p.k = omega (arith, part, k) in
          let m : ℕ = j * p.boot_level + (t - 1) in
          let inside : m < rows = within_bit p.k p.boot_level j t in_key first last in
          let is : get_or drawn m [] ≡ f (first_row + m) = get_or-map-range_with_len f first_row rows m (first_row + m) [] inside refl in
          subst (λ (row : List (List ℕ)). RowWithin p.big_error (row_difference (glwe_phase polys row) (row_message n polys (get_or small i false) p.boot_base j t))) (sym is)
          (boot_row_near laws key p big small (first_row + m) i j t numbers (places_are p.k p.boot_level i j t in_key first last));
    }

pub boot_fits : BootServing → (key : List ℕ) (p : KeyNumbers) (big small : List Bool) → BootNumbers p big → BootRowsFit p.k p.log_n p.boot_base p.boot_level p.big_error big small (drawn_boot_key key p big small).ggsws
boot_fits laws key p big small numbers =
    let n : ℕ = 2 ^ p.log_n in
    let polys : List (List Bool) = key_polynomials p.k n big in
    let f : ℕ → GgswRows = ggsw_of_rows p (drawn_boot_row key p big small) in
    let drawn : List GgswRows = map f (range_with_len 0 (length small)) in
    let count : length drawn ≡ length small = length-map-range_with_len f 0 (length small) in
    record {
      number = count;
      bases = λ i d inside. ap (λ (g : GgswRows). g.base) (get_or-map-range_with_len f 0 (length small) i i d (omega (arith, inside, count)) (omega arith));
      levels = λ i d inside. ap (λ (g : GgswRows). g.level) (get_or-map-range_with_len f 0 (length small) i i d (omega (arith, inside, count)) (omega arith));
      near = λ i inside.
          subst (GgswFits n p.big_error polys (get_or small i false)) (sym (get_or-map-range_with_len f 0 (length small) i i (record { base = 0; level = 0; rows = [] }) inside (omega arith)))
          (ggsw_fits laws key p big small i numbers);
    }

-- ---- all three keys

pub keys_fit : BootServing → (p : KeyNumbers) (seed : List ℕ) → CanBeDrawn p → KeysFit p (big_key_of_seed p seed) (small_key_of_seed p seed) (switch_key_of_seed p seed).rows (boot_key_of_seed p seed).ggsws
keys_fit laws p seed can =
    let big : List Bool = big_key_of_seed p seed in
    let small : List Bool = small_key_of_seed p seed in
    let dim : ℕ = p.k * 2 ^ p.log_n in
    let long : length big ≡ dim = length-map-range_with_len _ 0 dim in
    record {
      secret = record {
        dimensions = record { big_length = long; small_length = length-map-range_with_len _ 0 p.small_dim };
        few_in_big = few_ones laws.lower.ones (stream_key seed big_label) dim p.big_ones can.some_big;
        few_in_small = few_ones laws.lower.ones (stream_key seed small_label) p.small_dim p.small_ones can.some_small;
      };
      switch_rows = switch_fits laws.lower (stream_key seed switch_label) p.switch_base p.switch_level p.small_error big small can.switch;
      boot_rows = boot_fits laws (stream_key seed boot_label) p big small (record { gadget = can.boot; big_length = long });
    }

pub parameters_can : (params : Params) → IsParams params → CanBeDrawn (key_numbers params)
parameters_can params is =
    let n : ℕ = 2 ^ params.glwe.log_n in
    let some : 1 * 1 ≤ params.glwe.k * n = mul-le 1 1 params.glwe.k n is.glwe.k_low (pow_pos params.glwe.log_n) in
    record {
      some_big = omega (arith, some);
      some_small = is.lwe.n_low;
      boot = record { some_bits = is.boot.base_low; some_digits = is.boot.level_low; fits = is.boot.bits };
      switch = record { some_bits = is.switch.base_low; some_digits = is.switch.level_low; fits = is.switch.bits };
    }

pub boot_laws : BootServing → BootKeyLaws
boot_laws laws = record {
  boot_fits = λ key p big small gadget long. boot_fits laws key p big small (record { gadget = gadget; big_length = long });
  parameters_can = parameters_can;
  keys_fit = keys_fit laws;
}
