-- The noise of an external product: that of the rows, and that of rounding to digits.
use Rattle.std.proofs.Common.{◌≡◌, ℕ, zero, suc, ◌+◌, ◌-◌, ◌*◌, ◌<◌, ◌≤◌, ◌^◌, ◌%◌, Bool, true, false, cond, List, [], ◌∷◌, map, length, get_or, replicate, arith, ap, sym, refl, ◌∙◌, subst, mul_assoc, zero-mul, add-one}
use Rattle.std.proofs.Math.Nat.{mul-le-mul_left, mul-le-mul_right}
use Rattle.std.specs.List.{All, flat_map, range_with_len, zip}
use Rattle.std.proofs.lemmas.List.{ext_get_or, length-replicate, get_or-replicate, length-map, get_or-map, get_or_append_left, get_or-append_right}
use Rattle.std.proofs.lemmas.List.FromFn.{length-map-range_with_len, get_or-map-range_with_len, length-range_with_len, get_or-range_with_len}
use Rattle.std.proofs.lemmas.List.Elements.{All-from_get_or, All-weaker, All-nil, All-append}
use Rattle.std.proofs.lemmas.Slice.Zip.{length-zip, get_or-zip}
use Rattle.std.proofs.lemmas.Bool.{cases_lt}
use Rattle.std.proofs.Common.{⊎_elim}
use Rattle.word_ring.specs.Words.{IsWord, word_sum, word_difference, word_product, word_negation, size}
use Rattle.word_ring.specs.Rows.{zip_words, row_sum, row_difference, scaled_row, scaled_rows, sum_of_rows, zip_rows, IsAdditive, AllOfLength, RowWithin, RowLaws}
use Rattle.word_ring.specs.RowLaws.{RowSizeLaws}
use Rattle.lwe_core.specs.Secret.{bit_word, bit_words, ones_of}
use Rattle.negacyclic.specs.Product.{negacyclic_product, monomial}
use Rattle.negacyclic.specs.Laws.{ProductSizeLaws}
use Rattle.gadget_decomp.specs.Decomposition.{IsGadget, place_weight, digit_polynomial, rounded_polynomial}
use Rattle.gadget_decomp.specs.Laws.{PolynomialDigitLaws}
use Rattle.glwe_core.specs.Glwe.{degree_of, FitsGlweKey, flat_key_of, glwe_phase}
use Rattle.glwe_core.specs.Laws.{GlwePhaseLaws, GlweSizeLaws}
use Rattle.ggsw_core.specs.Ggsw.{GgswRows, row_place, row_of, sum_of_glwes, row_product, part_products, external_product, cmux_of}
use Rattle.ggsw_core.specs.Noise.{part_factors, row_message, GgswFits, product_noise}
use Rattle.ggsw_core.proofs.Totals.{total, total-same, total-sum, total-scaled, total-mapped, total-within, length-total, total-flat, map-products, scaled-same, lengths_of_terms}
use Rattle.ggsw_core.proofs.Phases.{Serving, counted, sum_fits, phase_of_sum, phase_by_parts, one_times, minus_zeros}

-- the laws on sizes, digits and phases that serve besides
pub record NoiseServing : Type 0 where
  pub plain : Serving
  pub sizes : RowSizeLaws
  pub product_sizes : ProductSizeLaws
  pub digits : PolynomialDigitLaws
  pub phases : GlwePhaseLaws
  pub phase_sizes : GlweSizeLaws

-- a weaker bound
within_more : (bound more : ℕ) (row : List ℕ) → bound ≤ more → RowWithin bound row → RowWithin more row
within_more bound more row le fit = All-weaker (λ w. size w ≤ bound) (λ w. size w ≤ more) (λ w small. omega arith) row fit

-- what a part counts has n coefficients
factor_length : Serving → (n : ℕ) (key : List (List Bool)) (j : ℕ) → All (λ bits. length bits ≡ n) key → j ≤ length key → length (get_or (part_factors n key) j []) ≡ n
factor_length laws n key j key_fits within =
    let masks : List (List ℕ) = map (λ bits. map word_negation (bit_words bits)) key in
    let masks_long : length masks ≡ length key = length-map key (λ bits. map word_negation (bit_words bits)) in
    ⊎_elim
    (λ (low : j < length key).
    ap length (get_or_append_left masks (monomial n 0 ∷ []) [] j (omega arith))
    ∙ ap length (get_or-map (λ bits. map word_negation (bit_words bits)) key j [] [] low)
    ∙ length-map (bit_words (get_or key j [])) word_negation
    ∙ length-map (get_or key j []) bit_word
    ∙ key_fits j [] low)
    (λ (high : length key ≤ j).
    let last : j - length key ≡ 0 = omega arith in
    ap length (get_or-append_right masks (monomial n 0 ∷ []) (length key) j [] masks_long high)
    ∙ ap (λ t. length (get_or (monomial n 0 ∷ []) t [])) last
    ∙ laws.rotations.monomial_length n 0)
    (cases_lt j (length key))

-- a digit times the message of its row
digit_of_message : Serving → (n bit weight : ℕ) (d factor : List ℕ) → length d ≡ n → length factor ≡ n → negacyclic_product d (scaled_row bit (scaled_row weight factor)) ≡ scaled_row bit (negacyclic_product (scaled_row weight d) factor)
digit_of_message laws n bit weight d factor e f =
    let scaled_long : length (scaled_row weight factor) ≡ n = length-map factor (λ x. word_product weight x) ∙ f in
    laws.products.product_scaled bit d (scaled_row weight factor) (e ∙ sym scaled_long)
    ∙ ap (scaled_row bit) (laws.products.product_scaled weight d factor (e ∙ sym f) ∙ sym (laws.products.scaled_product weight d factor (e ∙ sym f)))

-- the digits of a part, each times the message of its row
part_messages : NoiseServing → (n bit base level : ℕ) (p factor : List ℕ) → IsGadget base level → length p ≡ n → length factor ≡ n → total n (λ t. negacyclic_product (digit_polynomial base level t p) (scaled_row bit (scaled_row (place_weight base t) factor))) 1 level ≡ scaled_row bit (negacyclic_product (rounded_polynomial base level p) factor)
part_messages laws n bit base level p factor gadget e f =
    let digit : ℕ → List ℕ = λ t. digit_polynomial base level t p in
    let digit_long : (t : ℕ) → length (digit t) ≡ n = λ t. laws.digits.polynomial_length base level t p ∙ e in
    let weighed : ℕ → List ℕ = λ t. scaled_row (place_weight base t) (digit t) in
    let weighed_long : (t : ℕ) → length (weighed t) ≡ n = λ t. length-map (digit t) (λ x. word_product (place_weight base t) x) ∙ digit_long t in
    total-same n 1 level (λ t. negacyclic_product (digit t) (scaled_row bit (scaled_row (place_weight base t) factor))) (λ t. scaled_row bit (negacyclic_product (weighed t) factor))
    (λ i l. digit_of_message laws.plain n bit (place_weight base (1 + i)) (digit (1 + i)) factor (digit_long (1 + i)) f)
    ∙ total-scaled laws.plain.totals n bit 1 level (λ t. negacyclic_product (weighed t) factor)
    ∙ ap (scaled_row bit)
    (total-mapped laws.plain.totals n 1 level (λ x. negacyclic_product x factor) weighed
    (subst (λ m. IsAdditive m m (λ x. negacyclic_product x factor)) f (laws.plain.products.first_additive factor)) (λ i l. weighed_long (1 + i))
    ∙ ap (λ x. negacyclic_product x factor)
    (ap (sum_of_rows n) (sym (scaled-same (place_weight base) digit (range_with_len 1 level)))
    ∙ ap (λ m. sum_of_rows m (scaled_rows (map (place_weight base) (range_with_len 1 level)) (map digit (range_with_len 1 level)))) (sym e)
    ∙ laws.digits.polynomials_weighed base level p gadget))

-- a place of a part stands before the last row
place_inside : (j t level parts : ℕ) → j < parts → 1 ≤ t → t ≤ level → j * level + (t - 1) < parts * level
place_inside j t level parts inside from upto =
    let room : (j + 1) * level ≤ parts * level = mul-le-mul_right level (omega arith) in
    let split : (j + 1) * level ≡ j * level + level = omega arith in
    omega arith

-- the rows fit the key
row_fits : (n bound : ℕ) (key : List (List Bool)) (bit : Bool) (g : GgswRows) (j t : ℕ) → GgswFits n bound key bit g → j ≤ length key → 1 ≤ t → t ≤ g.level → FitsGlweKey n key (row_of g j t)
row_fits n bound key bit g j t fits within from upto =
    let inside : j * g.level + (t - 1) < (length key + 1) * g.level = place_inside j t g.level (length key + 1) (omega arith) from upto in
    fits.shapes (row_place g j t) [] (omega (arith, fits.number))

-- a product of a row fits it too
product_fits : NoiseServing → (n : ℕ) (key : List (List Bool)) (d : List ℕ) (row : List (List ℕ)) → length d ≡ n → FitsGlweKey n key row → FitsGlweKey n key (map (negacyclic_product d) row)
product_fits laws n key d row e fits = record {
  number = length-map row (negacyclic_product d) ∙ fits.number;
  lengths =
      All-from_get_or (λ part. length part ≡ n) (map (negacyclic_product d) row) []
      (λ i h.
      let inside : i < length row = omega (arith, length-map row (negacyclic_product d)) in
      ap length (get_or-map (negacyclic_product d) row i [] [] inside) ∙ laws.plain.products.product_length d (get_or row i []) ∙ e);
  bits = fits.bits;
}

-- all of a double list
pub each_product : {X : Type 0} (P : X → Type 0) (d : X) (f : ℕ → ℕ → X) (a m b k : ℕ) → ((i t : ℕ) → i < m → t < k → P (f (a + i) (b + t))) → All P (flat_map (λ j. map (f j) (range_with_len b k)) (range_with_len a m))
each_product P d f a zero b k each = All-nil P
each_product P d f a (suc m) b k each =
    All-append P (map (f a) (range_with_len b k)) (flat_map (λ j. map (f j) (range_with_len b k)) (range_with_len (a + 1) m))
    (All-from_get_or P (map (f a) (range_with_len b k)) d
    (λ t h.
    let inside : t < k = omega (arith, length-map-range_with_len (f a) b k) in
    let place : a + 0 ≡ a = omega arith in
    subst P (sym (get_or-map-range_with_len (f a) b k t (b + t) d inside refl)) (subst (λ j. P (f j (b + t))) place (each 0 t (omega arith) inside))))
    (each_product P d f (a + 1) m b k
    (λ i t l r. let place : a + suc i ≡ a + 1 + i = omega arith in subst (λ j. P (f j (b + t))) place (each (suc i) t (omega arith) r)))

products_fit : NoiseServing → (n bound : ℕ) (key : List (List Bool)) (bit : Bool) (g : GgswRows) (c : List (List ℕ)) → GgswFits n bound key bit g → FitsGlweKey n key c → All (FitsGlweKey n key) (flat_map (part_products g c) (range_with_len 0 (length key + 1)))
products_fit laws n bound key bit g c fits shape =
    each_product (FitsGlweKey n key) [] (row_product g c) 0 (length key + 1) 1 g.level
    (λ i t l r.
    product_fits laws n key (digit_polynomial g.base g.level (1 + t) (get_or c (0 + i) [])) (row_of g (0 + i) (1 + t))
    (laws.digits.polynomial_length g.base g.level (1 + t) (get_or c (0 + i) []) ∙ shape.lengths (0 + i) [] (omega (arith, shape.number)))
    (row_fits n bound key bit g (0 + i) (1 + t) fits (omega arith) (omega arith) (omega arith)))

-- the parts, each rounded
abbrev rounded_parts : GgswRows → List (List ℕ) → List (List ℕ)
rounded_parts g c = map (rounded_polynomial g.base g.level) c

rounded_fits : (n : ℕ) (key : List (List Bool)) (g : GgswRows) (c : List (List ℕ)) → FitsGlweKey n key c → FitsGlweKey n key (rounded_parts g c)
rounded_fits n key g c fits = record {
  number = length-map c (rounded_polynomial g.base g.level) ∙ fits.number;
  lengths =
      All-from_get_or (λ row. length row ≡ n) (rounded_parts g c) []
      (λ i h.
      let inside : i < length c = omega (arith, length-map c (rounded_polynomial g.base g.level)) in
      ap length (get_or-map (rounded_polynomial g.base g.level) c i [] [] inside) ∙ length-map (get_or c i []) _ ∙ fits.lengths i [] inside);
  bits = fits.bits;
}

-- what the rows' errors add
abbrev rows_error : ℕ → List (List Bool) → Bool → GgswRows → List (List ℕ) → List ℕ
rows_error n key bit g c = total n (λ j. total n (λ t. negacyclic_product (digit_polynomial g.base g.level t (get_or c j [])) (row_difference (glwe_phase key (row_of g j t)) (row_message n key bit g.base j t))) 1 g.level) 0 (length key + 1)

-- the phase of a product: the bit times the phase of the rounded parts, and what the rows' errors add
phase_is : NoiseServing → (n bound : ℕ) (key : List (List Bool)) (bit : Bool) (g : GgswRows) (c : List (List ℕ)) → 0 < n → GgswFits n bound key bit g → FitsGlweKey n key c → glwe_phase key (external_product g c) ≡ row_sum (scaled_row (bit_word bit) (glwe_phase key (rounded_parts g c))) (rows_error n key bit g c)
unfolding external_product
phase_is laws n bound key bit g c pos fits shape =
    let parts : ℕ = length key + 1 in
    let m : ℕ = bit_word bit in
    let phase : List (List ℕ) → List ℕ = glwe_phase key in
    let degree : degree_of c ≡ n = shape.lengths 0 [] (omega (arith, shape.number)) in
    let digit : ℕ → ℕ → List ℕ = λ j t. digit_polynomial g.base g.level t (get_or c j []) in
    let part_long : (j : ℕ) → j < parts → length (get_or c j []) ≡ n = λ j l. shape.lengths j [] (omega (arith, shape.number)) in
    let digit_long : (j t : ℕ) → j < parts → length (digit j t) ≡ n = λ j t l. laws.digits.polynomial_length g.base g.level t (get_or c j []) ∙ part_long j l in
    let message : ℕ → ℕ → List ℕ = row_message n key bit g.base in
    let message_long : (j t : ℕ) → j < parts → length (message j t) ≡ n = λ j t l.
    length-map (scaled_row (place_weight g.base t) (get_or (part_factors n key) j [])) (λ x. word_product m x)
    ∙ length-map (get_or (part_factors n key) j []) (λ x. word_product (place_weight g.base t) x)
    ∙ factor_length laws.plain n key j shape.bits (omega arith) in
    let error : ℕ → ℕ → List ℕ = λ j t. row_difference (phase (row_of g j t)) (message j t) in
    let row_ok : (j t : ℕ) → j < parts → 1 ≤ t → t ≤ g.level → FitsGlweKey n key (row_of g j t) = λ j t l p q. row_fits n bound key bit g j t fits (omega arith) p q in
    let row_long : (j t : ℕ) → j < parts → 1 ≤ t → t ≤ g.level → length (phase (row_of g j t)) ≡ n = λ j t l p q. laws.phases.phase_length n key (row_of g j t) (row_ok j t l p q) in
    let product_phase : (j t : ℕ) → j < parts → 1 ≤ t → t ≤ g.level → phase (row_product g c j t) ≡ row_sum (negacyclic_product (digit j t) (message j t)) (negacyclic_product (digit j t) (error j t)) = λ j t l p q.
    let error_long : length (error j t) ≡ n = laws.plain.rows.zip_length word_difference (phase (row_of g j t)) (message j t) ∙ omega (arith, row_long j t l p q, message_long j t l) in
    laws.phases.phase_product n (digit j t) key (row_of g j t) (digit_long j t l) (row_ok j t l p q)
    ∙ ap (negacyclic_product (digit j t)) (sym (laws.plain.ring.sum_difference (message j t) (phase (row_of g j t)) (message_long j t l ∙ sym (row_long j t l p q)) (laws.phases.phase_words key (row_of g j t))))
    ∙ laws.plain.products.product_sum (digit j t) (message j t) (error j t) (digit_long j t l ∙ sym (message_long j t l)) (message_long j t l ∙ sym error_long) in
    let term_long : (j t : ℕ) → j < parts → 1 ≤ t → t ≤ g.level → length (phase (row_product g c j t)) ≡ n = λ j t l p q.
    ap length (laws.phases.phase_product n (digit j t) key (row_of g j t) (digit_long j t l) (row_ok j t l p q))
    ∙ laws.plain.products.product_length (digit j t) (phase (row_of g j t)) ∙ digit_long j t l in
    let all_fit : All (FitsGlweKey n key) (flat_map (part_products g c) (range_with_len 0 parts)) = products_fit laws n bound key bit g c fits shape in
    let terms : List (List (List ℕ)) = flat_map (part_products g c) (range_with_len 0 parts) in
    ap (λ k. phase (sum_of_glwes k (degree_of c) (flat_map (part_products g c) (range_with_len 0 k)))) shape.number
    ∙ ap (λ k. phase (sum_of_glwes parts k terms)) degree
    ∙ phase_of_sum laws.plain.totals laws.phases n key terms shape.bits all_fit
    ∙ ap (sum_of_rows n) (map-products phase (row_product g c) (range_with_len 1 g.level) (range_with_len 0 parts))
    ∙ total-flat laws.plain.totals n (λ j. map (λ t. phase (row_product g c j t)) (range_with_len 1 g.level)) (range_with_len 0 parts)
    (All-from_get_or (λ j. AllOfLength n (map (λ t. phase (row_product g c j t)) (range_with_len 1 g.level))) (range_with_len 0 parts) 0
    (λ i h.
    let inside : i < parts = omega (arith, length-range_with_len 0 parts) in
    let read : get_or (range_with_len 0 parts) i 0 ≡ i = get_or-range_with_len 0 parts i 0 inside ∙ omega arith in
    subst (λ j. AllOfLength n (map (λ t. phase (row_product g c j t)) (range_with_len 1 g.level))) (sym read)
    (lengths_of_terms n 1 g.level (λ t. phase (row_product g c i t)) (λ t l. term_long i (1 + t) inside (omega arith) (omega arith)))))
    ∙ total-same n 0 parts (λ j. total n (λ t. phase (row_product g c j t)) 1 g.level) (λ j. row_sum (scaled_row m (counted n key (rounded_parts g c) j)) (total n (λ t. negacyclic_product (digit j t) (error j t)) 1 g.level))
    (λ i l.
    let j : ℕ = 0 + i in
    let inside : j < parts = omega arith in
    total-same n 1 g.level (λ t. phase (row_product g c j t)) (λ t. row_sum (negacyclic_product (digit j t) (message j t)) (negacyclic_product (digit j t) (error j t)))
    (λ t r. product_phase j (1 + t) inside (omega arith) (omega arith))
    ∙ total-sum laws.plain.ring n g.level 1 (λ t. negacyclic_product (digit j t) (message j t)) (λ t. negacyclic_product (digit j t) (error j t))
    ∙ ap (λ x. row_sum x (total n (λ t. negacyclic_product (digit j t) (error j t)) 1 g.level))
    (part_messages laws n m g.base g.level (get_or c j []) (get_or (part_factors n key) j []) fits.gadget (part_long j inside) (factor_length laws.plain n key j shape.bits (omega arith))
    ∙ ap (λ x. scaled_row m (negacyclic_product x (get_or (part_factors n key) j []))) (sym (get_or-map (rounded_polynomial g.base g.level) c j [] [] (omega (arith, shape.number))))))
    ∙ total-sum laws.plain.ring n parts 0 (λ j. scaled_row m (counted n key (rounded_parts g c) j)) (λ j. total n (λ t. negacyclic_product (digit j t) (error j t)) 1 g.level)
    ∙ ap (λ x. row_sum x (rows_error n key bit g c))
    (total-scaled laws.plain.totals n m 0 parts (counted n key (rounded_parts g c))
    ∙ ap (scaled_row m)
    (ap (total n (counted n key (rounded_parts g c)) 0) (add-one (length key))
    ∙ sym (phase_by_parts laws.plain n key (rounded_parts g c) pos (rounded_fits n key g c shape))))

-- the product fits the key
pub external_fits : NoiseServing → (n bound : ℕ) (key : List (List Bool)) (bit : Bool) (g : GgswRows) (c : List (List ℕ)) → GgswFits n bound key bit g → FitsGlweKey n key c → FitsGlweKey n key (external_product g c)
unfolding external_product
external_fits laws n bound key bit g c fits shape =
    let degree : degree_of c ≡ n = shape.lengths 0 [] (omega (arith, shape.number)) in
    let terms : List (List (List ℕ)) = flat_map (part_products g c) (range_with_len 0 (length key + 1)) in
    subst (λ k. FitsGlweKey n key (sum_of_glwes k (degree_of c) (flat_map (part_products g c) (range_with_len 0 k)))) (sym shape.number)
    (subst (λ k. FitsGlweKey n key (sum_of_glwes (length key + 1) k terms)) (sym degree)
    (sum_fits laws.plain.totals n key terms shape.bits (products_fit laws n bound key bit g c fits shape)))

-- an operation on two ciphertexts that fit
zip_fits : RowLaws → (f : ℕ → ℕ → ℕ) (n : ℕ) (key : List (List Bool)) (xs ys : List (List ℕ)) → FitsGlweKey n key xs → FitsGlweKey n key ys → FitsGlweKey n key (zip_rows (zip_words f) xs ys)
zip_fits rows f n key xs ys p q =
    let pairs = zip xs ys in
    let pairs_long : length pairs ≡ length key + 1 = length-zip xs ys ∙ omega (arith, p.number, q.number) in
    let whole : length (zip_rows (zip_words f) xs ys) ≡ length key + 1 = length-map pairs (λ (p : List ℕ × List ℕ). zip_words f p.0 p.1) ∙ pairs_long in
    record {
      number = whole;
      lengths =
          All-from_get_or (λ row. length row ≡ n) (zip_rows (zip_words f) xs ys) []
          (λ i h.
          let inside : i < length key + 1 = omega arith in
          let x_long : length (get_or xs i []) ≡ n = p.lengths i [] (omega (arith, p.number)) in
          let y_long : length (get_or ys i []) ≡ n = q.lengths i [] (omega (arith, q.number)) in
          ap length (get_or-map (λ (p : List ℕ × List ℕ). zip_words f p.0 p.1) pairs i ([], []) [] (omega arith))
          ∙ ap (λ (p : List ℕ × List ℕ). length (zip_words f p.0 p.1)) (get_or-zip xs ys i ([], []) (omega (arith, p.number)) (omega (arith, q.number)))
          ∙ rows.zip_length f (get_or xs i []) (get_or ys i [])
          ∙ omega arith);
      bits = p.bits;
    }

-- rounding changes no word of the parts by more than half the weight of the last place
rounding_fits : NoiseServing → (n : ℕ) (key : List (List Bool)) (g : GgswRows) (c : List (List ℕ)) → IsGadget g.base g.level → FitsGlweKey n key c → All (RowWithin (2 ^ (63 - g.base * g.level))) (zip_rows row_difference (rounded_parts g c) c)
rounding_fits laws n key g c gadget shape =
    let half : ℕ = 2 ^ (63 - g.base * g.level) in
    let round : List ℕ → List ℕ = rounded_polynomial g.base g.level in
    let rounded : List (List ℕ) = rounded_parts g c in
    let rounded_long : length rounded ≡ length c = length-map c round in
    let pairs = zip rounded c in
    let pairs_long : length pairs ≡ length c = length-zip rounded c ∙ omega arith in
    All-from_get_or (RowWithin half) (zip_rows row_difference rounded c) []
    (λ i h.
    let inside : i < length c = omega (arith, length-map pairs (λ (p : List ℕ × List ℕ). row_difference p.0 p.1)) in
    subst (RowWithin half)
    (sym
    (get_or-map (λ (p : List ℕ × List ℕ). row_difference p.0 p.1) pairs i ([], []) [] (omega arith)
    ∙ ap (λ (p : List ℕ × List ℕ). row_difference p.0 p.1) (get_or-zip rounded c i ([], []) (omega arith) inside)
    ∙ ap (λ x. row_difference x (get_or c i [])) (get_or-map round c i [] [] inside)))
    (laws.digits.rounding_within g.base g.level (get_or c i []) gadget))

-- minus another row, of a sum
sum_minus : NoiseServing → (n : ℕ) (a b y : List ℕ) → length b ≡ n → All IsWord b → length y ≡ n → All IsWord y → row_difference (row_sum a y) b ≡ row_sum (row_difference a b) y
sum_minus laws n a b y b_long b_words y_long y_words =
    let zeros : List ℕ = replicate n 0 in
    let whole : b ≡ row_sum b zeros = sym (laws.plain.ring.sum_zero b b_words) ∙ ap (λ k. row_sum b (replicate k 0)) b_long in
    ap (row_difference (row_sum a y)) whole
    ∙ laws.plain.ring.difference_of_sums a y b zeros
    ∙ ap (row_sum (row_difference a b)) (minus_zeros laws.plain.rows n y y_long ∙ one_times y y_words)

-- the error of a row is as long as the row
error_length : NoiseServing → (n bound : ℕ) (key : List (List Bool)) (bit : Bool) (g : GgswRows) (j t : ℕ) → GgswFits n bound key bit g → All (λ bits. length bits ≡ n) key → j ≤ length key → 1 ≤ t → t ≤ g.level → length (row_difference (glwe_phase key (row_of g j t)) (row_message n key bit g.base j t)) ≡ n
error_length laws n bound key bit g j t fits key_fits within from upto =
    let factor : List ℕ = get_or (part_factors n key) j [] in
    let x_long : length (glwe_phase key (row_of g j t)) ≡ n = laws.phases.phase_length n key (row_of g j t) (row_fits n bound key bit g j t fits within from upto) in
    let y_long : length (row_message n key bit g.base j t) ≡ n =
    length-map (scaled_row (place_weight g.base t) factor) (λ x. word_product (bit_word bit) x)
    ∙ length-map factor (λ x. word_product (place_weight g.base t) x)
    ∙ factor_length laws.plain n key j key_fits within in
    laws.plain.rows.zip_length word_difference (glwe_phase key (row_of g j t)) (row_message n key bit g.base j t) ∙ omega arith

-- what they add has n words
rows_error_length : NoiseServing → (n bound : ℕ) (key : List (List Bool)) (bit : Bool) (g : GgswRows) (c : List (List ℕ)) → GgswFits n bound key bit g → FitsGlweKey n key c → length (rows_error n key bit g c) ≡ n
rows_error_length laws n bound key bit g c fits shape =
    let digit : ℕ → ℕ → List ℕ = λ j t. digit_polynomial g.base g.level t (get_or c j []) in
    let error : ℕ → ℕ → List ℕ = λ j t. row_difference (glwe_phase key (row_of g j t)) (row_message n key bit g.base j t) in
    length-total laws.plain.totals n 0 (length key + 1) (λ j. total n (λ t. negacyclic_product (digit j t) (error j t)) 1 g.level)
    (λ i l.
    length-total laws.plain.totals n 1 g.level (λ t. negacyclic_product (digit (0 + i) t) (error (0 + i) t))
    (λ k r.
    laws.plain.products.product_length (digit (0 + i) (1 + k)) (error (0 + i) (1 + k))
    ∙ laws.digits.polynomial_length g.base g.level (1 + k) (get_or c (0 + i) [])
    ∙ shape.lengths (0 + i) [] (omega (arith, shape.number))))

rows_error_words : NoiseServing → (n : ℕ) (key : List (List Bool)) (bit : Bool) (g : GgswRows) (c : List (List ℕ)) → All IsWord (rows_error n key bit g c)
rows_error_words laws n key bit g c =
    laws.plain.totals.total_words n
    (map (λ j. total n (λ t. negacyclic_product (digit_polynomial g.base g.level t (get_or c j [])) (row_difference (glwe_phase key (row_of g j t)) (row_message n key bit g.base j t))) 1 g.level) (range_with_len 0 (length key + 1)))

-- 0 times a row
zero_times : (xs : List ℕ) → scaled_row 0 xs ≡ replicate (length xs) 0
zero_times xs =
    ext_get_or 0 (scaled_row 0 xs) (replicate (length xs) 0) (length-map xs (λ x. word_product 0 x) ∙ sym (length-replicate (length xs) 0))
    (λ i h.
    let inside : i < length xs = omega (arith, length-map xs (λ x. word_product 0 x)) in
    get_or-map (λ x. word_product 0 x) xs i 0 0 inside
    ∙ ap (λ t. t % 2 ^ 64) (zero-mul (get_or xs i 0))
    ∙ sym (get_or-replicate (length xs) i 0 0 inside))

-- what the errors of the rows add is small
rows_error_within : NoiseServing → (n bound : ℕ) (key : List (List Bool)) (bit : Bool) (g : GgswRows) (c : List (List ℕ)) → GgswFits n bound key bit g → FitsGlweKey n key c → RowWithin ((length key + 1) * (g.level * (n * (2 ^ (g.base - 1) * bound)))) (rows_error n key bit g c)
rows_error_within laws n bound key bit g c fits shape =
    let digit : ℕ → ℕ → List ℕ = λ j t. digit_polynomial g.base g.level t (get_or c j []) in
    let error : ℕ → ℕ → List ℕ = λ j t. row_difference (glwe_phase key (row_of g j t)) (row_message n key bit g.base j t) in
    total-within laws.plain.totals n (g.level * (n * (2 ^ (g.base - 1) * bound))) 0 (length key + 1) (λ j. total n (λ t. negacyclic_product (digit j t) (error j t)) 1 g.level)
    (λ i l.
    let j : ℕ = 0 + i in
    total-within laws.plain.totals n (n * (2 ^ (g.base - 1) * bound)) 1 g.level (λ t. negacyclic_product (digit j t) (error j t))
    (λ k r.
    let t : ℕ = 1 + k in
    let digit_long : length (digit j t) ≡ n = laws.digits.polynomial_length g.base g.level t (get_or c j []) ∙ shape.lengths j [] (omega (arith, shape.number)) in
    let error_long : length (error j t) ≡ n = error_length laws n bound key bit g j t fits shape.bits (omega arith) (omega arith) (omega arith) in
    subst (λ m. RowWithin (m * (2 ^ (g.base - 1) * bound)) (negacyclic_product (digit j t) (error j t))) error_long
    (laws.product_sizes.product_bound (2 ^ (g.base - 1)) bound (digit j t) (error j t) (digit_long ∙ sym error_long)
    (laws.digits.polynomial_within g.base g.level t (get_or c j []) fits.gadget) (fits.errors j t (omega arith) (omega arith) (omega arith)))))

-- the bounds together
bounds_together : (m ones few parts level n half weight bound : ℕ) → m ≤ 1 → few ≤ ones → size m * ((1 + few) * half) + parts * (level * (n * (weight * bound))) ≤ parts * level * n * weight * bound + m * ((1 + ones) * half)
bounds_together m ones few parts level n half weight bound small le =
    let same : parts * (level * (n * (weight * bound))) ≡ parts * level * n * weight * bound =
    sym (mul_assoc (parts * level * n) weight bound ∙ mul_assoc (parts * level) n (weight * bound) ∙ mul_assoc parts level (n * (weight * bound))) in
    let grown : (1 + few) * half ≤ (1 + ones) * half = mul-le-mul_right half (omega arith) in
    let sized : size m ≡ m = omega arith in
    let scaled : m * ((1 + few) * half) ≤ m * ((1 + ones) * half) = mul-le-mul_left m grown in
    let step : size m * ((1 + few) * half) ≡ m * ((1 + few) * half) = ap (λ t. t * ((1 + few) * half)) sized in
    omega arith

bit_small : (bit : Bool) → bit_word bit ≤ 1
bit_small true = omega arith
bit_small false = omega arith

-- the noise of a product of polynomials with a coefficient at least
external_noise_some : NoiseServing → (n ones bound : ℕ) (key : List (List Bool)) (bit : Bool) (g : GgswRows) (c : List (List ℕ)) → 0 < n → GgswFits n bound key bit g → ones_of (flat_key_of key) ≤ ones → FitsGlweKey n key c → RowWithin (product_noise n ones bound key bit g) (row_difference (glwe_phase key (external_product g c)) (scaled_row (bit_word bit) (glwe_phase key c)))
external_noise_some laws n ones bound key bit g c pos fits few shape =
    let m : ℕ = bit_word bit in
    let phase : List (List ℕ) → List ℕ = glwe_phase key in
    let rounded : List (List ℕ) = rounded_parts g c in
    let more : List (List ℕ) = zip_rows row_difference rounded c in
    let error : List ℕ = rows_error n key bit g c in
    let half : ℕ = 2 ^ (63 - g.base * g.level) in
    let rounded_shape = rounded_fits n key g c shape in
    let more_shape : FitsGlweKey n key more = zip_fits laws.plain.rows word_difference n key rounded c rounded_shape shape in
    let phase_long : length (phase c) ≡ n = laws.phases.phase_length n key c shape in
    let target_long : length (scaled_row m (phase c)) ≡ n = length-map (phase c) (λ x. word_product m x) ∙ phase_long in
    let error_long : length error ≡ n = rows_error_length laws n bound key bit g c fits shape in
    let is : row_difference (phase (external_product g c)) (scaled_row m (phase c)) ≡ row_sum (scaled_row m (phase more)) error =
    ap (λ x. row_difference x (scaled_row m (phase c))) (phase_is laws n bound key bit g c pos fits shape)
    ∙ sum_minus laws n (scaled_row m (phase rounded)) (scaled_row m (phase c)) error target_long (laws.plain.ring.scaled_are_words m (phase c)) error_long (rows_error_words laws n key bit g c)
    ∙ ap (λ x. row_sum x error) (sym (laws.plain.ring.scaled_difference m (phase rounded) (phase c)) ∙ ap (scaled_row m) (sym (laws.phases.phase_difference n key rounded c rounded_shape shape))) in
    let small : RowWithin ((1 + ones_of (flat_key_of key)) * half) (phase more) = laws.phase_sizes.phase_size n half key more more_shape (rounding_fits laws n key g c fits.gadget shape) in
    let scaled : RowWithin (size m * ((1 + ones_of (flat_key_of key)) * half)) (scaled_row m (phase more)) = laws.sizes.scaled_within m ((1 + ones_of (flat_key_of key)) * half) (phase more) small in
    subst (RowWithin (product_noise n ones bound key bit g)) (sym is)
    (within_more _ _ (row_sum (scaled_row m (phase more)) error) (bounds_together m ones (ones_of (flat_key_of key)) (length key + 1) g.level n half (2 ^ (g.base - 1)) bound (bit_small bit) few)
    (laws.sizes.sum_within _ _ (scaled_row m (phase more)) error scaled (rows_error_within laws n bound key bit g c fits shape)))

pub external_noise : NoiseServing → (n ones bound : ℕ) (key : List (List Bool)) (bit : Bool) (g : GgswRows) (c : List (List ℕ)) → GgswFits n bound key bit g → ones_of (flat_key_of key) ≤ ones → FitsGlweKey n key c → RowWithin (product_noise n ones bound key bit g) (row_difference (glwe_phase key (external_product g c)) (scaled_row (bit_word bit) (glwe_phase key c)))
external_noise laws n ones bound key bit g c fits few shape =
    ⊎_elim
    (λ (pos : 0 < n). external_noise_some laws n ones bound key bit g c pos fits few shape)
    (λ (none : n ≤ 0).
    let long : length (glwe_phase key (external_product g c)) ≡ n = laws.phases.phase_length n key (external_product g c) (external_fits laws n bound key bit g c fits shape) in
    λ k d h. absurd (omega (arith, laws.plain.rows.zip_length word_difference (glwe_phase key (external_product g c)) (scaled_row (bit_word bit) (glwe_phase key c)))))
    (cases_lt 0 n)

-- the phase that a bit selects
selected_phase : NoiseServing → (n : ℕ) (key : List (List Bool)) (bit : Bool) (acc other : List (List ℕ)) → FitsGlweKey n key acc → FitsGlweKey n key other → glwe_phase key (cond bit other acc) ≡ row_sum (glwe_phase key acc) (scaled_row (bit_word bit) (row_difference (glwe_phase key other) (glwe_phase key acc)))
selected_phase laws n key true acc other p q =
    let a : List ℕ = glwe_phase key acc in
    let b : List ℕ = glwe_phase key other in
    let a_long : length a ≡ n = laws.phases.phase_length n key acc p in
    let b_long : length b ≡ n = laws.phases.phase_length n key other q in
    sym (laws.plain.ring.sum_difference a b (a_long ∙ sym b_long) (laws.phases.phase_words key other))
    ∙ ap (row_sum a) (sym (one_times (row_difference b a) (laws.plain.ring.zip_are_words word_difference b a (λ x y. omega arith))))
selected_phase laws n key false acc other p q =
    let a : List ℕ = glwe_phase key acc in
    let b : List ℕ = glwe_phase key other in
    let a_long : length a ≡ n = laws.phases.phase_length n key acc p in
    let b_long : length b ≡ n = laws.phases.phase_length n key other q in
    let d_long : length (row_difference b a) ≡ n = laws.plain.rows.zip_length word_difference b a ∙ omega arith in
    sym (laws.plain.ring.sum_zero a (laws.phases.phase_words key acc))
    ∙ ap (λ k. row_sum a (replicate k 0)) (a_long ∙ sym d_long)
    ∙ ap (row_sum a) (sym (zero_times (row_difference b a)))

pub cmux_noise : NoiseServing → (n ones bound : ℕ) (key : List (List Bool)) (bit : Bool) (g : GgswRows) (acc other : List (List ℕ)) → GgswFits n bound key bit g → ones_of (flat_key_of key) ≤ ones → FitsGlweKey n key acc → FitsGlweKey n key other → RowWithin (product_noise n ones bound key bit g) (row_difference (glwe_phase key (cmux_of g acc other)) (glwe_phase key (cond bit other acc)))
cmux_noise laws n ones bound key bit g acc other fits few p q =
    let m : ℕ = bit_word bit in
    let a : List ℕ = glwe_phase key acc in
    let more : List (List ℕ) = zip_rows row_difference other acc in
    let more_shape : FitsGlweKey n key more = zip_fits laws.plain.rows word_difference n key other acc q p in
    let product : List (List ℕ) = external_product g more in
    let x : List ℕ = glwe_phase key product in
    let d : List ℕ = scaled_row m (glwe_phase key more) in
    let a_long : length a ≡ n = laws.phases.phase_length n key acc p in
    let x_long : length x ≡ n = laws.phases.phase_length n key product (external_fits laws n bound key bit g more fits more_shape) in
    let d_long : length d ≡ n = length-map (glwe_phase key more) (λ w. word_product m w) ∙ laws.phases.phase_length n key more more_shape in
    let e : List ℕ = row_difference x d in
    let e_long : length e ≡ n = laws.plain.rows.zip_length word_difference x d ∙ omega arith in
    let is : row_difference (glwe_phase key (cmux_of g acc other)) (glwe_phase key (cond bit other acc)) ≡ e =
    ap (λ t. row_difference t (glwe_phase key (cond bit other acc))) (laws.phases.phase_sum n key acc product p (external_fits laws n bound key bit g more fits more_shape))
    ∙ ap (row_difference (row_sum a x)) (selected_phase laws n key bit acc other p q ∙ ap (λ t. row_sum a (scaled_row m t)) (sym (laws.phases.phase_difference n key other acc q p)))
    ∙ laws.plain.ring.difference_of_sums a x a d
    ∙ ap (λ t. row_sum t e) (laws.plain.ring.difference_same a ∙ ap (λ k. replicate k 0) a_long)
    ∙ laws.plain.ring.sum_commutative (replicate n 0) e
    ∙ ap (λ k. row_sum e (replicate k 0)) (sym e_long)
    ∙ laws.plain.ring.sum_zero e (laws.plain.ring.zip_are_words word_difference x d (λ x y. omega arith)) in
    subst (RowWithin (product_noise n ones bound key bit g)) (sym is) (external_noise laws n ones bound key bit g more fits few more_shape)

-- CMux fits the key that both ciphertexts fit
pub cmux_fits : NoiseServing → (n bound : ℕ) (key : List (List Bool)) (bit : Bool) (g : GgswRows) (acc other : List (List ℕ)) → GgswFits n bound key bit g → FitsGlweKey n key acc → FitsGlweKey n key other → FitsGlweKey n key (cmux_of g acc other)
cmux_fits laws n bound key bit g acc other fits p q =
    let more : List (List ℕ) = zip_rows row_difference other acc in
    zip_fits laws.plain.rows word_sum n key acc (external_product g more) p
    (external_fits laws n bound key bit g more fits (zip_fits laws.plain.rows word_difference n key other acc q p))
