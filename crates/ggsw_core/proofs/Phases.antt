-- Phases of sums of ciphertexts, and phases as sums over parts.
use Rattle.std.proofs.Common.{◌≡◌, ℕ, suc, ◌+◌, ◌<◌, ◌^◌, Bool, List, [], ◌∷◌, map, length, get_or, replicate, arith, ap, sym, refl, ◌∙◌}
use Rattle.std.specs.List.{All, zip}
use Rattle.std.proofs.lemmas.List.{ext_get_or, length-replicate, get_or-replicate, length-map, get_or-map}
use Rattle.std.proofs.lemmas.List.FromFn.{length-map-range_with_len, get_or-map-range_with_len}
use Rattle.std.proofs.lemmas.List.Elements.{All-head, All-tail, All-from_get_or, All-map, All-weaker}
use Rattle.std.proofs.lemmas.Slice.Zip.{length-zip, get_or-zip}
use Rattle.word_ring.specs.Words.{IsWord, word_sum, word_difference, word_product, word_negation}
use Rattle.word_ring.specs.Rows.{row_sum, row_difference, scaled_row, sum_of_rows, zip_rows, RowLaws}
use Rattle.word_ring.specs.RowLaws.{RowRingLaws, RowTotalLaws}
use Rattle.lwe_core.specs.Secret.{bit_words}
use Rattle.negacyclic.specs.Product.{negacyclic_product, monomial}
use Rattle.negacyclic.specs.Laws.{ProductLaws, RotationLaws}
use Rattle.glwe_core.specs.Glwe.{degree_of, FitsGlweKey, body_of, mask_products, mask_sum, glwe_phase}
use Rattle.glwe_core.specs.Laws.{GlwePhaseLaws}
use Rattle.ggsw_core.specs.Ggsw.{sum_of_glwes}
use Rattle.ggsw_core.specs.Noise.{part_factors}
use Rattle.ggsw_core.proofs.Totals.{total, total-shifted}

-- no term
no_terms : (parts n : ℕ) → sum_of_glwes parts n [] ≡ replicate parts (replicate {A = ℕ} n 0)
no_terms parts n =
    ext_get_or [] (sum_of_glwes parts n []) (replicate parts (replicate {A = ℕ} n 0))
    (length-map-range_with_len (λ i. replicate {A = ℕ} n 0) 0 parts ∙ sym (length-replicate parts (replicate {A = ℕ} n 0)))
    (λ i h.
    let inside : i < parts = omega (arith, length-map-range_with_len (λ i. replicate {A = ℕ} n 0) 0 parts) in
    get_or-map-range_with_len (λ i. replicate {A = ℕ} n 0) 0 parts i (0 + i) [] inside refl ∙ sym (get_or-replicate parts i (replicate {A = ℕ} n 0) [] inside))

-- a first term
first_term : (parts n : ℕ) (c : List (List ℕ)) (terms : List (List (List ℕ))) → length c ≡ parts → sum_of_glwes parts n (c ∷ terms) ≡ zip_rows row_sum c (sum_of_glwes parts n terms)
first_term parts n c terms long =
    let column : ℕ → List ℕ = λ i. sum_of_rows n (map (λ c. get_or c i []) terms) in
    let whole : ℕ → List ℕ = λ i. row_sum (get_or c i []) (column i) in
    let rest : List (List ℕ) = sum_of_glwes parts n terms in
    let rest_long : length rest ≡ parts = length-map-range_with_len column 0 parts in
    let pairs = zip c rest in
    let pairs_long : length pairs ≡ parts = length-zip c rest ∙ omega arith in
    ext_get_or [] (sum_of_glwes parts n (c ∷ terms)) (zip_rows row_sum c rest)
    (length-map-range_with_len whole 0 parts ∙ sym (length-map pairs (λ p. row_sum p.0 p.1) ∙ pairs_long))
    (λ i h.
    let inside : i < parts = omega (arith, length-map-range_with_len whole 0 parts) in
    let place : 0 + i ≡ i = omega arith in
    get_or-map-range_with_len whole 0 parts i i [] inside place
    ∙ ap (row_sum (get_or c i [])) (sym (get_or-map-range_with_len column 0 parts i i [] inside place))
    ∙ ap (λ (p : List ℕ × List ℕ). row_sum p.0 p.1) (sym (get_or-zip c rest i ([], []) (omega arith) (omega arith)))
    ∙ sym (get_or-map (λ (p : List ℕ × List ℕ). row_sum p.0 p.1) pairs i ([], []) [] (omega arith)))

-- a sum fits the key that its terms fit
pub sum_fits : RowTotalLaws → (n : ℕ) (key : List (List Bool)) (terms : List (List (List ℕ))) → All (λ bits. length bits ≡ n) key → All (FitsGlweKey n key) terms → FitsGlweKey n key (sum_of_glwes (length key + 1) n terms)
sum_fits totals n key terms key_fits fit =
    let parts : ℕ = length key + 1 in
    let column : ℕ → List ℕ = λ i. sum_of_rows n (map (λ c. get_or c i []) terms) in
    record {
      number = length-map-range_with_len column 0 parts;
      lengths =
          All-from_get_or (λ row. length row ≡ n) (sum_of_glwes parts n terms) []
          (λ i h.
          let inside : i < parts = omega (arith, length-map-range_with_len column 0 parts) in
          let place : 0 + i ≡ i = omega arith in
          ap length (get_or-map-range_with_len column 0 parts i i [] inside place)
          ∙ totals.total_length n (map (λ c. get_or c i []) terms)
          (All-map (λ row. length row ≡ n) (λ c. get_or c i []) terms
          (All-weaker (FitsGlweKey n key) (λ c. length (get_or c i []) ≡ n) (λ c fits. fits.lengths i [] (omega (arith, fits.number))) terms fit)));
      bits = key_fits;
    }

-- the phase of a sum is the sum of the phases
pub phase_of_sum : RowTotalLaws → GlwePhaseLaws → (n : ℕ) (key : List (List Bool)) (terms : List (List (List ℕ))) → All (λ bits. length bits ≡ n) key → All (FitsGlweKey n key) terms → glwe_phase key (sum_of_glwes (length key + 1) n terms) ≡ sum_of_rows n (map (glwe_phase key) terms)
phase_of_sum totals phases n key [] key_fits fit = ap (glwe_phase key) (no_terms (length key + 1) n) ∙ phases.phase_zero n key key_fits
phase_of_sum totals phases n key (c ∷ terms) key_fits fit =
    let here = All-head (FitsGlweKey n key) c terms fit in
    let rest = All-tail (FitsGlweKey n key) c terms fit in
    ap (glwe_phase key) (first_term (length key + 1) n c terms here.number)
    ∙ phases.phase_sum n key c (sum_of_glwes (length key + 1) n terms) here (sum_fits totals n key terms key_fits rest)
    ∙ ap (row_sum (glwe_phase key c)) (phase_of_sum totals phases n key terms key_fits rest)

-- 1 times a row of words
pub one_times : (xs : List ℕ) → All IsWord xs → scaled_row 1 xs ≡ xs
one_times xs fit =
    ext_get_or 0 (scaled_row 1 xs) xs (length-map xs (λ x. word_product 1 x))
    (λ i h.
    let inside : i < length xs = omega (arith, length-map xs (λ x. word_product 1 x)) in
    let small : get_or xs i 0 < 2 ^ 64 = fit i 0 inside in
    get_or-map (λ x. word_product 1 x) xs i 0 0 inside ∙ omega arith)

-- a polynomial times 1
times_one : RowRingLaws → ProductLaws → RotationLaws → (n : ℕ) (b : List ℕ) → length b ≡ n → 0 < n → negacyclic_product b (monomial n 0) ≡ scaled_row 1 b
times_one ring products rotations n b e pos =
    let unit : List ℕ = monomial n 0 in
    let unit_long : length unit ≡ n = rotations.monomial_length n 0 in
    let reduced : List ℕ = scaled_row 1 b in
    let reduced_long : length reduced ≡ n = length-map b (λ x. word_product 1 x) ∙ e in
    sym (one_times (negacyclic_product b unit) (products.product_words b unit))
    ∙ sym (products.scaled_product 1 b unit (e ∙ sym unit_long))
    ∙ ap (λ m. negacyclic_product reduced (monomial m 0)) (sym reduced_long)
    ∙ products.product_one reduced (omega arith) (ring.scaled_are_words 1 b)

-- minus 0
pub minus_zeros : RowLaws → (n : ℕ) (b : List ℕ) → length b ≡ n → row_difference b (replicate n 0) ≡ scaled_row 1 b
minus_zeros rows n b e =
    let zeros : List ℕ = replicate n 0 in
    let zeros_long : length zeros ≡ n = length-replicate n 0 in
    let whole : length (row_difference b zeros) ≡ n = rows.zip_length word_difference b zeros ∙ omega arith in
    ext_get_or 0 (row_difference b zeros) (scaled_row 1 b) (whole ∙ sym (length-map b (λ x. word_product 1 x) ∙ e))
    (λ i h.
    let inside : i < n = omega arith in
    rows.zip_word word_difference b zeros i (omega arith) (omega arith)
    ∙ ap (word_difference (get_or b i 0)) (get_or-replicate n i 0 0 inside)
    ∙ let same : word_difference (get_or b i 0) 0 ≡ word_product 1 (get_or b i 0) = omega arith in same
    ∙ sym (get_or-map (λ x. word_product 1 x) b i 0 0 (omega arith)))

-- minus a sum
minus_sum : RowLaws → (n : ℕ) (b x y : List ℕ) → length b ≡ n → length x ≡ n → length y ≡ n → row_difference b (row_sum x y) ≡ row_sum (row_difference (replicate n 0) x) (row_difference b y)
minus_sum rows n b x y e f g =
    let zeros : List ℕ = replicate n 0 in
    let zeros_long : length zeros ≡ n = length-replicate n 0 in
    let s : List ℕ = row_sum x y in
    let s_long : length s ≡ n = rows.zip_length word_sum x y ∙ omega arith in
    let u : List ℕ = row_difference zeros x in
    let u_long : length u ≡ n = rows.zip_length word_difference zeros x ∙ omega arith in
    let v : List ℕ = row_difference b y in
    let v_long : length v ≡ n = rows.zip_length word_difference b y ∙ omega arith in
    let left_long : length (row_difference b s) ≡ n = rows.zip_length word_difference b s ∙ omega arith in
    let right_long : length (row_sum u v) ≡ n = rows.zip_length word_sum u v ∙ omega arith in
    ext_get_or 0 (row_difference b s) (row_sum u v) (left_long ∙ sym right_long)
    (λ i h.
    let inside : i < n = omega arith in
    let p : ℕ = get_or b i 0 in
    let q : ℕ = get_or x i 0 in
    let r : ℕ = get_or y i 0 in
    let same : word_difference p (word_sum q r) ≡ word_sum (word_difference 0 q) (word_difference p r) = omega arith in
    rows.zip_word word_difference b s i (omega arith) (omega arith)
    ∙ ap (word_difference p) (rows.zip_word word_sum x y i (omega arith) (omega arith))
    ∙ same
    ∙ ap (λ t. word_sum (word_difference t q) (word_difference p r)) (sym (get_or-replicate n i 0 0 inside))
    ∙ ap (λ t. word_sum t (word_difference p r)) (sym (rows.zip_word word_difference zeros x i (omega arith) (omega arith)))
    ∙ ap (word_sum (get_or u i 0)) (sym (rows.zip_word word_difference b y i (omega arith) (omega arith)))
    ∙ sym (rows.zip_word word_sum u v i (omega arith) (omega arith)))

-- a negated row is 0 minus the row
negated : RowLaws → (n : ℕ) (x : List ℕ) → length x ≡ n → map word_negation x ≡ row_difference (replicate n 0) x
negated rows n x e =
    let zeros : List ℕ = replicate n 0 in
    let zeros_long : length zeros ≡ n = length-replicate n 0 in
    let whole : length (row_difference zeros x) ≡ n = rows.zip_length word_difference zeros x ∙ omega arith in
    ext_get_or 0 (map word_negation x) (row_difference zeros x) (length-map x word_negation ∙ e ∙ sym whole)
    (λ i h.
    let inside : i < n = omega (arith, length-map x word_negation) in
    let same : word_negation (get_or x i 0) ≡ word_difference 0 (get_or x i 0) = omega arith in
    get_or-map word_negation x i 0 0 (omega arith)
    ∙ same
    ∙ ap (λ t. word_difference t (get_or x i 0)) (sym (get_or-replicate n i 0 0 inside))
    ∙ sym (rows.zip_word word_difference zeros x i (omega arith) (omega arith)))

-- a product with a negated row
times_negated : RowLaws → ProductLaws → (n : ℕ) (a s : List ℕ) → length a ≡ n → length s ≡ n → negacyclic_product a (map word_negation s) ≡ row_difference (replicate n 0) (negacyclic_product a s)
times_negated rows products n a s e f =
    let zeros : List ℕ = replicate n 0 in
    ap (negacyclic_product a) (negated rows n s f)
    ∙ products.product_difference a zeros s (e ∙ sym (length-replicate n 0)) (length-replicate n 0 ∙ sym f)
    ∙ ap (λ t. row_difference t (negacyclic_product a s)) (ap (λ m. negacyclic_product a (replicate m 0)) (sym e) ∙ products.product_zero a ∙ ap (λ m. replicate m 0) e)

-- the laws that serve
pub record Serving : Type 0 where
  pub rows : RowLaws
  pub ring : RowRingLaws
  pub totals : RowTotalLaws
  pub products : ProductLaws
  pub rotations : RotationLaws

-- a part times what it counts
abbrev pub counted : ℕ → List (List Bool) → List (List ℕ) → ℕ → List ℕ
counted n key parts j = negacyclic_product (get_or parts j []) (get_or (part_factors n key) j [])

mask_sum_length : Serving → (n : ℕ) (key : List (List Bool)) (parts : List (List ℕ)) → FitsGlweKey n key parts → length (sum_of_rows n (mask_products key parts)) ≡ n
mask_sum_length laws n key parts fits =
    laws.totals.total_length n (mask_products key parts)
    (All-map (λ row. length row ≡ n) (λ (p : List Bool × List ℕ). negacyclic_product p.1 (bit_words p.0)) (zip key parts)
    (All-from_get_or (λ (p : List Bool × List ℕ). length (negacyclic_product p.1 (bit_words p.0)) ≡ n) (zip key parts) ([], [])
    (λ i h.
    let inside : i < length key = omega (arith, length-zip key parts) in
    let read = get_or-zip key parts i ([], []) inside (omega (arith, fits.number)) in
    ap (λ (p : List Bool × List ℕ). length (negacyclic_product p.1 (bit_words p.0))) read
    ∙ laws.products.product_length (get_or parts i []) (bit_words (get_or key i []))
    ∙ fits.lengths i [] (omega (arith, fits.number)))))

-- the body minus the mask's products, as a sum over all parts
by_parts : Serving → (n : ℕ) (key : List (List Bool)) (parts : List (List ℕ)) → 0 < n → FitsGlweKey n key parts → row_difference (body_of key parts) (sum_of_rows n (mask_products key parts)) ≡ total n (counted n key parts) 0 (suc (length key))
by_parts laws n [] [] pos fits = absurd (omega (arith, fits.number))
by_parts laws n [] (b ∷ rest) pos fits =
    let long : length b ≡ n = fits.lengths 0 [] (omega (arith, fits.number)) in
    let reduced : List ℕ = scaled_row 1 b in
    let reduced_long : length reduced ≡ n = length-map b (λ x. word_product 1 x) ∙ long in
    minus_zeros laws.rows n b long
    ∙ sym (laws.ring.sum_zero reduced (laws.ring.scaled_are_words 1 b))
    ∙ ap (λ m. row_sum reduced (replicate m 0)) reduced_long
    ∙ ap (λ t. row_sum t (replicate n 0)) (sym (times_one laws.ring laws.products laws.rotations n b long pos))
by_parts laws n (bits ∷ key) [] pos fits = absurd (omega (arith, fits.number))
by_parts laws n (bits ∷ key) (a ∷ parts) pos fits =
    let a_long : length a ≡ n = fits.lengths 0 [] (omega (arith, fits.number)) in
    let bits_long : length bits ≡ n = fits.bits 0 [] (omega arith) in
    let words_long : length (bit_words bits) ≡ n = length-map bits _ ∙ bits_long in
    let rest : FitsGlweKey n key parts = record {
      number = omega (arith, fits.number);
      lengths = All-tail (λ row. length row ≡ n) a parts fits.lengths;
      bits = All-tail (λ bits. length bits ≡ n) bits key fits.bits;
    } in
    let body : List ℕ = body_of key parts in
    let body_long : length body ≡ n = rest.lengths (length key) [] (omega (arith, rest.number)) in
    let product : List ℕ = negacyclic_product a (bit_words bits) in
    let product_long : length product ≡ n = laws.products.product_length a (bit_words bits) ∙ a_long in
    let others : List ℕ = sum_of_rows n (mask_products key parts) in
    minus_sum laws.rows n body product others body_long product_long (mask_sum_length laws n key parts rest)
    ∙ ap (λ t. row_sum t (row_difference body others)) (sym (times_negated laws.rows laws.products n a (bit_words bits) a_long words_long))
    ∙ ap (row_sum (negacyclic_product a (map word_negation (bit_words bits)))) (by_parts laws n key parts pos rest)
    ∙ ap (row_sum (negacyclic_product a (map word_negation (bit_words bits)))) (sym (total-shifted n (suc (length key)) (counted n (bits ∷ key) (a ∷ parts))))

-- the phase is the sum over all parts of the part times what it counts
pub phase_by_parts : Serving → (n : ℕ) (key : List (List Bool)) (parts : List (List ℕ)) → 0 < n → FitsGlweKey n key parts → glwe_phase key parts ≡ total n (counted n key parts) 0 (suc (length key))
unfolding glwe_phase mask_sum
phase_by_parts laws n key parts pos fits =
    let degree : degree_of parts ≡ n = fits.lengths 0 [] (omega (arith, fits.number)) in
    ap (λ m. row_difference (body_of key parts) (sum_of_rows m (mask_products key parts))) degree ∙ by_parts laws n key parts pos fits
