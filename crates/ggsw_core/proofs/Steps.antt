-- What the loops of an external product have added.
use Rattle.std.proofs.Common.{◌≡◌, ℕ, ◌+◌, ◌<◌, ◌≤◌, List, [], ◌∷◌, map, length, get_or, replicate, arith, ap, sym, refl, ◌∙◌, subst}
use Rattle.std.specs.List.{All, flat_map, range_with_len}
use Rattle.std.proofs.lemmas.List.{ext_get_or, length-map, get_or-map}
use Rattle.std.proofs.lemmas.List.FromFn.{map-range_with_len_more, length-map-range_with_len, get_or-map-range_with_len}
use Rattle.std.proofs.lemmas.List.Elements.{All-from_get_or, All-cons, All-nil}
use Rattle.word_ring.specs.Words.{IsWord}
use Rattle.word_ring.specs.Rows.{row_sum, row_difference, zip_rows}
use Rattle.gadget_decomp.specs.Decomposition.{digit_polynomial}
use Rattle.glwe_core.specs.Glwe.{lengths_of, degree_of, HasShape, plus_product}
use Rattle.ggsw_core.specs.Ggsw.{GgswRows, IsGgsw, row_lengths, row_of, row_product, part_products, all_products, plus_all, sum_of_glwes, external_product, cmux_of}
use Rattle.ggsw_core.proofs.Additions.{Adding, OfShape, plus_none, plus_one, plus_more, plus_to_zeros, product_shape, of_lengths, own_shape, flat_more, zip_rows_at, length-zip_rows}
use Rattle.ggsw_core.proofs.Rows.{row_shape}
use Rattle.ggsw_core.proofs.NoiseParts.{each_product}

-- a GGSW ciphertext and a ciphertext of one shape
pub record Fitting (g : GgswRows) (c : List (List ℕ)) : Type 0 where
  pub is : IsGgsw g
  pub rows : row_lengths g ≡ lengths_of c
  pub shape : HasShape c

own : (g : GgswRows) (c : List (List ℕ)) → Fitting g c → OfShape (length c) (degree_of c) c
own g c fits = own_shape c fits.shape

-- so are their products
product_fits : Adding → (g : GgswRows) (c : List (List ℕ)) (j t : ℕ) → Fitting g c → j < length c → 1 ≤ t → t ≤ g.level → OfShape (length c) (degree_of c) (row_product g c j t)
product_fits laws g c j t fits inside from upto =
    product_shape laws (length c) (degree_of c) (digit_polynomial g.base g.level t (get_or c j [])) (row_of g j t)
    (length-map (get_or c j []) _ ∙ fits.shape.lengths j [] inside)
    (of_lengths (length c) (degree_of c) c (row_of g j t) (row_shape g c j t fits.is fits.rows inside from upto) (own g c fits))

part_fits : Adding → (g : GgswRows) (c : List (List ℕ)) (j m : ℕ) → Fitting g c → j < length c → m ≤ g.level → All (OfShape (length c) (degree_of c)) (map (row_product g c j) (range_with_len 1 m))
part_fits laws g c j m fits inside upto =
    All-from_get_or (OfShape (length c) (degree_of c)) (map (row_product g c j) (range_with_len 1 m)) []
    (λ i h.
    let below : i < m = omega (arith, length-map-range_with_len (row_product g c j) 1 m) in
    subst (OfShape (length c) (degree_of c)) (sym (get_or-map-range_with_len (row_product g c j) 1 m i (1 + i) [] below refl))
    (product_fits laws g c j (1 + i) fits inside (omega arith) (omega arith)))

parts_fit : Adding → (g : GgswRows) (c : List (List ℕ)) (m : ℕ) → Fitting g c → m ≤ length c → All (OfShape (length c) (degree_of c)) (flat_map (part_products g c) (range_with_len 0 m))
parts_fit laws g c m fits upto =
    each_product (OfShape (length c) (degree_of c)) [] (row_product g c) 0 m 1 g.level
    (λ i t l r. product_fits laws g c (0 + i) (1 + t) fits (omega arith) (omega arith) (omega arith))

some_parts : (g : GgswRows) (c : List (List ℕ)) → Fitting g c → 0 < length c
some_parts g c fits = omega (arith, fits.shape.some)

-- nothing is added yet
pub begun : Adding → (g : GgswRows) (c into : List (List ℕ)) → Fitting g c → lengths_of into ≡ lengths_of c → All (All IsWord) into → into ≡ plus_all into []
begun laws g c into fits same words =
    sym (plus_none laws (length c) (degree_of c) into (some_parts g c fits) (of_lengths (length c) (degree_of c) c into same (own g c fits)) words)

-- digits by the same bits and number
pub digit_same : (b base l level t : ℕ) (p : List ℕ) → b ≡ base → l ≡ level → digit_polynomial b l t p ≡ digit_polynomial base level t p
digit_same b base l level t p e f = ap (λ x. digit_polynomial x l t p) e ∙ ap (λ x. digit_polynomial base x t p) f

-- the product of a further place is added
pub place_added : Adding → (g : GgswRows) (c into before after : List (List ℕ)) (j t : ℕ) → Fitting g c → lengths_of into ≡ lengths_of c → lengths_of before ≡ lengths_of into → j < length c → t < g.level → before ≡ plus_all into (map (row_product g c j) (range_with_len 1 t)) → after ≡ plus_product before (digit_polynomial g.base g.level (t + 1) (get_or c j [])) (row_of g j (t + 1)) → after ≡ plus_all into (map (row_product g c j) (range_with_len 1 (t + 1)))
place_added laws g c into before after j t fits same kept inside below before_is after_is =
    let parts : ℕ = length c in
    let n : ℕ = degree_of c in
    let into_shape : OfShape parts n into = of_lengths parts n c into same (own g c fits) in
    let before_shape : OfShape parts n before = of_lengths parts n into before kept into_shape in
    let d : List ℕ = digit_polynomial g.base g.level (t + 1) (get_or c j []) in
    let d_long : length d ≡ n = length-map (get_or c j []) _ ∙ fits.shape.lengths j [] inside in
    let r : List (List ℕ) = row_of g j (t + 1) in
    let r_shape : OfShape parts n r = of_lengths parts n c r (row_shape g c j (t + 1) fits.is fits.rows inside (omega arith) (omega arith)) (own g c fits) in
    let last : List (List (List ℕ)) = row_product g c j (t + 1) ∷ [] in
    let last_fits : All (OfShape parts n) last = All-cons (OfShape parts n) (row_product g c j (t + 1)) [] (product_fits laws g c j (t + 1) fits inside (omega arith) (omega arith)) (All-nil (OfShape parts n)) in
    after_is
    ∙ plus_one laws parts n before d r (some_parts g c fits) before_shape r_shape d_long
    ∙ ap (λ x. plus_all x last) before_is
    ∙ plus_more laws parts n into (map (row_product g c j) (range_with_len 1 t)) last (some_parts g c fits) into_shape (part_fits laws g c j t fits inside (omega arith)) last_fits
    ∙ ap (plus_all into) (sym (map-range_with_len_more (row_product g c j) 1 t (t + 1) (omega arith)))

-- the products of a further part are added
pub part_added : Adding → (g : GgswRows) (c into before after : List (List ℕ)) (j : ℕ) → Fitting g c → lengths_of into ≡ lengths_of c → j < length c → before ≡ plus_all into (flat_map (part_products g c) (range_with_len 0 j)) → after ≡ plus_all before (part_products g c j) → after ≡ plus_all into (flat_map (part_products g c) (range_with_len 0 (j + 1)))
part_added laws g c into before after j fits same inside before_is after_is =
    let parts : ℕ = length c in
    let n : ℕ = degree_of c in
    let into_shape : OfShape parts n into = of_lengths parts n c into same (own g c fits) in
    after_is
    ∙ ap (λ x. plus_all x (part_products g c j)) before_is
    ∙ plus_more laws parts n into (flat_map (part_products g c) (range_with_len 0 j)) (part_products g c j) (some_parts g c fits) into_shape (parts_fit laws g c j fits (omega arith)) (part_fits laws g c j g.level fits inside (omega arith))
    ∙ ap (plus_all into) (flat_more (part_products g c) j)

-- what is added to zeros is the external product
pub from_zeros : Adding → (g : GgswRows) (c out : List (List ℕ)) → Fitting g c → lengths_of out ≡ lengths_of c → plus_all (map (λ part. replicate (length part) 0) out) (all_products g c) ≡ external_product g c
unfolding external_product
from_zeros laws g c out fits same =
    let parts : ℕ = length c in
    let n : ℕ = degree_of c in
    let out_shape : OfShape parts n out = of_lengths parts n c out same (own g c fits) in
    let zeros : List (List ℕ) = map (λ part. replicate (length part) 0) out in
    plus_to_zeros laws parts n zeros (all_products g c) (some_parts g c fits) (length-map out (λ part. replicate (length part) 0) ∙ out_shape.number)
    (λ i l. get_or-map (λ part. replicate (length part) 0) out i [] [] (omega (arith, out_shape.number)) ∙ ap (λ m. replicate m 0) (out_shape.lengths i [] (omega (arith, out_shape.number))))
    (parts_fit laws g c parts fits (omega arith))

-- zeros and a ciphertext of words
pub copied : Adding → (more other : List (List ℕ)) → HasShape other → All (All IsWord) other → lengths_of more ≡ lengths_of other → zip_rows row_sum (map (λ part. replicate (length part) 0) more) other ≡ other
copied laws more other shape words same =
    let parts : ℕ = length other in
    let n : ℕ = degree_of other in
    let more_shape : OfShape parts n more = of_lengths parts n other more same (own_shape other shape) in
    let zeros : List (List ℕ) = map (λ part. replicate (length part) 0) more in
    let zeros_long : length zeros ≡ parts = length-map more (λ part. replicate (length part) 0) ∙ more_shape.number in
    ext_get_or [] (zip_rows row_sum zeros other) other (length-zip_rows parts row_sum zeros other zeros_long refl)
    (λ i h.
    let inside : i < parts = omega (arith, length-zip_rows parts row_sum zeros other zeros_long refl) in
    let x : List ℕ = get_or other i [] in
    zip_rows_at parts row_sum zeros other i zeros_long refl inside
    ∙ ap (λ t. row_sum t x)
    (get_or-map (λ part. replicate (length part) 0) more i [] [] (omega (arith, more_shape.number))
    ∙ ap (λ m. replicate m 0) (more_shape.lengths i [] (omega (arith, more_shape.number)) ∙ sym (shape.lengths i [] inside)))
    ∙ laws.ring.sum_commutative (replicate (length x) 0) x
    ∙ laws.ring.sum_zero x (words i [] inside))

-- what is added to acc is CMux
pub to_acc : Adding → (g : GgswRows) (acc other : List (List ℕ)) → HasShape acc → lengths_of (zip_rows row_difference other acc) ≡ lengths_of acc → plus_all acc (all_products g (zip_rows row_difference other acc)) ≡ cmux_of g acc other
unfolding external_product
to_acc laws g acc other shape same =
    let more : List (List ℕ) = zip_rows row_difference other acc in
    let more_shape : OfShape (length acc) (degree_of acc) more = of_lengths (length acc) (degree_of acc) acc more same (own_shape acc shape) in
    let degree : degree_of more ≡ degree_of acc = more_shape.lengths 0 [] (omega (arith, more_shape.number, shape.some)) in
    ap (λ k. zip_rows row_sum acc (sum_of_glwes k (degree_of acc) (all_products g more))) (sym more_shape.number)
    ∙ ap (λ k. zip_rows row_sum acc (sum_of_glwes (length more) k (all_products g more))) (sym degree)
