-- Ciphertexts to which others are added, part by part.
use Rattle.std.proofs.Common.{◌≡◌, ℕ, ◌+◌, ◌<◌, List, [], ◌∷◌, ◌++◌, map, length, get_or, replicate, arith, ap, sym, refl, ◌∙◌, subst}
use Rattle.std.specs.List.{All, flat_map, range_with_len, zip}
use Rattle.std.proofs.lemmas.List.{ext_get_or, map-append, map-id, append-nil, length-replicate, length-map, get_or-map}
use Rattle.std.proofs.lemmas.List.Concat.{flat_map-append}
use Rattle.std.proofs.lemmas.List.FromFn.{length-map-range_with_len, get_or-map-range_with_len, map-range_with_len_more}
use Rattle.std.proofs.lemmas.List.Elements.{All-from_get_or, All-map, All-weaker}
use Rattle.std.proofs.lemmas.Slice.Zip.{length-zip, get_or-zip}
use Rattle.word_ring.specs.Words.{IsWord, word_sum}
use Rattle.word_ring.specs.Rows.{row_sum, sum_of_rows, zip_rows, AllOfLength, RowLaws}
use Rattle.word_ring.specs.RowLaws.{RowRingLaws, RowTotalLaws}
use Rattle.negacyclic.specs.Product.{negacyclic_product}
use Rattle.negacyclic.specs.Laws.{ProductLaws}
use Rattle.glwe_core.specs.Glwe.{lengths_of, degree_of, HasShape, plus_product}
use Rattle.ggsw_core.specs.Ggsw.{sum_of_glwes, plus_all}

-- so many parts of n words each
pub record OfShape (parts n : ℕ) (c : List (List ℕ)) : Type 0 where
  pub number : length c ≡ parts
  pub lengths : AllOfLength n c

-- the laws that serve
pub record Adding : Type 0 where
  pub rows : RowLaws
  pub ring : RowRingLaws
  pub totals : RowTotalLaws
  pub products : ProductLaws

-- the part of each of the terms
abbrev pub column : List (List (List ℕ)) → ℕ → List (List ℕ)
column terms i = map (λ c. get_or c i []) terms

-- a part of the sum
pub sum_at : (parts n : ℕ) (terms : List (List (List ℕ))) (i : ℕ) → i < parts → get_or (sum_of_glwes parts n terms) i [] ≡ sum_of_rows n (column terms i)
sum_at parts n terms i inside =
    let place : 0 + i ≡ i = omega arith in
    get_or-map-range_with_len (λ i. sum_of_rows n (column terms i)) 0 parts i i [] inside place

pub length-zip_rows : (parts : ℕ) (f : List ℕ → List ℕ → List ℕ) (xs ys : List (List ℕ)) → length xs ≡ parts → length ys ≡ parts → length (zip_rows f xs ys) ≡ parts
length-zip_rows parts f xs ys e g = length-map (zip xs ys) (λ (p : List ℕ × List ℕ). f p.0 p.1) ∙ length-zip xs ys ∙ omega arith

pub zip_rows_at : (parts : ℕ) (f : List ℕ → List ℕ → List ℕ) (xs ys : List (List ℕ)) (i : ℕ) → length xs ≡ parts → length ys ≡ parts → i < parts → get_or (zip_rows f xs ys) i [] ≡ f (get_or xs i []) (get_or ys i [])
zip_rows_at parts f xs ys i e g inside =
    get_or-map (λ (p : List ℕ × List ℕ). f p.0 p.1) (zip xs ys) i ([], []) [] (omega (arith, length-zip xs ys))
    ∙ ap (λ (p : List ℕ × List ℕ). f p.0 p.1) (get_or-zip xs ys i ([], []) (omega arith) (omega arith))

sum_number : (parts n : ℕ) (terms : List (List (List ℕ))) → length (sum_of_glwes parts n terms) ≡ parts
sum_number parts n terms = length-map-range_with_len (λ i. sum_of_rows n (column terms i)) 0 parts

-- the sum of the shape of the ciphertext that it is added to
pub same_sum : (parts n : ℕ) (into : List (List ℕ)) (terms : List (List (List ℕ))) → 0 < parts → OfShape parts n into → plus_all into terms ≡ zip_rows row_sum into (sum_of_glwes parts n terms)
same_sum parts n into terms pos shape =
    let degree : degree_of into ≡ n = shape.lengths 0 [] (omega (arith, shape.number)) in
    ap (λ k. zip_rows row_sum into (sum_of_glwes k (degree_of into) terms)) shape.number
    ∙ ap (λ k. zip_rows row_sum into (sum_of_glwes parts k terms)) degree

plus_number : (parts n : ℕ) (into : List (List ℕ)) (terms : List (List (List ℕ))) → 0 < parts → OfShape parts n into → length (plus_all into terms) ≡ parts
plus_number parts n into terms pos shape =
    ap length (same_sum parts n into terms pos shape) ∙ length-zip_rows parts row_sum into (sum_of_glwes parts n terms) shape.number (sum_number parts n terms)

plus_at : (parts n : ℕ) (into : List (List ℕ)) (terms : List (List (List ℕ))) (i : ℕ) → OfShape parts n into → i < parts → get_or (plus_all into terms) i [] ≡ row_sum (get_or into i []) (sum_of_rows n (column terms i))
plus_at parts n into terms i shape inside =
    ap (λ t. get_or t i []) (same_sum parts n into terms (omega arith) shape)
    ∙ zip_rows_at parts row_sum into (sum_of_glwes parts n terms) i shape.number (sum_number parts n terms) inside
    ∙ ap (row_sum (get_or into i [])) (sum_at parts n terms i inside)

column_lengths : (parts n : ℕ) (terms : List (List (List ℕ))) (i : ℕ) → All (OfShape parts n) terms → i < parts → AllOfLength n (column terms i)
column_lengths parts n terms i fit inside =
    All-map (λ row. length row ≡ n) (λ c. get_or c i []) terms
    (All-weaker (OfShape parts n) (λ c. length (get_or c i []) ≡ n) (λ c shape. shape.lengths i [] (omega (arith, shape.number))) terms fit)

-- it keeps the shape
pub plus_shape : Adding → (parts n : ℕ) (into : List (List ℕ)) (terms : List (List (List ℕ))) → 0 < parts → OfShape parts n into → All (OfShape parts n) terms → OfShape parts n (plus_all into terms)
plus_shape laws parts n into terms pos shape fit = record {
  number = plus_number parts n into terms pos shape;
  lengths =
      All-from_get_or (λ row. length row ≡ n) (plus_all into terms) []
      (λ i h.
      let inside : i < parts = omega (arith, plus_number parts n into terms pos shape) in
      let part_long : length (get_or into i []) ≡ n = shape.lengths i [] (omega (arith, shape.number)) in
      let sum_long : length (sum_of_rows n (column terms i)) ≡ n = laws.totals.total_length n (column terms i) (column_lengths parts n terms i fit inside) in
      ap length (plus_at parts n into terms i shape inside) ∙ laws.rows.zip_length word_sum (get_or into i []) (sum_of_rows n (column terms i)) ∙ omega arith);
}

-- nothing is added
pub plus_none : Adding → (parts n : ℕ) (into : List (List ℕ)) → 0 < parts → OfShape parts n into → All (All IsWord) into → plus_all into [] ≡ into
plus_none laws parts n into pos shape words =
    ext_get_or [] (plus_all into []) into (plus_number parts n into [] pos shape ∙ sym shape.number)
    (λ i h.
    let inside : i < parts = omega (arith, plus_number parts n into [] pos shape) in
    plus_at parts n into [] i shape inside
    ∙ ap (λ k. row_sum (get_or into i []) (replicate k 0)) (sym (shape.lengths i [] (omega (arith, shape.number))))
    ∙ laws.ring.sum_zero (get_or into i []) (words i [] (omega (arith, shape.number))))

-- more is added
pub plus_more : Adding → (parts n : ℕ) (into : List (List ℕ)) (terms more : List (List (List ℕ))) → 0 < parts → OfShape parts n into → All (OfShape parts n) terms → All (OfShape parts n) more → plus_all (plus_all into terms) more ≡ plus_all into (terms ++ more)
plus_more laws parts n into terms more pos shape fit more_fit =
    let first : List (List ℕ) = plus_all into terms in
    let first_shape : OfShape parts n first = plus_shape laws parts n into terms pos shape fit in
    ext_get_or [] (plus_all first more) (plus_all into (terms ++ more)) (plus_number parts n first more pos first_shape ∙ sym (plus_number parts n into (terms ++ more) pos shape))
    (λ i h.
    let inside : i < parts = omega (arith, plus_number parts n first more pos first_shape) in
    plus_at parts n first more i first_shape inside
    ∙ ap (λ t. row_sum t (sum_of_rows n (column more i))) (plus_at parts n into terms i shape inside)
    ∙ laws.ring.sum_associative (get_or into i []) (sum_of_rows n (column terms i)) (sum_of_rows n (column more i))
    ∙ ap (row_sum (get_or into i []))
    (sym (laws.totals.total_append n (column terms i) (column more i) (column_lengths parts n more i more_fit inside))
    ∙ ap (sum_of_rows n) (sym (map-append (λ c. get_or c i []) terms more)))
    ∙ sym (plus_at parts n into (terms ++ more) i shape inside))

-- a product with a ciphertext has its shape
pub product_shape : Adding → (parts n : ℕ) (d : List ℕ) (row : List (List ℕ)) → length d ≡ n → OfShape parts n row → OfShape parts n (map (negacyclic_product d) row)
product_shape laws parts n d row e shape = record {
  number = length-map row (negacyclic_product d) ∙ shape.number;
  lengths =
      All-from_get_or (λ part. length part ≡ n) (map (negacyclic_product d) row) []
      (λ i h.
      let inside : i < length row = omega (arith, length-map row (negacyclic_product d)) in
      ap length (get_or-map (negacyclic_product d) row i [] [] inside) ∙ laws.products.product_length d (get_or row i []) ∙ e);
}

-- a product with a ciphertext is added
pub plus_one : Adding → (parts n : ℕ) (into : List (List ℕ)) (d : List ℕ) (row : List (List ℕ)) → 0 < parts → OfShape parts n into → OfShape parts n row → length d ≡ n → plus_product into d row ≡ plus_all into (map (negacyclic_product d) row ∷ [])
plus_one laws parts n into d row pos shape row_shape e =
    let product : List (List ℕ) = map (negacyclic_product d) row in
    let product_fits = product_shape laws parts n d row e row_shape in
    let terms : List (List (List ℕ)) = product ∷ [] in
    ext_get_or [] (zip_rows row_sum into product) (plus_all into terms) (length-zip_rows parts row_sum into product shape.number product_fits.number ∙ sym (plus_number parts n into terms pos shape))
    (λ i h.
    let inside : i < parts = omega (arith, length-zip_rows parts row_sum into product shape.number product_fits.number) in
    let part : List ℕ = get_or product i [] in
    let words : All IsWord part = subst (All IsWord) (sym (get_or-map (negacyclic_product d) row i [] [] (omega (arith, row_shape.number)))) (laws.products.product_words d (get_or row i [])) in
    zip_rows_at parts row_sum into product i shape.number product_fits.number inside
    ∙ ap (row_sum (get_or into i [])) (sym (laws.totals.total_one n part (product_fits.lengths i [] (omega (arith, product_fits.number))) words))
    ∙ sym (plus_at parts n into terms i shape inside))

-- to a ciphertext of zeros
pub plus_to_zeros : Adding → (parts n : ℕ) (zeros : List (List ℕ)) (terms : List (List (List ℕ))) → 0 < parts → length zeros ≡ parts → ((i : ℕ) → i < parts → get_or zeros i [] ≡ replicate n 0) → All (OfShape parts n) terms → plus_all zeros terms ≡ sum_of_glwes parts n terms
plus_to_zeros laws parts n zeros terms pos number each fit =
    let shape : OfShape parts n zeros = record {
      number = number;
      lengths = All-from_get_or (λ row. length row ≡ n) zeros [] (λ i h. ap length (each i (omega arith)) ∙ length-replicate n 0);
    } in
    ext_get_or [] (plus_all zeros terms) (sum_of_glwes parts n terms) (plus_number parts n zeros terms pos shape ∙ sym (sum_number parts n terms))
    (λ i h.
    let inside : i < parts = omega (arith, plus_number parts n zeros terms pos shape) in
    let sum : List ℕ = sum_of_rows n (column terms i) in
    let sum_long : length sum ≡ n = laws.totals.total_length n (column terms i) (column_lengths parts n terms i fit inside) in
    plus_at parts n zeros terms i shape inside
    ∙ ap (λ t. row_sum t sum) (each i inside)
    ∙ laws.ring.sum_commutative (replicate n 0) sum
    ∙ ap (λ k. row_sum sum (replicate k 0)) (sym sum_long)
    ∙ laws.ring.sum_zero sum (laws.totals.total_words n (column terms i))
    ∙ sym (sum_at parts n terms i inside))

-- ciphertexts of the same lengths have one shape
pub of_lengths : (parts n : ℕ) (xs ys : List (List ℕ)) → lengths_of ys ≡ lengths_of xs → OfShape parts n xs → OfShape parts n ys
of_lengths parts n xs ys e shape =
    let number : length ys ≡ length xs = sym (length-map ys length) ∙ ap length e ∙ length-map xs length in
    record {
      number = number ∙ shape.number;
      lengths =
          All-from_get_or (λ row. length row ≡ n) ys []
          (λ i h.
          sym (get_or-map length ys i [] 0 h) ∙ ap (λ t. get_or t i 0) e ∙ get_or-map length xs i [] 0 (omega arith) ∙ shape.lengths i [] (omega arith));
    }

-- and those of one shape have the same lengths
pub same_lengths : (parts n : ℕ) (xs ys : List (List ℕ)) → OfShape parts n xs → OfShape parts n ys → lengths_of ys ≡ lengths_of xs
same_lengths parts n xs ys p q =
    ext_get_or 0 (lengths_of ys) (lengths_of xs) (length-map ys length ∙ q.number ∙ sym (length-map xs length ∙ p.number))
    (λ i h.
    let inside : i < parts = omega (arith, length-map ys length, q.number) in
    get_or-map length ys i [] 0 (omega (arith, q.number))
    ∙ q.lengths i [] (omega (arith, q.number))
    ∙ sym (p.lengths i [] (omega (arith, p.number)))
    ∙ sym (get_or-map length xs i [] 0 (omega (arith, p.number))))

-- a ciphertext's own shape
pub own_shape : (c : List (List ℕ)) → HasShape c → OfShape (length c) (degree_of c) c
own_shape c is = record { number = refl; lengths = is.lengths }

-- one more of the first numbers
pub flat_more : {X : Type 0} (f : ℕ → List X) (j : ℕ) → flat_map f (range_with_len 0 j) ++ f j ≡ flat_map f (range_with_len 0 (j + 1))
flat_more f j =
    let one : range_with_len 0 (j + 1) ≡ range_with_len 0 j ++ j ∷ [] =
    sym (map-id (range_with_len 0 (j + 1))) ∙ map-range_with_len_more (λ i. i) 0 j j (omega arith) ∙ ap (λ t. t ++ j ∷ []) (map-id (range_with_len 0 j)) in
    ap (λ t. flat_map f (range_with_len 0 j) ++ t) (sym (append-nil (f j)))
    ∙ sym (flat_map-append f (range_with_len 0 j) (j ∷ []))
    ∙ ap (flat_map f) (sym one)
