-- The lengths of parts.
use Rattle.std.proofs.Common.{◌≡◌, ℕ, ◌+◌, Bool, List, [], ◌∷◌, ◌++◌, length, map, take, drop, arith, ap, sym, ◌∙◌, refl}
use Rattle.std.specs.List.{zip, concat, AllByRecursion}
use Rattle.std.proofs.Math.Seq.{take-append_seam, drop-append_seam}
use Rattle.std.proofs.lemmas.List.{length-map}
use Rattle.std.proofs.lemmas.List.Elements.{All-from_get_or, recursion_from_All}
use Rattle.std.proofs.lemmas.Slice.Zip.{length-zip}
use Rattle.word_ring.specs.Words.{word_sum, word_difference}
use Rattle.word_ring.specs.Rows.{zip_words, zip_rows}
use Rattle.negacyclic.specs.Product.{negacyclic_product, rotation}
use Rattle.negacyclic.specs.Laws.{ProductLaws, RotationLaws}
use Rattle.glwe_core.specs.Glwe.{lengths_of, FitsGlweKey, rotated}
use Rattle.glwe_core.specs.Laws.{GlweShapeLaws}
use Rattle.glwe_core.proofs.PartLoops.{same_number, same_length_at}

fits-lengths : (n : ℕ) (key : List (List Bool)) (xs ys : List (List ℕ)) → FitsGlweKey n key xs → lengths_of ys ≡ lengths_of xs → FitsGlweKey n key ys
fits-lengths n key xs ys is e =
    let number : length ys ≡ length xs = same_number ys xs e in
    record {
      number = number ∙ is.number;
      lengths = All-from_get_or (λ part. length part ≡ n) ys [] (λ k inside. same_length_at ys xs k e ∙ is.lengths k [] (omega (arith, number, inside)));
      bits = is.bits;
    }

cons_same : (a b : ℕ) (as' bs : List ℕ) → a ≡ b → as' ≡ bs → ◌≡◌ {A = List ℕ} (a ∷ as') (b ∷ bs)
cons_same a b as' bs p q = ap (λ (x : ℕ). x ∷ as') p ∙ ap (λ (xs : List ℕ). b ∷ xs) q

zip-lengths : (w : ℕ → ℕ → ℕ) (xs ys : List (List ℕ)) → lengths_of ys ≡ lengths_of xs → lengths_of (zip_rows (zip_words w) xs ys) ≡ lengths_of xs
zip-lengths w [] ys e = refl
zip-lengths w (x ∷ xs) [] e = absurd cc
zip-lengths w (x ∷ xs) (y ∷ ys) e =
    let first : length y ≡ length x = cc in
    let rest : lengths_of ys ≡ lengths_of xs = cc in
    cons_same (length (zip_words w x y)) (length x) _ _ (omega (arith, length-map (zip x y) (λ p. w p.0 p.1), length-zip x y, first)) (zip-lengths w xs ys rest)

map-lengths : (f : List ℕ → List ℕ) (n : ℕ) (xs : List (List ℕ)) → ((x : List ℕ) → length x ≡ n → length (f x) ≡ n) → AllByRecursion (λ part. length part ≡ n) xs → lengths_of (map f xs) ≡ lengths_of xs
map-lengths f n [] keeps are = refl
map-lengths f n (x ∷ xs) keeps are = cons_same (length (f x)) (length x) _ _ (keeps x are.0 ∙ sym are.0) (map-lengths f n xs keeps are.1)

rotated-lengths : RotationLaws → (by : ℕ) (xs : List (List ℕ)) → lengths_of (rotated by xs) ≡ lengths_of xs
rotated-lengths laws by [] = refl
rotated-lengths laws by (x ∷ xs) = cons_same (length (rotation by x)) (length x) _ _ (laws.rotation_length by x) (rotated-lengths laws by xs)

parts_same : (x y : List ℕ) (xs ys : List (List ℕ)) → y ≡ x → ys ≡ xs → ◌≡◌ {A = List (List ℕ)} (y ∷ ys) (x ∷ xs)
parts_same x y xs ys p q = ap (λ (z : List ℕ). z ∷ ys) p ∙ ap (λ (zs : List (List ℕ)). x ∷ zs) q

words-determine : (xs ys : List (List ℕ)) → lengths_of ys ≡ lengths_of xs → concat ys ≡ concat xs → ys ≡ xs
words-determine [] [] e words = refl
words-determine [] (y ∷ ys) e words = absurd cc
words-determine (x ∷ xs) [] e words = absurd cc
words-determine (x ∷ xs) (y ∷ ys) e words =
    let first : length y ≡ length x = cc in
    let rest : lengths_of ys ≡ lengths_of xs = cc in
    let front : y ≡ x = sym (take-append_seam y (concat ys)) ∙ ap (take (length y)) words ∙ ap (λ n. take n (x ++ concat xs)) first ∙ take-append_seam x (concat xs) in
    let back : concat ys ≡ concat xs = sym (drop-append_seam y (concat ys)) ∙ ap (drop (length y)) words ∙ ap (λ n. drop n (x ++ concat xs)) first ∙ drop-append_seam x (concat xs) in
    parts_same x y xs ys front (words-determine xs ys rest back)

pub laws : ProductLaws → RotationLaws → GlweShapeLaws
laws products rotations = record {
  fits_lengths = fits-lengths;
  sum_lengths = zip-lengths word_sum;
  difference_lengths = zip-lengths word_difference;
  product_lengths = λ n p key xs e is. map-lengths (negacyclic_product p) n xs (λ x _. products.product_length p x ∙ e) (recursion_from_All (λ part. length part ≡ n) xs is.lengths);
  rotated_lengths = rotated-lengths rotations;
  words_determine = words-determine;
}
