-- What a loop over parts has written, as one list of parts.
use Rattle.std.proofs.Common.{◌≡◌, ℕ, ◌+◌, ◌^◌, ◌<◌, ◌≤◌, min, List, [], ◌∷◌, ◌++◌, length, get_or, map, replicate, take, drop, All, subst, arith, ap, sym, ◌∙◌, refl}
use Prim.Native.Nat.{zero, suc}
use Rattle.std.specs.List.{zip, concat}
use Rattle.std.proofs.Math.Nat.{pow-le-pow_right}
use Rattle.std.proofs.lemmas.List.{ext_get_or, get_or_default, get_or-map, length-map, get_or-replicate, length-replicate, length-append, replicate-append-replicate, take-append-le, take_all}
use Rattle.std.proofs.lemmas.Slice.Zip.{length-zip, get_or-zip}
use Rattle.std.proofs.lemmas.List.Elements.{All-from_get_or}
use Rattle.word_ring.specs.Words.{IsWord, word_sum}
use Rattle.word_ring.specs.Rows.{zip_words, row_sum, zip_rows, AllOfLength}
use Rattle.negacyclic.specs.Product.{negacyclic_product, rotation}
use Rattle.negacyclic.specs.Laws.{ProductLaws, RotationLaws}
use Rattle.glwe_core.specs.Glwe.{lengths_of, degree_of, HasShape, plus_product, rotated}

-- ---- lengths

-- a length of a part, at any place
pub lengths-at : (xs : List (List ℕ)) (k : ℕ) → get_or (lengths_of xs) k 0 ≡ length (get_or xs k [])
lengths-at [] k = refl
lengths-at (x ∷ xs) zero = refl
lengths-at (x ∷ xs) (suc k) = lengths-at xs k

-- parts of the same lengths are as long at each place
pub same_length_at : (xs ys : List (List ℕ)) (k : ℕ) → lengths_of xs ≡ lengths_of ys → length (get_or xs k []) ≡ length (get_or ys k [])
same_length_at xs ys k e = sym (lengths-at xs k) ∙ ap (λ ns. get_or ns k 0) e ∙ lengths-at ys k

-- and are as many
pub same_number : (xs ys : List (List ℕ)) → lengths_of xs ≡ lengths_of ys → length xs ≡ length ys
same_number xs ys e = sym (length-map xs length) ∙ ap length e ∙ length-map ys length

-- parts that are as long at each place have the same lengths
pub lengths_are : (xs ys : List (List ℕ)) → length xs ≡ length ys → ((k : ℕ) → k < length ys → length (get_or xs k []) ≡ length (get_or ys k [])) → lengths_of xs ≡ lengths_of ys
lengths_are xs ys number each =
    ext_get_or 0 (lengths_of xs) (lengths_of ys) (length-map xs length ∙ number ∙ sym (length-map ys length))
    (λ k h. lengths-at xs k ∙ each k (omega (arith, length-map xs length, number, h)) ∙ sym (lengths-at ys k))

-- parts of the lengths of parts of a shape have it too
pub keeps_shape : (xs ys : List (List ℕ)) → HasShape xs → lengths_of ys ≡ lengths_of xs → HasShape ys
keeps_shape xs ys shape e =
    let number : length ys ≡ length xs = same_number ys xs e in
    record {
      some = omega (arith, number, shape.some);
      few = omega (arith, number, shape.few);
      least = omega (arith, same_length_at ys xs 0 e, shape.least);
      most = omega (arith, same_length_at ys xs 0 e, shape.most);
      lengths = All-from_get_or (λ part. length part ≡ degree_of ys) ys []
          (λ k inside. same_length_at ys xs k e ∙ shape.lengths k [] (omega (arith, number, inside)) ∙ sym (same_length_at ys xs 0 e));
    }

-- zeros have a shape
pub zeros_shape : (m log_n : ℕ) → 2 ≤ m → m ≤ 4 → 1 ≤ log_n → log_n ≤ 13 → HasShape (replicate m (replicate (2 ^ log_n) 0))
zeros_shape m log_n some few low high =
    let n : ℕ = 2 ^ log_n in
    let number : length (replicate m (replicate n 0)) ≡ m = length-replicate {A = List ℕ} m (replicate n 0) in
    let degree : degree_of (replicate m (replicate n 0)) ≡ n = ap length (get_or-replicate m 0 (replicate n 0) [] (omega (arith, some))) ∙ length-replicate {A = ℕ} n 0 in
    let least : 2 ^ 1 ≤ n = pow-le-pow_right {n = 2} (omega arith) {i = 1} {j = log_n} low in
    let most : n ≤ 2 ^ 13 = pow-le-pow_right {n = 2} (omega arith) {i = log_n} {j = 13} high in
    record {
      some = omega (arith, number, some);
      few = omega (arith, number, few);
      least = omega (arith, degree, least);
      most = omega (arith, degree, most);
      lengths = All-from_get_or (λ part. length part ≡ degree_of (replicate m (replicate n 0))) (replicate m (replicate n 0)) []
          (λ k inside. ap length (get_or-replicate m k (replicate n 0) [] (omega (arith, number, inside)) ∙ sym (get_or-replicate m 0 (replicate n 0) [] (omega (arith, some)))));
    }

-- parts of two shapes have the same lengths where they are as many, and the first are as long
pub same_lengths : (xs ys : List (List ℕ)) (p q : List ℕ) → HasShape xs → HasShape ys → length xs ≡ length ys → p ≡ get_or xs 0 p → q ≡ get_or ys 0 q → ◌≡◌ {A = List ℕ} (length p ∷ []) (length q ∷ []) → lengths_of xs ≡ lengths_of ys
same_lengths xs ys p q shape other number p_is q_is e =
    let first : length p ≡ length q = cc in
    let degrees : degree_of xs ≡ degree_of ys =
    ap length (get_or_default xs 0 [] p (omega (arith, shape.some)) ∙ sym p_is) ∙ first ∙ ap length (q_is ∙ get_or_default ys 0 q [] (omega (arith, other.some))) in
    lengths_are xs ys number (λ k inside. shape.lengths k [] (omega (arith, number, inside)) ∙ degrees ∙ sym (other.lengths k [] inside))

pub first_lengths : (xs ys : List (List ℕ)) (p q : List ℕ) → HasShape xs → HasShape ys → p ≡ get_or xs 0 p → q ≡ get_or ys 0 q → lengths_of xs ≡ lengths_of ys → ◌≡◌ {A = List ℕ} (length p ∷ []) (length q ∷ [])
first_lengths xs ys p q shape other p_is q_is e =
    ap (λ (n : ℕ). n ∷ [])
    (ap length (p_is ∙ get_or_default xs 0 p [] (omega (arith, shape.some))) ∙ same_length_at xs ys 0 e ∙ ap length (get_or_default ys 0 [] q (omega (arith, other.some)) ∙ sym q_is))

-- a vector after a write to all of it
pub written_back : (n : ℕ) (new items : List (List ℕ)) → n ≡ length new → take n (new ++ drop (length new) items) ≡ new
written_back n new items e = take-append-le n new (drop (length new) items) (omega (arith, e)) ∙ take_all n new (omega (arith, e))

-- ---- parts

-- an operation at each part
pub is_mapped : (f : List ℕ → List ℕ) (new old : List (List ℕ)) → length new ≡ length old → ((k : ℕ) → k < length old → get_or new k [] ≡ f (get_or old k [])) → new ≡ map f old
is_mapped f new old kept each =
    ext_get_or [] new (map f old) (kept ∙ sym (length-map old f))
    (λ k h. let inside : k < length old = omega (arith, kept, h) in each k inside ∙ sym (get_or-map f old k [] [] inside))

-- an operation with the other part at each place
pub is_zip_rows : (f : List ℕ → List ℕ → List ℕ) (new old others : List (List ℕ)) → length new ≡ length old → lengths_of old ≡ lengths_of others → ((k : ℕ) → k < length old → get_or new k [] ≡ f (get_or old k []) (get_or others k [])) → new ≡ zip_rows f old others
is_zip_rows f new old others kept shape each =
    let number : length old ≡ length others = same_number old others shape in
    let both : length (zip old others) ≡ length old = omega (arith, length-zip old others, number) in
    ext_get_or [] new (zip_rows f old others) (kept ∙ sym (length-map (zip old others) (λ p. f p.0 p.1) ∙ both))
    (λ k h. let inside : k < length old = omega (arith, kept, h) in
    each k inside ∙ sym (get_or-map (λ p. f p.0 p.1) (zip old others) k ([], []) [] (omega (arith, both, inside)) ∙ ap (λ (p : List ℕ × List ℕ). f p.0 p.1) (get_or-zip old others k ([], []) inside (omega (arith, number, inside)))))

-- ---- words

zip_words-append : (w : ℕ → ℕ → ℕ) (xs ys us vs : List ℕ) → length xs ≡ length us → zip_words w (xs ++ ys) (us ++ vs) ≡ zip_words w xs us ++ zip_words w ys vs
zip_words-append w [] ys [] vs e = refl
zip_words-append w [] ys (u ∷ us) vs e = absurd (omega arith)
zip_words-append w (x ∷ xs) ys [] vs e = absurd (omega arith)
zip_words-append w (x ∷ xs) ys (u ∷ us) vs e = ap (λ ws. w x u ∷ ws) (zip_words-append w xs ys us vs (omega arith))

concat-zip_rows : (w : ℕ → ℕ → ℕ) (xs ys : List (List ℕ)) → lengths_of xs ≡ lengths_of ys → concat (zip_rows (zip_words w) xs ys) ≡ zip_words w (concat xs) (concat ys)
concat-zip_rows w [] ys e = refl
concat-zip_rows w (x ∷ xs) [] e = absurd cc
concat-zip_rows w (x ∷ xs) (y ∷ ys) e =
    let first : length x ≡ length y = cc in
    let rest : lengths_of xs ≡ lengths_of ys = cc in
    ap (λ ws. zip_words w x y ++ ws) (concat-zip_rows w xs ys rest) ∙ sym (zip_words-append w x (concat xs) y (concat ys) first)

map-append : (w : ℕ → ℕ) (xs ys : List ℕ) → map w (xs ++ ys) ≡ map w xs ++ map w ys
map-append w [] ys = refl
map-append w (x ∷ xs) ys = ap (λ ws. w x ∷ ws) (map-append w xs ys)

concat-map : (w : ℕ → ℕ) (xs : List (List ℕ)) → concat (map (map w) xs) ≡ map w (concat xs)
concat-map w [] = refl
concat-map w (x ∷ xs) = ap (λ ws. map w x ++ ws) (concat-map w xs) ∙ sym (map-append w x (concat xs))

concat-zeros : (xs : List (List ℕ)) → concat (map (λ part. replicate (length part) 0) xs) ≡ replicate (length (concat xs)) 0
concat-zeros [] = refl
concat-zeros (x ∷ xs) = ap (λ ws. replicate (length x) 0 ++ ws) (concat-zeros xs) ∙ replicate-append-replicate (length x) (length (concat xs)) 0 ∙ ap (λ n. replicate n 0) (sym (length-append x (concat xs)))

-- ---- what is written

-- an operation on the words of two lists of parts
pub record ZipsWords (w : ℕ → ℕ → ℕ) (new old others : List (List ℕ)) : Type 0 where
  pub parts : new ≡ zip_rows (zip_words w) old others
  pub shape : lengths_of new ≡ lengths_of old
  pub words : concat new ≡ zip_words w (concat old) (concat others)

length-zip_words : (w : ℕ → ℕ → ℕ) (xs ys : List ℕ) → length ys ≡ length xs → length (zip_words w xs ys) ≡ length xs
length-zip_words w xs ys e = omega (arith, length-map (zip xs ys) (λ p. w p.0 p.1), length-zip xs ys, e)

pub zips : (w : ℕ → ℕ → ℕ) (new old others : List (List ℕ)) → length new ≡ length old → lengths_of old ≡ lengths_of others → ((k : ℕ) → k < length old → get_or new k [] ≡ zip_words w (get_or old k []) (get_or others k [])) → ZipsWords w new old others
zips w new old others kept shape each =
    let parts : new ≡ zip_rows (zip_words w) old others = is_zip_rows (zip_words w) new old others kept shape each in
    record {
      parts = parts;
      shape = lengths_are new old kept (λ k inside. ap length (each k inside) ∙ length-zip_words w (get_or old k []) (get_or others k []) (sym (same_length_at old others k shape)));
      words = ap concat parts ∙ concat-zip_rows w old others shape;
    }

-- an operation on the words
pub record MapsWords (w : ℕ → ℕ) (new old : List (List ℕ)) : Type 0 where
  pub parts : new ≡ map (map w) old
  pub shape : lengths_of new ≡ lengths_of old
  pub words : concat new ≡ map w (concat old)

pub maps : (w : ℕ → ℕ) (new old : List (List ℕ)) → length new ≡ length old → ((k : ℕ) → k < length old → get_or new k [] ≡ map w (get_or old k [])) → MapsWords w new old
maps w new old kept each =
    let parts : new ≡ map (map w) old = is_mapped (map w) new old kept each in
    record {
      parts = parts;
      shape = lengths_are new old kept (λ k inside. ap length (each k inside) ∙ length-map (get_or old k []) w);
      words = ap concat parts ∙ concat-map w old;
    }

-- zeros
pub record Clears (new old : List (List ℕ)) : Type 0 where
  pub parts : new ≡ map (λ part. replicate (length part) 0) old
  pub shape : lengths_of new ≡ lengths_of old
  pub words : concat new ≡ replicate (length (concat old)) 0

pub clears : (new old : List (List ℕ)) → length new ≡ length old → ((k : ℕ) → k < length old → get_or new k [] ≡ replicate (length (get_or old k [])) 0) → Clears new old
clears new old kept each =
    let parts : new ≡ map (λ part. replicate (length part) 0) old = is_mapped (λ part. replicate (length part) 0) new old kept each in
    record {
      parts = parts;
      shape = lengths_are new old kept (λ k inside. ap length (each k inside) ∙ length-replicate {A = ℕ} (length (get_or old k [])) 0);
      words = ap concat parts ∙ concat-zeros old;
    }

-- ---- products and rotations

pub zip_rows-mapped : (f : List ℕ → List ℕ → List ℕ) (g : List ℕ → List ℕ) (xs ys : List (List ℕ)) → zip_rows (λ x y. f x (g y)) xs ys ≡ zip_rows f xs (map g ys)
zip_rows-mapped f g [] ys = refl
zip_rows-mapped f g (x ∷ xs) [] = refl
zip_rows-mapped f g (x ∷ xs) (y ∷ ys) = ap (λ rs. f x (g y) ∷ rs) (zip_rows-mapped f g xs ys)

pub adds_products : ProductLaws → (p : List ℕ) (new old others : List (List ℕ)) → length new ≡ length old → lengths_of old ≡ lengths_of others → AllOfLength (length p) old → ((k : ℕ) → k < length old → get_or new k [] ≡ row_sum (get_or old k []) (negacyclic_product p (get_or others k []))) → (new ≡ plus_product old p others) × (lengths_of new ≡ lengths_of old)
adds_products laws p new old others kept shape degree each = (
  is_zip_rows (λ x y. row_sum x (negacyclic_product p y)) new old others kept shape each ∙ zip_rows-mapped row_sum (negacyclic_product p) old others,
  lengths_are new old kept (λ k inside. ap length (each k inside) ∙ length-zip_words word_sum (get_or old k []) (negacyclic_product p (get_or others k [])) (laws.product_length p (get_or others k []) ∙ sym (degree k [] inside))),
)

pub rotates : RotationLaws → (by : ℕ) (new old others : List (List ℕ)) → length new ≡ length old → lengths_of old ≡ lengths_of others → ((k : ℕ) → k < length old → get_or new k [] ≡ rotation by (get_or others k [])) → (new ≡ rotated by others) × (lengths_of new ≡ lengths_of old)
rotates laws by new old others kept shape each =
    let number : length old ≡ length others = same_number old others shape in (
      is_mapped (rotation by) new others (kept ∙ number) (λ k inside. each k (omega (arith, number, inside))),
      lengths_are new old kept (λ k inside. ap length (each k inside) ∙ laws.rotation_length by (get_or others k []) ∙ sym (same_length_at old others k shape)),
    )

-- ---- calls in a loop

-- the part that a loop comes to is made of words
pub words_at : (parts : List (List ℕ)) (i : ℕ) (p q : List ℕ) → i < length parts → p ≡ get_or parts i p → q ≡ p → All IsWord q → All IsWord (get_or parts i [])
words_at parts i p q inside p_is q_is are = subst (All IsWord) (q_is ∙ p_is ∙ get_or_default parts i p [] inside) are

-- the part that a loop comes to is as long as the other
pub length_at : (parts old others : List (List ℕ)) (i : ℕ) (p q : List ℕ) → lengths_of old ≡ lengths_of others → length parts ≡ length old → i < length old → get_or parts i [] ≡ get_or old i [] → q ≡ get_or others i q → length (get_or parts i p) ≡ length q
length_at parts old others i p q shape kept inside rest is =
    let there : i < length others = omega (arith, same_number old others shape) in
    ap length (get_or_default parts i p [] (omega (arith, kept)) ∙ rest) ∙ same_length_at old others i shape ∙ ap length (get_or_default others i [] q there ∙ sym is)

pub fits_at : (parts old others : List (List ℕ)) (i : ℕ) (p q : List ℕ) → lengths_of old ≡ lengths_of others → length parts ≡ length old → i < length old → get_or parts i [] ≡ get_or old i [] → q ≡ get_or others i q → ◌≡◌ {A = List ℕ} (length (get_or parts i p) ∷ []) (length q ∷ [])
fits_at parts old others i p q shape kept inside rest is = ap (λ (n : ℕ). n ∷ []) (length_at parts old others i p q shape kept inside rest is)
