-- The phase is linear over the polynomials.
use Rattle.std.proofs.Common.{◌≡◌, ℕ, ◌+◌, ◌%◌, ◌^◌, ◌<◌, Bool, List, [], ◌∷◌, ◌++◌, length, get_or, set, map, replicate, All, arith, ap, sym, subst, ◌∙◌, refl}
use Prim.Native.Nat.{zero, suc}
use Rattle.std.specs.List.{zip, AllByRecursion}
use Rattle.std.proofs.lemmas.List.{length-map, length-replicate, replicate_more}
use Rattle.std.proofs.lemmas.List.Elements.{recursion_from_All, All-replicate}
use Rattle.std.proofs.lemmas.Slice.Zip.{length-zip}
use Rattle.word_ring.specs.Words.{IsWord, word_sum, word_difference}
use Rattle.word_ring.specs.Rows.{zip_words, row_sum, row_difference, scaled_row, sum_with_scaled, sum_of_rows, zip_rows, AllOfLength}
use Rattle.word_ring.specs.RowLaws.{RowRingLaws}
use Rattle.lwe_core.specs.Secret.{bit_words}
use Rattle.negacyclic.specs.Product.{negacyclic_product, rotation}
use Rattle.negacyclic.specs.Laws.{ProductLaws, RotationLaws}
use Rattle.glwe_core.specs.Glwe.{lengths_of, degree_of, FitsGlweKey, body_of, mask_products, mask_sum, glwe_phase, plus_product, rotated, trivial_glwe, sealed_glwe}
use Rattle.glwe_core.specs.Laws.{GlwePhaseLaws}
use Rattle.glwe_core.proofs.PartLoops.{zip_rows-mapped}

-- the laws of rows and polynomials
pub record RingLaws : Type 0 where
  pub rows : RowRingLaws
  pub products : ProductLaws
  pub rotations : RotationLaws

-- ---- the premise, part by part

-- a polynomial of the key for each mask polynomial, all of n coefficients, and a body
abbrev pub Fits : ℕ → List (List Bool) → List (List ℕ) → Type 0
Fits n [] [] = ⊥
Fits n [] (body ∷ []) = length body ≡ n
Fits n [] (body ∷ part ∷ parts) = ⊥
Fits n (bits ∷ key) [] = ⊥
Fits n (bits ∷ key) (part ∷ parts) = (length bits ≡ n) × (length part ≡ n) × Fits n key parts

fits_parts : (n : ℕ) (key : List (List Bool)) (parts : List (List ℕ)) → length parts ≡ length key + 1 → AllByRecursion (λ part. length part ≡ n) parts → AllByRecursion (λ bits. length bits ≡ n) key → Fits n key parts
fits_parts n [] [] number are bits = absurd (omega arith)
fits_parts n [] (body ∷ []) number are bits = are.0
fits_parts n [] (body ∷ part ∷ parts) number are bits = absurd (omega arith)
fits_parts n (b ∷ key) [] number are bits = absurd (omega arith)
fits_parts n (b ∷ key) (part ∷ parts) number are bits = (bits.0, are.0, fits_parts n key parts (omega arith) are.1 bits.1)

pub fits : (n : ℕ) (key : List (List Bool)) (parts : List (List ℕ)) → FitsGlweKey n key parts → Fits n key parts
fits n key parts is = fits_parts n key parts is.number (recursion_from_All (λ part. length part ≡ n) parts is.lengths) (recursion_from_All (λ bits. length bits ≡ n) key is.bits)

pub length-bits : (n : ℕ) (bits : List Bool) → length bits ≡ n → length (bit_words bits) ≡ n
length-bits n bits e = length-map bits _ ∙ e

-- ---- the phase, part by part

-- the degree is that of each part
degree_is : (n : ℕ) (key : List (List Bool)) (parts : List (List ℕ)) → Fits n key parts → degree_of parts ≡ n
degree_is n [] [] is = absurd is
degree_is n [] (body ∷ []) is = is
degree_is n [] (body ∷ part ∷ parts) is = absurd is
degree_is n (b ∷ key) [] is = absurd is
degree_is n (b ∷ key) (part ∷ parts) is = is.1

-- the sum of A_j*S_j
abbrev pub sum_at : ℕ → List (List Bool) → List (List ℕ) → List ℕ
sum_at n key parts = sum_of_rows n (mask_products key parts)

pub phase_is : (n : ℕ) (key : List (List Bool)) (parts : List (List ℕ)) → Fits n key parts → glwe_phase key parts ≡ row_difference (body_of key parts) (sum_at n key parts)
unfolding glwe_phase mask_sum
phase_is n key parts is = ap (λ m. row_difference (body_of key parts) (sum_at m key parts)) (degree_is n key parts is)

pub sum_is : (n : ℕ) (key : List (List Bool)) (parts : List (List ℕ)) → Fits n key parts → mask_sum (degree_of parts) key parts ≡ sum_at n key parts
unfolding mask_sum
sum_is n key parts is = ap (λ m. sum_at m key parts) (degree_is n key parts is)

pub length-zip_words : (n : ℕ) (w : ℕ → ℕ → ℕ) (xs ys : List ℕ) → length xs ≡ n → length ys ≡ n → length (zip_words w xs ys) ≡ n
length-zip_words n w xs ys p q = omega (arith, length-map (zip xs ys) (λ p. w p.0 p.1), length-zip xs ys, p, q)

pub length-sum_at : ProductLaws → (n : ℕ) (key : List (List Bool)) (parts : List (List ℕ)) → Fits n key parts → length (sum_at n key parts) ≡ n
length-sum_at laws n [] parts is = length-replicate {A = ℕ} n 0
length-sum_at laws n (b ∷ key) [] is = absurd is
length-sum_at laws n (b ∷ key) (part ∷ parts) is =
    length-zip_words n word_sum (negacyclic_product part (bit_words b)) (sum_at n key parts) (laws.product_length part (bit_words b) ∙ is.1) (length-sum_at laws n key parts is.2)

pub length-body : (n : ℕ) (key : List (List Bool)) (parts : List (List ℕ)) → Fits n key parts → length (body_of key parts) ≡ n
length-body n [] [] is = absurd is
length-body n [] (body ∷ []) is = is
length-body n [] (body ∷ part ∷ parts) is = absurd is
length-body n (b ∷ key) [] is = absurd is
length-body n (b ∷ key) (part ∷ parts) is = length-body n key parts is.2

both : {A B C : Type 0} (f : A → B → C) (a a' : A) (b b' : B) → a ≡ a' → b ≡ b' → f a b ≡ f a' b'
both f a a' b b' p q = ap (λ x. f x b) p ∙ ap (f a') q

-- ---- an operation on the words of two ciphertexts

record IsBinary (n : ℕ) (w : ℕ → ℕ → ℕ) : Type 0 where
  pub zeros : zip_words w (replicate n 0) (replicate n 0) ≡ replicate n 0
  pub sums : (a b c d : List ℕ) → row_sum (zip_words w a b) (zip_words w c d) ≡ zip_words w (row_sum a c) (row_sum b d)
  pub differences : (a b c d : List ℕ) → row_difference (zip_words w a b) (zip_words w c d) ≡ zip_words w (row_difference a c) (row_difference b d)
  pub products : (p q s : List ℕ) → length p ≡ n → length q ≡ n → length s ≡ n → negacyclic_product (zip_words w p q) s ≡ zip_words w (negacyclic_product p s) (negacyclic_product q s)

fits-zip : (n : ℕ) (w : ℕ → ℕ → ℕ) (key : List (List Bool)) (xs ys : List (List ℕ)) → Fits n key xs → Fits n key ys → Fits n key (zip_rows (zip_words w) xs ys)
fits-zip n w [] [] ys p q = absurd p
fits-zip n w [] (x ∷ []) [] p q = absurd q
fits-zip n w [] (x ∷ []) (y ∷ []) p q = length-zip_words n w x y p q
fits-zip n w [] (x ∷ []) (y ∷ y' ∷ ys) p q = absurd q
fits-zip n w [] (x ∷ x' ∷ xs) ys p q = absurd p
fits-zip n w (b ∷ key) [] ys p q = absurd p
fits-zip n w (b ∷ key) (x ∷ xs) [] p q = absurd q
fits-zip n w (b ∷ key) (x ∷ xs) (y ∷ ys) p q = (p.0, length-zip_words n w x y p.1 q.1, fits-zip n w key xs ys p.2 q.2)

sum_at-zip : (n : ℕ) (w : ℕ → ℕ → ℕ) → IsBinary n w → (key : List (List Bool)) (xs ys : List (List ℕ)) → Fits n key xs → Fits n key ys → sum_at n key (zip_rows (zip_words w) xs ys) ≡ zip_words w (sum_at n key xs) (sum_at n key ys)
sum_at-zip n w is [] xs ys p q = sym is.zeros
sum_at-zip n w is (b ∷ key) [] ys p q = absurd p
sum_at-zip n w is (b ∷ key) (x ∷ xs) [] p q = absurd q
sum_at-zip n w is (b ∷ key) (x ∷ xs) (y ∷ ys) p q =
    let s : List ℕ = bit_words b in
    both row_sum _ (zip_words w (negacyclic_product x s) (negacyclic_product y s)) _ (zip_words w (sum_at n key xs) (sum_at n key ys)) (is.products x y s p.1 q.1 (length-bits n b p.0)) (sum_at-zip n w is key xs ys p.2 q.2)
    ∙ is.sums (negacyclic_product x s) (negacyclic_product y s) (sum_at n key xs) (sum_at n key ys)

body-zip : (n : ℕ) (f : List ℕ → List ℕ → List ℕ) (key : List (List Bool)) (xs ys : List (List ℕ)) → Fits n key xs → Fits n key ys → body_of key (zip_rows f xs ys) ≡ f (body_of key xs) (body_of key ys)
body-zip n f [] [] ys p q = absurd p
body-zip n f [] (x ∷ []) [] p q = absurd q
body-zip n f [] (x ∷ []) (y ∷ ys) p q = refl
body-zip n f [] (x ∷ x' ∷ xs) ys p q = absurd p
body-zip n f (b ∷ key) [] ys p q = absurd p
body-zip n f (b ∷ key) (x ∷ xs) [] p q = absurd q
body-zip n f (b ∷ key) (x ∷ xs) (y ∷ ys) p q = body-zip n f key xs ys p.2 q.2

phase-zip : (n : ℕ) (w : ℕ → ℕ → ℕ) → IsBinary n w → (key : List (List Bool)) (xs ys : List (List ℕ)) → Fits n key xs → Fits n key ys → glwe_phase key (zip_rows (zip_words w) xs ys) ≡ zip_words w (glwe_phase key xs) (glwe_phase key ys)
phase-zip n w is key xs ys p q =
    phase_is n key (zip_rows (zip_words w) xs ys) (fits-zip n w key xs ys p q)
    ∙ both row_difference _ (zip_words w (body_of key xs) (body_of key ys)) _ (zip_words w (sum_at n key xs) (sum_at n key ys)) (body-zip n (zip_words w) key xs ys p q) (sum_at-zip n w is key xs ys p q)
    ∙ is.differences (body_of key xs) (body_of key ys) (sum_at n key xs) (sum_at n key ys)
    ∙ both (zip_words w) _ (glwe_phase key xs) _ (glwe_phase key ys) (sym (phase_is n key xs p)) (sym (phase_is n key ys q))

zeros-zip : (w : ℕ → ℕ → ℕ) (n : ℕ) → w 0 0 ≡ 0 → zip_words w (replicate n 0) (replicate n 0) ≡ replicate n 0
zeros-zip w zero e = refl
zeros-zip w (suc n) e = both (λ (x : ℕ) (xs : List ℕ). x ∷ xs) (w 0 0) 0 _ (replicate n 0) e (zeros-zip w n e)

four : (a b c d : ℕ) → word_difference (word_difference a b) (word_difference c d) ≡ word_difference (word_difference a c) (word_difference b d)
four a b c d = omega arith

differences_of_differences : (a b c d : List ℕ) → row_difference (row_difference a b) (row_difference c d) ≡ row_difference (row_difference a c) (row_difference b d)
differences_of_differences [] b c d = refl
differences_of_differences (x ∷ a) [] [] d = refl
differences_of_differences (x ∷ a) [] (z ∷ c) d = refl
differences_of_differences (x ∷ a) (y ∷ b) [] d = refl
differences_of_differences (x ∷ a) (y ∷ b) (z ∷ c) [] = refl
differences_of_differences (x ∷ a) (y ∷ b) (z ∷ c) (u ∷ d) = both (λ (x : ℕ) (xs : List ℕ). x ∷ xs) _ _ _ _ (four x y z u) (differences_of_differences a b c d)

is_sum : RingLaws → (n : ℕ) → IsBinary n word_sum
is_sum laws n = record {
  zeros = zeros-zip word_sum n refl;
  sums = laws.rows.sums_of_sums;
  differences = λ a b c d. laws.rows.difference_of_sums a b c d;
  products = λ p q s i j k. laws.products.sum_product p q s (i ∙ sym j) (j ∙ sym k);
}

is_difference : RingLaws → (n : ℕ) → IsBinary n word_difference
is_difference laws n = record {
  zeros = zeros-zip word_difference n refl;
  sums = λ a b c d. sym (laws.rows.difference_of_sums a c b d);
  differences = differences_of_differences;
  products = λ p q s i j k. laws.products.difference_product p q s (i ∙ sym j) (j ∙ sym k);
}

-- ---- an operation on each part

record IsUnary (n : ℕ) (f : List ℕ → List ℕ) : Type 0 where
  pub lengths : (p : List ℕ) → length p ≡ n → length (f p) ≡ n
  pub zeros : f (replicate n 0) ≡ replicate n 0
  pub sums : (p q : List ℕ) → length p ≡ n → length q ≡ n → f (row_sum p q) ≡ row_sum (f p) (f q)
  pub differences : (p q : List ℕ) → length p ≡ n → length q ≡ n → f (row_difference p q) ≡ row_difference (f p) (f q)
  pub products : (p s : List ℕ) → length p ≡ n → length s ≡ n → negacyclic_product (f p) s ≡ f (negacyclic_product p s)

fits-map : (n : ℕ) (f : List ℕ → List ℕ) → IsUnary n f → (key : List (List Bool)) (xs : List (List ℕ)) → Fits n key xs → Fits n key (map f xs)
fits-map n f is [] [] p = absurd p
fits-map n f is [] (x ∷ []) p = is.lengths x p
fits-map n f is [] (x ∷ x' ∷ xs) p = absurd p
fits-map n f is (b ∷ key) [] p = absurd p
fits-map n f is (b ∷ key) (x ∷ xs) p = (p.0, is.lengths x p.1, fits-map n f is key xs p.2)

sum_at-map : ProductLaws → (n : ℕ) (f : List ℕ → List ℕ) → IsUnary n f → (key : List (List Bool)) (xs : List (List ℕ)) → Fits n key xs → sum_at n key (map f xs) ≡ f (sum_at n key xs)
sum_at-map laws n f is [] xs p = sym is.zeros
sum_at-map laws n f is (b ∷ key) [] p = absurd p
sum_at-map laws n f is (b ∷ key) (x ∷ xs) p =
    let s : List ℕ = bit_words b in
    both row_sum _ (f (negacyclic_product x s)) _ (f (sum_at n key xs)) (is.products x s p.1 (length-bits n b p.0)) (sum_at-map laws n f is key xs p.2)
    ∙ sym (is.sums (negacyclic_product x s) (sum_at n key xs) (laws.product_length x s ∙ p.1) (length-sum_at laws n key xs p.2))

body-map : (n : ℕ) (f : List ℕ → List ℕ) (key : List (List Bool)) (xs : List (List ℕ)) → Fits n key xs → body_of key (map f xs) ≡ f (body_of key xs)
body-map n f [] [] p = absurd p
body-map n f [] (x ∷ xs) p = refl
body-map n f (b ∷ key) [] p = absurd p
body-map n f (b ∷ key) (x ∷ xs) p = body-map n f key xs p.2

phase-map : ProductLaws → (n : ℕ) (f : List ℕ → List ℕ) → IsUnary n f → (key : List (List Bool)) (xs : List (List ℕ)) → Fits n key xs → glwe_phase key (map f xs) ≡ f (glwe_phase key xs)
phase-map laws n f is key xs p =
    phase_is n key (map f xs) (fits-map n f is key xs p)
    ∙ both row_difference _ (f (body_of key xs)) _ (f (sum_at n key xs)) (body-map n f key xs p) (sum_at-map laws n f is key xs p)
    ∙ sym (is.differences (body_of key xs) (sum_at n key xs) (length-body n key xs p) (length-sum_at laws n key xs p))
    ∙ ap f (sym (phase_is n key xs p))

zeros-map : (w : ℕ → ℕ) (n : ℕ) → w 0 ≡ 0 → map w (replicate n 0) ≡ replicate n 0
zeros-map w zero e = refl
zeros-map w (suc n) e = both (λ (x : ℕ) (xs : List ℕ). x ∷ xs) (w 0) 0 _ (replicate n 0) e (zeros-map w n e)

is_multiple : RingLaws → (n factor : ℕ) → IsUnary n (scaled_row factor)
is_multiple laws n factor = record {
  lengths = λ p e. length-map p _ ∙ e;
  zeros = zeros-map _ n (omega arith);
  sums = λ p q _ _. laws.rows.scaled_sum factor p q;
  differences = λ p q _ _. laws.rows.scaled_difference factor p q;
  products = λ p s i j. laws.products.scaled_product factor p s (i ∙ sym j);
}

is_product : RingLaws → (n : ℕ) (q : List ℕ) → length q ≡ n → IsUnary n (negacyclic_product q)
is_product laws n q e = record {
  lengths = λ p _. laws.products.product_length q p ∙ e;
  zeros = subst (λ m. negacyclic_product q (replicate m 0) ≡ replicate m 0) e (laws.products.product_zero q);
  sums = λ p r i j. laws.products.product_sum q p r (e ∙ sym i) (i ∙ sym j);
  differences = λ p r i j. laws.products.product_difference q p r (e ∙ sym i) (i ∙ sym j);
  products = λ p s i j. laws.products.product_associative q p s (e ∙ sym i) (i ∙ sym j);
}

is_rotation : RingLaws → (n by : ℕ) → IsUnary n (rotation by)
is_rotation laws n by = record {
  lengths = λ p e. laws.rotations.rotation_length by p ∙ e;
  zeros = laws.rotations.rotation_zero by n;
  sums = λ p q i j. laws.rotations.rotation_sum by p q (i ∙ sym j);
  differences = λ p q i j. laws.rotations.rotation_difference by p q (i ∙ sym j);
  products = λ p s i j. laws.rotations.rotation_product by p s (i ∙ sym j);
}

-- ---- sums with multiples and with products

zip_rows-same : (f g : List ℕ → List ℕ → List ℕ) (xs ys : List (List ℕ)) → ((x y : List ℕ) → f x y ≡ g x y) → zip_rows f xs ys ≡ zip_rows g xs ys
zip_rows-same f g [] ys same = refl
zip_rows-same f g (x ∷ xs) [] same = refl
zip_rows-same f g (x ∷ xs) (y ∷ ys) same = both (λ (r : List ℕ) (rs : List (List ℕ)). r ∷ rs) (f x y) (g x y) _ _ (same x y) (zip_rows-same f g xs ys same)

phase-with_multiple : RingLaws → (n factor : ℕ) (key : List (List Bool)) (xs ys : List (List ℕ)) → Fits n key xs → Fits n key ys → glwe_phase key (zip_rows (λ x y. sum_with_scaled x factor y) xs ys) ≡ sum_with_scaled (glwe_phase key xs) factor (glwe_phase key ys)
phase-with_multiple laws n factor key xs ys p q =
    ap (glwe_phase key) (zip_rows-same (λ x y. sum_with_scaled x factor y) (λ x y. row_sum x (scaled_row factor y)) xs ys (λ x y. laws.rows.with_scaled_is x factor y) ∙ zip_rows-mapped row_sum (scaled_row factor) xs ys)
    ∙ phase-zip n word_sum (is_sum laws n) key xs (map (scaled_row factor) ys) p (fits-map n (scaled_row factor) (is_multiple laws n factor) key ys q)
    ∙ ap (row_sum (glwe_phase key xs)) (phase-map laws.products n (scaled_row factor) (is_multiple laws n factor) key ys q)
    ∙ sym (laws.rows.with_scaled_is (glwe_phase key xs) factor (glwe_phase key ys))

phase-plus_product : RingLaws → (n : ℕ) (r : List ℕ) (key : List (List Bool)) (xs ys : List (List ℕ)) → length r ≡ n → Fits n key xs → Fits n key ys → glwe_phase key (plus_product xs r ys) ≡ row_sum (glwe_phase key xs) (negacyclic_product r (glwe_phase key ys))
phase-plus_product laws n r key xs ys e p q =
    phase-zip n word_sum (is_sum laws n) key xs (map (negacyclic_product r) ys) p (fits-map n (negacyclic_product r) (is_product laws n r e) key ys q)
    ∙ ap (row_sum (glwe_phase key xs)) (phase-map laws.products n (negacyclic_product r) (is_product laws n r e) key ys q)

-- ---- trivial and sealed ciphertexts

fits_trivial : (key : List (List Bool)) (body : List ℕ) → AllByRecursion (λ bits. length bits ≡ length body) key → Fits (length body) key (trivial_glwe (length key) body)
fits_trivial [] body are = refl
fits_trivial (b ∷ key) body are = (are.0, length-replicate {A = ℕ} (length body) 0, fits_trivial key body are.1)

sum_at-trivial : ProductLaws → (key : List (List Bool)) (body : List ℕ) → AllByRecursion (λ bits. length bits ≡ length body) key → sum_at (length body) key (trivial_glwe (length key) body) ≡ replicate (length body) 0
sum_at-trivial laws [] body are = refl
sum_at-trivial laws (b ∷ key) body are =
    let n : ℕ = length body in
    let s : List ℕ = bit_words b in
    let none : negacyclic_product (replicate n 0) s ≡ replicate n 0 = subst (λ m. negacyclic_product (replicate m 0) s ≡ replicate m 0) (length-bits n b are.0) (laws.zero_product s) in
    both row_sum _ (replicate n 0) _ (replicate n 0) none (sum_at-trivial laws key body are.1) ∙ zeros-zip word_sum n refl

body-trivial : (key : List (List Bool)) (body : List ℕ) → body_of key (trivial_glwe (length key) body) ≡ body
body-trivial [] body = refl
body-trivial (b ∷ key) body = body-trivial key body

word_minus_zero : (w : ℕ) → IsWord w → word_difference w 0 ≡ w
word_minus_zero w is = omega arith

minus_zeros : (xs : List ℕ) → AllByRecursion IsWord xs → row_difference xs (replicate (length xs) 0) ≡ xs
minus_zeros [] are = refl
minus_zeros (x ∷ xs) are = both (λ (x : ℕ) (xs : List ℕ). x ∷ xs) _ x _ xs (word_minus_zero x are.0) (minus_zeros xs are.1)

phase-trivial : ProductLaws → (key : List (List Bool)) (body : List ℕ) → AllByRecursion (λ bits. length bits ≡ length body) key → AllByRecursion IsWord body → glwe_phase key (trivial_glwe (length key) body) ≡ body
phase-trivial laws key body are words =
    phase_is (length body) key (trivial_glwe (length key) body) (fits_trivial key body are)
    ∙ both row_difference _ body _ (replicate (length body) 0) (body-trivial key body) (sum_at-trivial laws key body are)
    ∙ minus_zeros body words

phase-zero : ProductLaws → (n : ℕ) (key : List (List Bool)) → AllByRecursion (λ bits. length bits ≡ n) key → glwe_phase key (replicate (length key + 1) (replicate n 0)) ≡ replicate n 0
phase-zero laws n key are =
    let zeros : List ℕ = replicate n 0 in
    let long : length zeros ≡ n = length-replicate {A = ℕ} n 0 in
    let same : replicate (length key + 1) zeros ≡ trivial_glwe (length key) zeros =
    sym (replicate_more (length key) zeros) ∙ ap (λ m. replicate (length key) (replicate m 0) ++ zeros ∷ []) (sym long) in
    ap (glwe_phase key) same
    ∙ phase-trivial laws key zeros (subst (λ m. AllByRecursion (λ bits. length bits ≡ m) key) (sym long) are) (recursion_from_All IsWord zeros (All-replicate IsWord n 0 (omega arith)))

fits-set : (n : ℕ) (key : List (List Bool)) (xs : List (List ℕ)) (body : List ℕ) → Fits n key xs → length body ≡ n → Fits n key (set xs (length key) body)
fits-set n [] [] body p e = absurd p
fits-set n [] (x ∷ []) body p e = e
fits-set n [] (x ∷ x' ∷ xs) body p e = absurd p
fits-set n (b ∷ key) [] body p e = absurd p
fits-set n (b ∷ key) (x ∷ xs) body p e = (p.0, p.1, fits-set n key xs body p.2 e)

body-set : (n : ℕ) (key : List (List Bool)) (xs : List (List ℕ)) (body : List ℕ) → Fits n key xs → body_of key (set xs (length key) body) ≡ body
body-set n [] [] body p = absurd p
body-set n [] (x ∷ xs) body p = refl
body-set n (b ∷ key) [] body p = absurd p
body-set n (b ∷ key) (x ∷ xs) body p = body-set n key xs body p.2

sum_at-set : (n : ℕ) (key : List (List Bool)) (xs : List (List ℕ)) (body : List ℕ) → sum_at n key (set xs (length key) body) ≡ sum_at n key xs
sum_at-set n [] xs body = refl
sum_at-set n (b ∷ key) [] body = refl
sum_at-set n (b ∷ key) (x ∷ xs) body = ap (row_sum (negacyclic_product x (bit_words b))) (sum_at-set n key xs body)

word_back : (p m : ℕ) → IsWord p → word_difference (word_sum p m) m ≡ p
word_back p m is = omega arith

minus_back : (xs ys : List ℕ) → length ys ≡ length xs → AllByRecursion IsWord xs → row_difference (row_sum xs ys) ys ≡ xs
minus_back [] ys e are = refl
minus_back (x ∷ xs) [] e are = absurd (omega arith)
minus_back (x ∷ xs) (y ∷ ys) e are = both (λ (x : ℕ) (xs : List ℕ). x ∷ xs) _ x _ xs (word_back x y are.0) (minus_back xs ys (omega arith) are.1)

phase-sealed : ProductLaws → (n : ℕ) (key : List (List Bool)) (xs : List (List ℕ)) (phase : List ℕ) → Fits n key xs → length phase ≡ n → AllByRecursion IsWord phase → glwe_phase key (sealed_glwe key xs phase) ≡ phase
phase-sealed laws n key xs phase p e words =
    let sum : List ℕ = sum_at n key xs in
    let long : length sum ≡ n = length-sum_at laws n key xs p in
    let body : List ℕ = row_sum phase sum in
    ap (λ m. glwe_phase key (set xs (length key) (row_sum phase m))) (sum_is n key xs p)
    ∙ phase_is n key (set xs (length key) body) (fits-set n key xs body p (length-zip_words n word_sum phase sum e long))
    ∙ both row_difference _ body _ sum (body-set n key xs body p) (sum_at-set n key xs body)
    ∙ minus_back phase sum (long ∙ sym e) words

-- ---- all of them

phase-words : RowRingLaws → (key : List (List Bool)) (xs : List (List ℕ)) → All IsWord (glwe_phase key xs)
unfolding glwe_phase
phase-words rows key xs = rows.zip_are_words word_difference (body_of key xs) (mask_sum (degree_of xs) key xs) (λ x y. omega arith)

pub laws : RingLaws → GlwePhaseLaws
laws ring = record {
  phase_length = λ n key xs is.
      let p = fits n key xs is in
      ap length (phase_is n key xs p) ∙ length-zip_words n word_difference (body_of key xs) (sum_at n key xs) (length-body n key xs p) (length-sum_at ring.products n key xs p);
  phase_words = phase-words ring.rows;
  phase_sum = λ n key xs ys is also. phase-zip n word_sum (is_sum ring n) key xs ys (fits n key xs is) (fits n key ys also);
  phase_difference = λ n key xs ys is also. phase-zip n word_difference (is_difference ring n) key xs ys (fits n key xs is) (fits n key ys also);
  phase_multiple = λ n factor key xs is. phase-map ring.products n (scaled_row factor) (is_multiple ring n factor) key xs (fits n key xs is);
  phase_sum_with_multiple = λ n factor key xs ys is also. phase-with_multiple ring n factor key xs ys (fits n key xs is) (fits n key ys also);
  phase_product = λ n p key xs e is. phase-map ring.products n (negacyclic_product p) (is_product ring n p e) key xs (fits n key xs is);
  phase_plus_product = λ n p key xs ys e is also. phase-plus_product ring n p key xs ys e (fits n key xs is) (fits n key ys also);
  phase_rotated = λ n by key xs is. phase-map ring.products n (rotation by) (is_rotation ring n by) key xs (fits n key xs is);
  phase_trivial = λ key body are words. phase-trivial ring.products key body (recursion_from_All (λ bits. length bits ≡ length body) key are) (recursion_from_All IsWord body words);
  phase_zero = λ n key are. phase-zero ring.products n key (recursion_from_All (λ bits. length bits ≡ n) key are);
  phase_sealed = λ n key xs phase is e words. phase-sealed ring.products n key xs phase (fits n key xs is) e (recursion_from_All IsWord phase words);
}
