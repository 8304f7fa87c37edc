-- Sample extraction: coefficient 0 of the phase, by the flat key.
use Rattle.std.proofs.Common.{◌≡◌, ℕ, ◌+◌, ◌-◌, ◌*◌, ◌%◌, ◌^◌, ◌<◌, ◌≤◌, Bool, true, false, cond, ltb, eqb, List, [], ◌∷◌, ◌++◌, length, get_or, map, replicate, take, append_assoc, arith, ap, sym, subst, ◌∙◌, refl}
use Prim.Native.Nat.{zero, suc}
use Rattle.std.specs.List.{zip, concat, range_with_len}
use Rattle.std.proofs.Math.Nat.{mod_self, mod-eq_of_lt}
use Rattle.std.proofs.lemmas.Nat.{mul-mod}
use Rattle.std.proofs.lemmas.Bool.{lt-ltb, le-ltb, ne_eqb}
use Rattle.std.proofs.lemmas.List.{length-map, length-append, get_or-append-add, get_or-replicate}
use Rattle.std.proofs.lemmas.List.Sums.{sum_by-cons}
use Rattle.word_ring.specs.Words.{word_sum, word_difference, word_negation}
use Rattle.word_ring.specs.Rows.{zip_words, row_sum, row_difference, RowLaws}
use Rattle.lwe_core.specs.Secret.{bit_word, bit_words}
use Rattle.lwe_core.specs.Phase.{FitsKey, masked_sum, phase_of}
use Rattle.negacyclic.specs.Product.{sum_below, negacyclic_product, coefficient}
use Rattle.negacyclic.specs.Laws.{ProductLaws}
use Rattle.glwe_core.specs.Glwe.{FitsGlweKey, flat_key_of, body_of, glwe_phase, extracted_mask, extracted}
use Rattle.glwe_core.specs.Laws.{ExtractionLaws}
use Rattle.glwe_core.proofs.ExtractionLoops.{mask_word, length-extracted_mask}
use Rattle.glwe_core.proofs.GlwePhases.{Fits, fits, length-bits, sum_at, phase_is, length-body, length-sum_at}

-- ---- finite sums

sum_below-first : (n : ℕ) (f : ℕ → ℕ) → sum_below (suc n) f ≡ f 0 + sum_below n (λ i. f (suc i))
sum_below-first zero f = omega arith
sum_below-first (suc n) f = omega (arith, sum_below-first n f)

sum_below-same : (n : ℕ) (f g : ℕ → ℕ) → ((i : ℕ) → i < n → f i ≡ g i) → sum_below n f ≡ sum_below n g
sum_below-same zero f g same = refl
sum_below-same (suc n) f g same = omega (arith, sum_below-same n f g (λ i h. same i (omega arith)), same n (omega arith))

product_residue : (a b h : ℕ) → a % 2 ^ 64 ≡ b % 2 ^ 64 → (a * h) % 2 ^ 64 ≡ (b * h) % 2 ^ 64
product_residue a b h e = mul-mod a h (2 ^ 64) ∙ ap (λ r. (r * (h % 2 ^ 64)) % 2 ^ 64) e ∙ sym (mul-mod b h (2 ^ 64))

sum_residues : (a b x y : ℕ) → a % 2 ^ 64 ≡ b % 2 ^ 64 → x % 2 ^ 64 ≡ y % 2 ^ 64 → (a + x) % 2 ^ 64 ≡ (b + y) % 2 ^ 64
sum_residues a b x y p q = omega (arith, p, q)

sum_below-residues : (n : ℕ) (f g h : ℕ → ℕ) → ((i : ℕ) → i < n → f i % 2 ^ 64 ≡ g i % 2 ^ 64) → sum_below n (λ i. f i * h i) % 2 ^ 64 ≡ sum_below n (λ i. g i * h i) % 2 ^ 64
sum_below-residues zero f g h same = refl
sum_below-residues (suc n) f g h same =
    sum_residues (sum_below n (λ i. f i * h i)) (sum_below n (λ i. g i * h i)) (f n * h n) (g n * h n)
    (sum_below-residues n f g h (λ i lt. same i (omega arith))) (product_residue (f n) (g n) (h n) (same n (omega arith)))

-- ---- masked sums

masked-cons : (b : Bool) (bits : List Bool) (x : ℕ) (xs : List ℕ) → masked_sum (b ∷ bits) (x ∷ xs) ≡ cond b x 0 + masked_sum bits xs
masked-cons b bits x xs = sum_by-cons (λ p. cond p.0 p.1 0) (b, x) (zip bits xs)

masked-append : (bits others : List Bool) (xs ys : List ℕ) → length xs ≡ length bits → masked_sum (bits ++ others) (xs ++ ys) ≡ masked_sum bits xs + masked_sum others ys
masked-append [] others [] ys e = omega arith
masked-append [] others (x ∷ xs) ys e = absurd (omega arith)
masked-append (b ∷ bits) others [] ys e = absurd (omega arith)
masked-append (b ∷ bits) others (x ∷ xs) ys e =
    omega (arith, masked-cons b (bits ++ others) x (xs ++ ys), masked-cons b bits x xs, masked-append bits others xs ys (omega arith))

chosen : (b : Bool) (x : ℕ) → cond b x 0 ≡ x * bit_word b
chosen true x = omega arith
chosen false x = omega arith

-- the mask words made by a function of the place
masked-range : (bits : List Bool) (f : ℕ → ℕ) (a : ℕ) → masked_sum bits (map f (range_with_len a (length bits))) ≡ sum_below (length bits) (λ j. f (a + j) * get_or (bit_words bits) j 0)
masked-range [] f a = refl
masked-range (b ∷ bits) f a =
    let term : ℕ → ℕ = λ j. f (a + j) * get_or (bit_words (b ∷ bits)) j 0 in
    let rest : sum_below (length bits) (λ j. f (a + 1 + j) * get_or (bit_words bits) j 0) ≡ sum_below (length bits) (λ j. term (suc j)) =
    sum_below-same (length bits) _ _ (λ j h. ap (λ k. f k * get_or (bit_words bits) j 0) (omega arith)) in
    let first : f a * bit_word b ≡ term 0 = ap (λ k. f k * bit_word b) (omega arith) in
    masked-cons b bits (f a) (map f (range_with_len (a + 1) (length bits)))
    ∙ ap (λ n. n + masked_sum bits (map f (range_with_len (a + 1) (length bits)))) (chosen b (f a) ∙ first)
    ∙ ap (λ n. term 0 + n) (masked-range bits f (a + 1) ∙ rest)
    ∙ sym (sum_below-first (length bits) term)

-- ---- one part

twice : (w : ℕ) → w % 2 ^ 64 % 2 ^ 64 ≡ w % 2 ^ 64
twice w = omega arith

first_place : (n : ℕ) → 0 < n → (0 + (2 * n - 0)) % (2 * n) ≡ 0
first_place n some = ap (λ m. m % (2 * n)) (omega arith) ∙ mod_self (2 * n)

other_place : (n i : ℕ) → suc i < n → (0 + (2 * n - suc i)) % (2 * n) ≡ 2 * n - suc i
other_place n i lt =
    let below : 2 * n - suc i < 2 * n = omega arith in
    ap (λ m. m % (2 * n)) (omega arith) ∙ mod-eq_of_lt below

coefficient_word : (a : List ℕ) (i : ℕ) → i < length a → coefficient a (0 + (2 * length a - i)) % 2 ^ 64 ≡ mask_word a i % 2 ^ 64
coefficient_word a zero lt =
    let place = first_place (length a) lt in
    let inside = lt-ltb 0 (length a) lt in
    rw (place, inside) (twice (get_or a 0 0))
coefficient_word a (suc i) lt =
    let n : ℕ = length a in
    let place = other_place n i lt in
    let past = le-ltb (2 * n - suc i) n (omega arith) in
    let same : 2 * n - suc i - n ≡ n - suc i = omega arith in
    let other : eqb (suc i) 0 ≡ false = ne_eqb (suc i) 0 (λ e. absurd (omega arith)) in
    rw (place, past, other) (ap (λ k. word_negation (get_or a k 0) % 2 ^ 64) same)

-- coefficient 0 of the product with bits is the masked sum of the extracted mask
product-extracted : ProductLaws → (n : ℕ) (bits : List Bool) (a : List ℕ) → length a ≡ n → length bits ≡ n → 0 < n → get_or (negacyclic_product a (bit_words bits)) 0 0 ≡ masked_sum bits (extracted_mask a) % 2 ^ 64
unfolding extracted_mask
product-extracted laws n bits a p q some =
    let s : List ℕ = bit_words bits in
    let long : length s ≡ n = length-bits n bits q in
    let f : ℕ → ℕ = λ j. coefficient a (0 + (2 * length a - j)) in
    let h : ℕ → ℕ = λ j. get_or s j 0 in
    laws.product_coefficient a s 0 (p ∙ sym long) (omega (arith, p, some))
    ∙ sum_below-residues (length s) f (mask_word a) h (λ j lt. coefficient_word a j (omega (arith, p, long, lt)))
    ∙ ap (λ m. sum_below m (λ j. mask_word a j * h j) % 2 ^ 64) (long ∙ sym q)
    ∙ ap (λ m. m % 2 ^ 64) (sum_below-same (length bits) (λ j. mask_word a j * h j) (λ j. mask_word a (0 + j) * h j) (λ j lt. ap (λ k. mask_word a k * h j) (omega arith))
    ∙ sym (masked-range bits (mask_word a) 0)
    ∙ ap (λ m. masked_sum bits (map (mask_word a) (range_with_len 0 m))) (q ∙ sym p))

-- ---- part by part

-- sample extraction behind k mask polynomials
abbrev extracted_at : ℕ → List (List ℕ) → List ℕ
extracted_at k parts = concat (map extracted_mask (take k parts)) ++ get_or (get_or parts k []) 0 0 ∷ []

fits_number : (n : ℕ) (key : List (List Bool)) (parts : List (List ℕ)) → Fits n key parts → length parts ≡ length key + 1
fits_number n [] [] is = absurd is
fits_number n [] (body ∷ []) is = refl
fits_number n [] (body ∷ part ∷ parts) is = absurd is
fits_number n (b ∷ key) [] is = absurd is
fits_number n (b ∷ key) (part ∷ parts) is = omega (arith, fits_number n key parts is.2)

extracted_is : (n : ℕ) (key : List (List Bool)) (parts : List (List ℕ)) → Fits n key parts → extracted parts ≡ extracted_at (length key) parts
unfolding extracted
extracted_is n key parts is = ap (λ k. extracted_at k parts) (omega (arith, fits_number n key parts is))

extracted_at-more : (k : ℕ) (part : List ℕ) (parts : List (List ℕ)) → extracted_at (suc k) (part ∷ parts) ≡ extracted_mask part ++ extracted_at k parts
extracted_at-more k part parts = append_assoc (extracted_mask part) (concat (map extracted_mask (take k parts))) (get_or (get_or parts k []) 0 0 ∷ [])

length-extracted_at : (n : ℕ) (key : List (List Bool)) (parts : List (List ℕ)) → Fits n key parts → length (extracted_at (length key) parts) ≡ length (flat_key_of key) + 1
length-extracted_at n [] [] is = absurd is
length-extracted_at n [] (body ∷ []) is = refl
length-extracted_at n [] (body ∷ part ∷ parts) is = absurd is
length-extracted_at n (b ∷ key) [] is = absurd is
length-extracted_at n (b ∷ key) (part ∷ parts) is =
    let whole : length (extracted_at (suc (length key)) (part ∷ parts)) ≡ length (extracted_mask part) + length (extracted_at (length key) parts) =
    ap length (extracted_at-more (length key) part parts) ∙ length-append (extracted_mask part) (extracted_at (length key) parts) in
    omega (arith, whole, length-extracted_mask part, length-extracted_at n key parts is.2, length-append b (flat_key_of key), is.0, is.1)

body-extracted : (n : ℕ) (key : List (List Bool)) (parts : List (List ℕ)) → Fits n key parts → get_or (extracted_at (length key) parts) (length (flat_key_of key)) 0 ≡ get_or (body_of key parts) 0 0
body-extracted n [] [] is = absurd is
body-extracted n [] (body ∷ []) is = refl
body-extracted n [] (body ∷ part ∷ parts) is = absurd is
body-extracted n (b ∷ key) [] is = absurd is
body-extracted n (b ∷ key) (part ∷ parts) is =
    let place : length (b ++ flat_key_of key) ≡ length (extracted_mask part) + length (flat_key_of key) =
    omega (arith, length-append b (flat_key_of key), length-extracted_mask part, is.0, is.1) in
    ap (λ xs. get_or xs (length (b ++ flat_key_of key)) 0) (extracted_at-more (length key) part parts)
    ∙ ap (λ i. get_or (extracted_mask part ++ extracted_at (length key) parts) i 0) place
    ∙ get_or-append-add (extracted_mask part) (extracted_at (length key) parts) (length (flat_key_of key)) 0
    ∙ body-extracted n key parts is.2

joined : (p m : ℕ) → word_sum (p % 2 ^ 64) (m % 2 ^ 64) ≡ (p + m) % 2 ^ 64
joined p m = omega arith

masked-extracted : RowLaws → ProductLaws → (n : ℕ) (key : List (List Bool)) (parts : List (List ℕ)) → 0 < n → Fits n key parts → get_or (sum_at n key parts) 0 0 ≡ masked_sum (flat_key_of key) (extracted_at (length key) parts) % 2 ^ 64
masked-extracted rows laws n [] parts some is = get_or-replicate n 0 0 0 some
masked-extracted rows laws n (b ∷ key) [] some is = absurd is
masked-extracted rows laws n (b ∷ key) (part ∷ parts) some is =
    let product : List ℕ = negacyclic_product part (bit_words b) in
    let sum : List ℕ = sum_at n key parts in
    let long : length product ≡ n = laws.product_length part (bit_words b) ∙ is.1 in
    let first : ℕ = masked_sum b (extracted_mask part) in
    let rest : ℕ = masked_sum (flat_key_of key) (extracted_at (length key) parts) in
    rows.zip_word word_sum product sum 0 (omega (arith, long, some)) (omega (arith, length-sum_at laws n key parts is.2, some))
    ∙ ap (λ x. word_sum x (get_or sum 0 0)) (product-extracted laws n b part is.1 is.0 some)
    ∙ ap (word_sum (first % 2 ^ 64)) (masked-extracted rows laws n key parts some is.2)
    ∙ joined first rest
    ∙ ap (λ m. m % 2 ^ 64) (sym (ap (masked_sum (b ++ flat_key_of key)) (extracted_at-more (length key) part parts) ∙ masked-append b (flat_key_of key) (extracted_mask part) (extracted_at (length key) parts) (length-extracted_mask part ∙ is.1 ∙ sym is.0)))

difference_residue : (b m r : ℕ) → r ≡ m % 2 ^ 64 → word_difference b m ≡ word_difference b r
difference_residue b m r e = omega (arith, e)

phase-extracted : RowLaws → ProductLaws → (n : ℕ) (key : List (List Bool)) (parts : List (List ℕ)) → 0 < n → Fits n key parts → phase_of (flat_key_of key) (extracted parts) ≡ get_or (glwe_phase key parts) 0 0
phase-extracted rows laws n key parts some is =
    let flat : List Bool = flat_key_of key in
    let body : List ℕ = body_of key parts in
    let sum : List ℕ = sum_at n key parts in
    let words : List ℕ = extracted_at (length key) parts in
    ap (phase_of flat) (extracted_is n key parts is)
    ∙ ap (λ b. word_difference b (masked_sum flat words)) (body-extracted n key parts is)
    ∙ difference_residue (get_or body 0 0) (masked_sum flat words) (get_or sum 0 0) (masked-extracted rows laws n key parts some is)
    ∙ sym (rows.zip_word word_difference body sum 0 (omega (arith, length-body n key parts is, some)) (omega (arith, length-sum_at laws n key parts is, some)))
    ∙ ap (λ p. get_or p 0 0) (sym (phase_is n key parts is))

pub extracted-fits : (n : ℕ) (key : List (List Bool)) (xs : List (List ℕ)) → FitsGlweKey n key xs → FitsKey (flat_key_of key) (extracted xs)
extracted-fits n key xs is = ap length (extracted_is n key xs (fits n key xs is)) ∙ length-extracted_at n key xs (fits n key xs is)

pub laws : RowLaws → ProductLaws → ExtractionLaws
laws rows products = record {
  extracted_fits = extracted-fits;
  phase_extracted = λ n key xs some is. phase-extracted rows products n key xs some (fits n key xs is);
}
