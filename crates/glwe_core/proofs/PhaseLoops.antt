-- What the functions on phases have computed.
use Rattle.std.proofs.Common.{◌≡◌, ℕ, ◌+◌, ◌-◌, ◌*◌, ◌%◌, ◌^◌, ◌<◌, ◌≤◌, min, Bool, List, [], ◌∷◌, ◌++◌, length, get_or, set, map, replicate, take, drop, All, add-zero, arith, ap, sym, ◌∙◌, refl}
use Prim.Native.Nat.{zero, suc}
use Rattle.std.specs.List.{zip, range_with_len, AllByRecursion}
use Rattle.std.proofs.Math.Seq.{set-append_seam}
use Rattle.std.proofs.lemmas.List.{ext_get_or, length-map, length-replicate, get_or_default, get_or-map, get_or-replicate, take_more, take_all, replicate_more, take-append-drop, set-append_right, length-take-le, length-drop, get_or-drop, map-set, set-get_or}
use Rattle.std.proofs.lemmas.List.Elements.{recursion_from_All, All-map}
use Rattle.std.proofs.lemmas.List.FromFn.{length-range_with_len}
use Rattle.std.proofs.lemmas.Slice.Zip.{length-zip, get_or-zip}
use Rattle.word_ring.specs.Words.{IsWord, word_sum, word_difference}
use Rattle.word_ring.specs.Rows.{zip_words, row_sum, row_difference, scaled_row, sum_of_rows, AllOfLength}
use Rattle.lwe_core.specs.Secret.{bit_words}
use Rattle.negacyclic.specs.Product.{negacyclic_product}
use Rattle.glwe_core.specs.Glwe.{lengths_of, degree_of, FitsGlweKey, body_of, mask_products, mask_sum, glwe_phase, trivial_glwe, sealed_glwe}

-- ---- rows

both : {A B C : Type 0} (f : A → B → C) (a a' : A) (b b' : B) → a ≡ a' → b ≡ b' → f a b ≡ f a' b'
both f a a' b b' p q = ap (λ x. f x b) p ∙ ap (f a') q

word_groups : (a b c : ℕ) → word_sum (word_sum a b) c ≡ word_sum a (word_sum b c)
word_groups a b c = omega arith

sum_groups : (xs ys zs : List ℕ) → row_sum (row_sum xs ys) zs ≡ row_sum xs (row_sum ys zs)
sum_groups [] ys zs = refl
sum_groups (x ∷ xs) [] zs = refl
sum_groups (x ∷ xs) (y ∷ ys) [] = refl
sum_groups (x ∷ xs) (y ∷ ys) (z ∷ zs) = both (λ (w : ℕ) (ws : List ℕ). w ∷ ws) _ _ _ _ (word_groups x y z) (sum_groups xs ys zs)

word_turns : (a b : ℕ) → word_sum a b ≡ word_sum b a
word_turns a b = omega arith

sum_turns : (xs ys : List ℕ) → row_sum xs ys ≡ row_sum ys xs
sum_turns [] [] = refl
sum_turns [] (y ∷ ys) = refl
sum_turns (x ∷ xs) [] = refl
sum_turns (x ∷ xs) (y ∷ ys) = both (λ (w : ℕ) (ws : List ℕ). w ∷ ws) _ _ _ _ (word_turns x y) (sum_turns xs ys)

negated : (m b : ℕ) → word_sum ((18446744073709551615 * m) % 2 ^ 64) b ≡ word_difference b m
negated m b = omega arith

pub minus_is : (m b : List ℕ) → length b ≡ length m → row_sum (scaled_row 18446744073709551615 m) b ≡ row_difference b m
minus_is [] [] e = refl
minus_is [] (b ∷ bs) e = absurd (omega arith)
minus_is (m ∷ ms) [] e = absurd (omega arith)
minus_is (m ∷ ms) (b ∷ bs) e = both (λ (w : ℕ) (ws : List ℕ). w ∷ ws) _ _ _ _ (negated m b) (minus_is ms bs (omega arith))

-- ---- the sum of the products

length-product : (p q : List ℕ) → length (negacyclic_product p q) ≡ length p
unfolding negacyclic_product
length-product p q = length-map (range_with_len 0 (length p)) _ ∙ length-range_with_len 0 (length p)

sum-push : (n : ℕ) (rows : List (List ℕ)) (row : List ℕ) → sum_of_rows n (rows ++ row ∷ []) ≡ row_sum (sum_of_rows n rows) row
sum-push n [] row = sum_turns row (replicate n 0)
sum-push n (r ∷ rows) row = ap (row_sum r) (sum-push n rows row) ∙ sym (sum_groups r (sum_of_rows n rows) row)

length-mask_products : (key : List (List Bool)) (mask : List (List ℕ)) → length key ≤ length mask → length (mask_products key mask) ≡ length key
length-mask_products key mask le = omega (arith, length-map (zip key mask) (λ p. negacyclic_product p.1 (bit_words p.0)), length-zip key mask, le)

get_or-mask_products : (key : List (List Bool)) (mask : List (List ℕ)) (j : ℕ) → length key ≤ length mask → j < length key → get_or (mask_products key mask) j [] ≡ negacyclic_product (get_or mask j []) (bit_words (get_or key j []))
get_or-mask_products key mask j le lt =
    let product : List Bool × List ℕ → List ℕ = λ p. negacyclic_product p.1 (bit_words p.0) in
    get_or-map product (zip key mask) j ([], []) [] (omega (arith, length-zip key mask, le, lt)) ∙ ap product (get_or-zip key mask j ([], []) lt (omega (arith, le, lt)))

-- the polynomial of the key that a loop comes to
pub poly_is_bits : (key : List (List Bool)) (polys : List (List ℕ)) (j : ℕ) (poly : List ℕ) → polys ≡ map bit_words key → j < length key → poly ≡ get_or polys j poly → poly ≡ bit_words (get_or key j [])
poly_is_bits key polys j poly polys_is inside poly_is =
    poly_is ∙ ap (λ ps. get_or ps j poly) polys_is ∙ get_or-map bit_words key j [] poly inside

pub poly_length : (n : ℕ) (key : List (List Bool)) (polys : List (List ℕ)) (j : ℕ) (poly : List ℕ) → polys ≡ map bit_words key → j < length key → poly ≡ get_or polys j poly → All (λ bits. length bits ≡ n) key → length poly ≡ n
poly_length n key polys j poly polys_is inside poly_is bits =
    ap length (poly_is_bits key polys j poly polys_is inside poly_is) ∙ length-map (get_or key j []) _ ∙ bits j [] inside

-- one product more
pub product_added : (n : ℕ) (key : List (List Bool)) (mask : List (List ℕ)) (j : ℕ) (part poly before after : List ℕ) → length key ≤ length mask → j < length key → part ≡ get_or mask j part → poly ≡ bit_words (get_or key j []) → before ≡ sum_of_rows n (take j (mask_products key mask)) → after ≡ row_sum before (negacyclic_product part poly) → after ≡ sum_of_rows n (take (j + 1) (mask_products key mask))
product_added n key mask j part poly before after le inside part_is poly_is before_is after_is =
    let rows : List (List ℕ) = mask_products key mask in
    let there : j < length mask = omega (arith, le, inside) in
    let here : negacyclic_product part poly ≡ get_or rows j [] =
    both negacyclic_product part (get_or mask j []) poly (bit_words (get_or key j [])) (part_is ∙ get_or_default mask j part [] there) poly_is ∙ sym (get_or-mask_products key mask j le inside) in
    after_is ∙ both row_sum before (sum_of_rows n (take j rows)) _ (get_or rows j []) before_is here
    ∙ sym (sum-push n (take j rows) (get_or rows j []))
    ∙ ap (sum_of_rows n) (sym (take_more rows j [] (omega (arith, length-mask_products key mask le, inside))))

pub added_length : (n : ℕ) (part poly before after : List ℕ) → length before ≡ n → length part ≡ n → after ≡ row_sum before (negacyclic_product part poly) → length after ≡ n
added_length n part poly before after long also after_is =
    omega (arith, ap length after_is, length-map (zip before (negacyclic_product part poly)) (λ p. word_sum p.0 p.1), length-zip before (negacyclic_product part poly), length-product part poly, long, also)

pub all_added : (n : ℕ) (key : List (List Bool)) (mask : List (List ℕ)) (j : ℕ) (out : List ℕ) → length key ≤ length mask → length key ≤ j → out ≡ sum_of_rows n (take j (mask_products key mask)) → out ≡ mask_sum n key mask
unfolding mask_sum
all_added n key mask j out le done out_is = out_is ∙ ap (sum_of_rows n) (take_all j (mask_products key mask) (omega (arith, length-mask_products key mask le, done)))

-- ---- the phase

pub phase_made : (key : List (List Bool)) (parts : List (List ℕ)) (n k : ℕ) (body out : List ℕ) → length parts ≡ length key + 1 → length parts ≡ k + 1 → n ≡ degree_of parts → body ≡ get_or parts k [] → out ≡ row_difference body (mask_sum n key parts) → out ≡ glwe_phase key parts
unfolding glwe_phase
phase_made key parts n k body out fits k_is n_is body_is out_is =
    let same : k ≡ length key = omega (arith, fits, k_is) in
    out_is ∙ both row_difference body (body_of key parts) (mask_sum n key parts) (mask_sum (degree_of parts) key parts)
    (body_is ∙ ap (λ i. get_or parts i []) same) (ap (λ m. mask_sum m key parts) n_is)

-- ---- sealing

pub body_made : (sum message errors first second : List ℕ) → first ≡ row_sum sum message → second ≡ row_sum first errors → second ≡ row_sum (row_sum message errors) sum
body_made sum message errors first second first_is second_is =
    second_is ∙ ap (λ xs. row_sum xs errors) first_is ∙ sum_groups sum message errors ∙ sum_turns sum (row_sum message errors)

pub is_row_sum : (new old other : List ℕ) → length new ≡ length old → length other ≡ length old → ((k : ℕ) → k < length old → get_or new k 0 ≡ word_sum (get_or old k 0) (get_or other k 0)) → new ≡ row_sum old other
is_row_sum new old other kept long each =
    let whole : length (row_sum old other) ≡ length old = omega (arith, length-map (zip old other) (λ p. word_sum p.0 p.1), length-zip old other, long) in
    ext_get_or 0 new (row_sum old other) (kept ∙ sym whole)
    (λ k h. let inside : k < length old = omega (arith, kept, h) in
    each k inside ∙ sym (get_or-map (λ p. word_sum p.0 p.1) (zip old other) k (0, 0) 0 (omega (arith, length-zip old other, long, inside)) ∙ ap (λ (p : ℕ × ℕ). word_sum p.0 p.1) (get_or-zip old other k (0, 0) inside (omega (arith, long, inside)))))

pub length-row_sum : (n : ℕ) (xs ys : List ℕ) → length xs ≡ n → length ys ≡ n → length (row_sum xs ys) ≡ n
length-row_sum n xs ys p q = omega (arith, length-map (zip xs ys) (λ p. word_sum p.0 p.1), length-zip xs ys, p, q)

pub words-row_sum : (xs ys : List ℕ) → All IsWord (row_sum xs ys)
words-row_sum xs ys = All-map IsWord (λ p. word_sum p.0 p.1) (zip xs ys) (λ k d lt. omega arith)

-- a part of the same length in the place of another
pub set_lengths : (parts : List (List ℕ)) (i : ℕ) (part : List ℕ) → i < length parts → length part ≡ length (get_or parts i []) → lengths_of (set parts i part) ≡ lengths_of parts
set_lengths parts i part inside same =
    map-set length parts i part ∙ ap (set (lengths_of parts) i) (same ∙ sym (get_or-map length parts i [] 0 inside)) ∙ set-get_or (lengths_of parts) i 0

zip-take : (key : List (List Bool)) (parts : List (List ℕ)) → mask_products key (take (length key) parts) ≡ mask_products key parts
zip-take [] parts = refl
zip-take (b ∷ key) [] = refl
zip-take (b ∷ key) (part ∷ parts) = ap (λ rows. negacyclic_product part (bit_words b) ∷ rows) (zip-take key parts)

sum-take : (n : ℕ) (key : List (List Bool)) (parts : List (List ℕ)) → mask_sum n key (take (length key) parts) ≡ mask_sum n key parts
unfolding mask_sum
sum-take n key parts = ap (sum_of_rows n) (zip-take key parts)

pub parts_made : (n k : ℕ) (key : List (List Bool)) (parts front back : List (List ℕ)) (phase old body d : List ℕ) → FitsGlweKey n key parts → k ≡ length parts - 1 → front ≡ take k parts → back ≡ drop k parts → old ≡ get_or back 0 d → body ≡ row_sum phase (mask_sum (length old) key front) → length body ≡ length old → (front ++ set back 0 body ≡ sealed_glwe key parts phase) × (lengths_of (front ++ set back 0 body) ≡ lengths_of parts)
parts_made n k key parts front back phase old body d fits k_is front_is back_is old_is body_is body_long =
    let same : k ≡ length key = omega (arith, k_is, fits.number) in
    let inside : k < length parts = omega (arith, k_is, fits.number) in
    let front_long : length front ≡ k = ap length front_is ∙ length-take-le k parts (omega (arith, inside)) in
    let some : 0 < length back = omega (arith, ap length back_is, length-drop k parts, inside) in
    let here : old ≡ get_or parts k [] = old_is ∙ get_or_default back 0 d [] some ∙ ap (λ ps. get_or ps 0 []) back_is ∙ get_or-drop k parts 0 [] ∙ ap (λ i. get_or parts i []) (add-zero k) in
    let long : length old ≡ n = ap length here ∙ fits.lengths k [] inside in
    let degree : degree_of parts ≡ n = fits.lengths 0 [] (omega (arith, inside)) in
    let made : body ≡ row_sum phase (mask_sum (degree_of parts) key parts) =
    body_is ∙ ap (row_sum phase) (ap (λ m. mask_sum m key front) (long ∙ sym degree) ∙ ap (mask_sum (degree_of parts) key) (front_is ∙ ap (λ i. take i parts) same) ∙ sum-take (degree_of parts) key parts) in
    let zero_place : 0 ≡ k - k = omega arith in
    let whole : front ++ set back 0 body ≡ set parts k body =
    ap (λ i. front ++ set back i body) zero_place ∙ sym (set-append_right front back k k body front_long (omega arith)) ∙ ap (λ ps. set ps k body) (both (λ (xs ys : List (List ℕ)). xs ++ ys) front (take k parts) back (drop k parts) front_is back_is ∙ take-append-drop k parts) in
    (whole ∙ both (set parts) k (length key) body _ same made, ap lengths_of whole ∙ set_lengths parts k body inside (body_long ∙ ap length here))

-- ---- trivial ciphertexts

zero_plus : (xs : List ℕ) → AllByRecursion IsWord xs → row_sum (replicate (length xs) 0) xs ≡ xs
zero_plus [] are = refl
zero_plus (x ∷ xs) are = both (λ (w : ℕ) (ws : List ℕ). w ∷ ws) (word_sum 0 x) x _ xs (let is : x < 2 ^ 64 = are.0 in omega (arith, is)) (zero_plus xs are.1)

zeros_are : (n : ℕ) (parts : List (List ℕ)) → AllByRecursion (λ part. length part ≡ n) parts → map (λ part. replicate {A = ℕ} (length part) 0) parts ≡ replicate (length parts) (replicate {A = ℕ} n 0)
zeros_are n [] are = refl
zeros_are n (part ∷ parts) are =
    let zeros : ℕ → List ℕ = λ m. replicate m 0 in
    both (λ (p : List ℕ) (ps : List (List ℕ)). p ∷ ps) (zeros (length part)) (zeros n) (map (λ p. zeros (length p)) parts) (replicate (length parts) (zeros n)) (ap zeros are.0) (zeros_are n parts are.1)

pub trivial_made : (parts cleared : List (List ℕ)) (body old new d : List ℕ) → 0 < length parts → AllOfLength (length body) parts → All IsWord body → cleared ≡ map (λ part. replicate (length part) 0) parts → old ≡ get_or cleared (length cleared - 1) d → new ≡ row_sum old body → ◌≡◌ {A = List ℕ} (length new ∷ []) (length old ∷ []) → (set cleared (length cleared - 1) new ≡ trivial_glwe (length parts - 1) body) × (lengths_of (set cleared (length cleared - 1) new) ≡ lengths_of cleared)
trivial_made parts cleared body old new d some lengths words cleared_is old_is new_is shape =
    let n : ℕ = length body in
    let k : ℕ = length parts - 1 in
    let zeros : List ℕ = replicate n 0 in
    let filled : cleared ≡ replicate (length parts) zeros = cleared_is ∙ zeros_are n parts (recursion_from_All (λ part. length part ≡ n) parts lengths) in
    let number : length cleared ≡ length parts = ap length filled ∙ length-replicate {A = List ℕ} (length parts) zeros in
    let last : length cleared - 1 ≡ k = omega (arith, number) in
    let inside : length cleared - 1 < length cleared = omega (arith, number, some) in
    let was : old ≡ zeros = old_is ∙ ap (λ ps. get_or ps (length cleared - 1) d) filled ∙ get_or-replicate (length parts) (length cleared - 1) zeros d (omega (arith, number, some)) in
    let now : new ≡ body = new_is ∙ ap (λ z. row_sum z body) was ∙ zero_plus body (recursion_from_All IsWord body words) in
    let one_more : length parts ≡ k + 1 = omega (arith, some) in
    let spread : cleared ≡ replicate k zeros ++ zeros ∷ [] = filled ∙ ap (λ m. replicate m zeros) one_more ∙ sym (replicate_more k zeros) in (
      both (λ (ps : List (List ℕ)) (i : ℕ). set ps i new) cleared (replicate k zeros ++ zeros ∷ []) (length cleared - 1) (length (replicate k zeros)) spread (last ∙ sym (length-replicate {A = List ℕ} k zeros))
          ∙ set-append_seam (replicate k zeros) zeros [] new ∙ ap (λ b. replicate k zeros ++ b ∷ []) now,
      set_lengths cleared (length cleared - 1) new inside ((let e : length new ≡ length old = cc in e) ∙ ap length (old_is ∙ get_or_default cleared (length cleared - 1) d [] inside)),
    )
