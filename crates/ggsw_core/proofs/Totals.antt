-- Sums of rows that are made of numbers from a first one on.
use Rattle.std.proofs.Common.{◌≡◌, ℕ, zero, suc, ◌+◌, ◌<◌, List, [], ◌∷◌, ◌++◌, map, length, replicate, arith, ap, sym, refl, ◌∙◌, ◌*◌, subst}
use Rattle.std.specs.List.{All, flat_map, range_with_len}
use Rattle.std.proofs.lemmas.List.{ext_get_or, map-append, length-replicate}
use Rattle.std.proofs.lemmas.List.FromFn.{length-map-range_with_len, get_or-map-range_with_len}
use Rattle.std.proofs.lemmas.List.Elements.{All-append, All-head, All-tail, All-from_get_or, All-nil, All-replicate}
use Rattle.std.proofs.lemmas.Simd.{map-map}
use Rattle.word_ring.specs.Words.{IsWord}
use Rattle.word_ring.specs.Rows.{row_sum, scaled_row, sum_of_rows, scaled_rows, IsAdditive, AllOfLength, RowWithin}
use Rattle.word_ring.specs.RowLaws.{RowRingLaws, RowTotalLaws}

-- the sum of f at the m numbers from a on, in rows of n words
abbrev pub total : ℕ → (ℕ → List ℕ) → ℕ → ℕ → List ℕ
total n f a m = sum_of_rows n (map f (range_with_len a m))

pub same_range : {X : Type 0} (d : X) (f g : ℕ → X) (a b m : ℕ) → ((i : ℕ) → i < m → f (a + i) ≡ g (b + i)) → map f (range_with_len a m) ≡ map g (range_with_len b m)
same_range d f g a b m each =
    ext_get_or d (map f (range_with_len a m)) (map g (range_with_len b m)) (length-map-range_with_len f a m ∙ sym (length-map-range_with_len g b m))
    (λ i h.
    let inside : i < m = omega (arith, length-map-range_with_len f a m) in
    get_or-map-range_with_len f a m i (a + i) d inside refl ∙ each i inside ∙ sym (get_or-map-range_with_len g b m i (b + i) d inside refl))

-- equal terms
pub total-same : (n a m : ℕ) (f g : ℕ → List ℕ) → ((i : ℕ) → i < m → f (a + i) ≡ g (a + i)) → total n f a m ≡ total n g a m
total-same n a m f g each = ap (sum_of_rows n) (same_range [] f g a a m each)

-- the numbers one up
pub total-shifted : (n m : ℕ) (f : ℕ → List ℕ) → total n f 1 m ≡ total n (λ i. f (suc i)) 0 m
total-shifted n m f = ap (sum_of_rows n) (same_range [] f (λ i. f (suc i)) 1 0 m (λ i h. ap f (omega arith)))

zeros_are_words : (n : ℕ) → All IsWord (replicate n 0)
zeros_are_words n = All-replicate IsWord n 0 (omega arith)

zeros_sum : RowRingLaws → (n : ℕ) → row_sum (replicate n 0) (replicate n 0) ≡ replicate n 0
zeros_sum ring n =
    ap (λ m. row_sum (replicate n 0) (replicate m 0)) (sym (length-replicate n 0)) ∙ ring.sum_zero (replicate n 0) (zeros_are_words n)

-- terms that are sums
pub total-sum : RowRingLaws → (n m a : ℕ) (f g : ℕ → List ℕ) → total n (λ i. row_sum (f i) (g i)) a m ≡ row_sum (total n f a m) (total n g a m)
total-sum ring n zero a f g = sym (zeros_sum ring n)
total-sum ring n (suc m) a f g =
    ap (row_sum (row_sum (f a) (g a))) (total-sum ring n m (a + 1) f g)
    ∙ ring.sums_of_sums (f a) (g a) (total n f (a + 1) m) (total n g (a + 1) m)

-- the terms have one length
pub lengths_of_terms : (n a m : ℕ) (f : ℕ → List ℕ) → ((i : ℕ) → i < m → length (f (a + i)) ≡ n) → AllOfLength n (map f (range_with_len a m))
lengths_of_terms n a m f each =
    All-from_get_or (λ row. length row ≡ n) (map f (range_with_len a m)) []
    (λ i h.
    let inside : i < m = omega (arith, length-map-range_with_len f a m) in
    ap length (get_or-map-range_with_len f a m i (a + i) [] inside refl) ∙ each i inside)

-- a factor goes out
pub total-scaled : RowTotalLaws → (n factor a m : ℕ) (f : ℕ → List ℕ) → total n (λ i. scaled_row factor (f i)) a m ≡ scaled_row factor (total n f a m)
total-scaled totals n factor a m f =
    ap (sum_of_rows n) (sym (map-map (scaled_row factor) f (range_with_len a m))) ∙ sym (totals.total_scaled n factor (map f (range_with_len a m)))

-- and so does what keeps sums
pub total-mapped : RowTotalLaws → (n a m : ℕ) (h : List ℕ → List ℕ) (f : ℕ → List ℕ) → IsAdditive n n h → ((i : ℕ) → i < m → length (f (a + i)) ≡ n) → total n (λ i. h (f i)) a m ≡ h (total n f a m)
total-mapped totals n a m h f additive each =
    ap (sum_of_rows n) (sym (map-map h f (range_with_len a m)))
    ∙ sym (totals.total_mapped n n h (map f (range_with_len a m)) (lengths_of_terms n a m f each) additive)

-- no word is larger than the number of terms times the bound
pub total-within : RowTotalLaws → (n bound a m : ℕ) (f : ℕ → List ℕ) → ((i : ℕ) → i < m → RowWithin bound (f (a + i))) → RowWithin (m * bound) (total n f a m)
total-within totals n bound a m f each =
    let terms : List (List ℕ) = map f (range_with_len a m) in
    let long : length terms ≡ m = length-map-range_with_len f a m in
    let fit : All (RowWithin bound) terms =
    All-from_get_or (RowWithin bound) terms []
    (λ i h.
    let inside : i < m = omega arith in
    subst (RowWithin bound) (sym (get_or-map-range_with_len f a m i (a + i) [] inside refl)) (each i inside)) in
    subst (λ k. RowWithin (k * bound) (sum_of_rows n terms)) long (totals.total_within n bound terms fit)

-- a sum is as long as its terms
pub length-total : RowTotalLaws → (n a m : ℕ) (f : ℕ → List ℕ) → ((i : ℕ) → i < m → length (f (a + i)) ≡ n) → length (total n f a m) ≡ n
length-total totals n a m f each = totals.total_length n (map f (range_with_len a m)) (lengths_of_terms n a m f each)

-- lists of rows end to end
flat_lengths : (n : ℕ) (parts : ℕ → List (List ℕ)) (xs : List ℕ) → All (λ x. AllOfLength n (parts x)) xs → AllOfLength n (flat_map parts xs)
flat_lengths n parts [] fit = All-nil (λ row. length row ≡ n)
flat_lengths n parts (x ∷ xs) fit =
    All-append (λ row. length row ≡ n) (parts x) (flat_map parts xs) (All-head (λ x. AllOfLength n (parts x)) x xs fit)
    (flat_lengths n parts xs (All-tail (λ x. AllOfLength n (parts x)) x xs fit))

-- their sum is the sum of their sums
pub total-flat : RowTotalLaws → (n : ℕ) (parts : ℕ → List (List ℕ)) (xs : List ℕ) → All (λ x. AllOfLength n (parts x)) xs → sum_of_rows n (flat_map parts xs) ≡ sum_of_rows n (map (λ x. sum_of_rows n (parts x)) xs)
total-flat totals n parts [] fit = refl
total-flat totals n parts (x ∷ xs) fit =
    let rest = All-tail (λ x. AllOfLength n (parts x)) x xs fit in
    totals.total_append n (parts x) (flat_map parts xs) (flat_lengths n parts xs rest)
    ∙ ap (row_sum (sum_of_rows n (parts x))) (total-flat totals n parts xs rest)

-- a function of each term of a double list
pub map-products : {X Y : Type 0} (h : X → Y) (f : ℕ → ℕ → X) (places xs : List ℕ) → map h (flat_map (λ x. map (f x) places) xs) ≡ flat_map (λ x. map (λ t. h (f x t)) places) xs
map-products h f places [] = refl
map-products h f places (x ∷ xs) =
    map-append h (map (f x) places) (flat_map (λ x. map (f x) places) xs)
    ∙ ap (λ t. t ++ map h (flat_map (λ x. map (f x) places) xs)) (map-map h (f x) places)
    ∙ ap (λ t. map (λ t. h (f x t)) places ++ t) (map-products h f places xs)

-- scaled rows, both lists made of the same numbers
pub scaled-same : (w : ℕ → ℕ) (f : ℕ → List ℕ) (xs : List ℕ) → scaled_rows (map w xs) (map f xs) ≡ map (λ x. scaled_row (w x) (f x)) xs
scaled-same w f [] = refl
scaled-same w f (x ∷ xs) = ap (λ t. scaled_row (w x) (f x) ∷ t) (scaled-same w f xs)
