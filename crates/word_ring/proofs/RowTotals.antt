-- The sizes of the words of rows, and sums of many rows.
use Rattle.std.proofs.Common.{◌≡◌, ℕ, zero, suc, ◌+◌, ◌*◌, ◌%◌, ◌^◌, ◌<◌, ◌≤◌, List, [], ◌∷◌, ◌++◌, length, get_or, take, map, replicate, arith, ap, sym, subst, ◌∙◌, refl}
use Rattle.std.proofs.Math.Nat.{add-mul, mul-le-mul_left}
use Rattle.std.specs.List.{All, zip, sum_by, enumerate_from}
use Rattle.std.proofs.lemmas.Nat.{mul-le}
use Rattle.std.proofs.lemmas.List.{length-map, map-append, take_more, length-take-le, length-replicate, get_or-replicate, same_lists}
use Rattle.std.proofs.lemmas.List.Elements.{All-nil, All-cons, All-head, All-tail, All-replicate, All-map, All-weaker}
use Rattle.std.proofs.lemmas.List.Sums.{sum_by-cons, sum_by-le, sum_by-append}
use Rattle.word_ring.specs.Words.{IsWord, word_sum, word_difference, word_product, size}
use Rattle.word_ring.specs.Rows.{zip_words, row_sum, scaled_row, scaled_rows, weighted_sum, combined, sum_of_rows, zip_rows, AllOfLength, RowWithin, IsAdditive}
use Rattle.word_ring.specs.RowLaws.{RowSizeLaws, RowTotalLaws, CombinedLaws}
use Rattle.word_ring.proofs.WordLaws.{sizes}
use Rattle.word_ring.proofs.RowLaws.{length-zip_words, get_or-zip_words, length-combined, get_or-combined, combined-first}
use Rattle.word_ring.proofs.RowRing.{row_ring, zip_words-all, zip_words-each, map-all, word_below}

-- ---- sizes

residue_size : (w : ℕ) → size (w % 2 ^ 64) ≡ size w
residue_size w = omega arith

sum_size : (bound more x y : ℕ) → size x ≤ bound → size y ≤ more → size (word_sum x y) ≤ bound + more
sum_size bound more x y p q = omega (arith, sizes.size_sum x y)

difference_size : (bound more x y : ℕ) → size x ≤ bound → size y ≤ more → size (word_difference x y) ≤ bound + more
difference_size bound more x y p q = omega (arith, sizes.size_difference x y)

product_size : (factor bound x : ℕ) → size x ≤ bound → size (word_product factor x) ≤ size factor * bound
product_size factor bound x p =
    let product = sizes.size_product factor x in
    let most : size factor * size x ≤ size factor * bound = mul-le-mul_left (size factor) p in
    omega arith

-- the size of a product that is not reduced
whole_product : (a b : ℕ) → size (a * b) ≤ size a * size b
whole_product a b = subst (λ s. s ≤ size a * size b) (residue_size (a * b)) (sizes.size_product a b)

-- and of a sum
whole_sum : (a b : ℕ) → size (a + b) ≤ size a + size b
whole_sum a b = subst (λ s. s ≤ size a + size b) (residue_size (a + b)) (sizes.size_sum a b)

term_size : (most bound w x s n : ℕ) → size w ≤ most → size x ≤ bound → size s ≤ n * (most * bound) → size (w * x + s) ≤ (n + 1) * (most * bound)
term_size most bound w x s n p q r =
    let product = whole_product w x in
    let small : size w * size x ≤ most * bound = mul-le (size w) (size x) most bound p q in
    let sum = whole_sum (w * x) s in
    let more : (n + 1) * (most * bound) ≡ n * (most * bound) + 1 * (most * bound) = add-mul n 1 (most * bound) in
    omega arith

weighted_size : (most bound : ℕ) (weights words : List ℕ) → RowWithin most weights → RowWithin bound words → size (sum_by (λ p. p.0 * p.1) (zip weights words)) ≤ length weights * (most * bound)
weighted_size most bound [] words p q = omega arith
weighted_size most bound (w ∷ weights) [] p q = omega arith
weighted_size most bound (w ∷ weights) (x ∷ words) p q =
    let rest = weighted_size most bound weights words (All-tail (λ v. size v ≤ most) w weights p) (All-tail (λ v. size v ≤ bound) x words q) in
    let whole = sum_by-cons (λ (t : ℕ × ℕ). t.0 * t.1) (w, x) (zip weights words) in
    let term = term_size most bound w x (sum_by (λ t. t.0 * t.1) (zip weights words)) (length weights) (All-head (λ v. size v ≤ most) w weights p) (All-head (λ v. size v ≤ bound) x words q) rest in
    subst (λ s. size s ≤ length (w ∷ weights) * (most * bound)) (sym whole) (subst (λ n. size (w * x + sum_by (λ t. t.0 * t.1) (zip weights words)) ≤ n * (most * bound)) (omega arith) term)

pub row_sizes : RowSizeLaws
row_sizes = record {
  residue_size = residue_size;
  sum_within = λ bound more xs ys p q. zip_words-each (λ w. size w ≤ bound) (λ w. size w ≤ more) (λ w. size w ≤ bound + more) word_sum xs ys (sum_size bound more) p q;
  difference_within = λ bound more xs ys p q. zip_words-each (λ w. size w ≤ bound) (λ w. size w ≤ more) (λ w. size w ≤ bound + more) word_difference xs ys (difference_size bound more) p q;
  scaled_within = λ factor bound xs p. All-map (λ w. size w ≤ size factor * bound) (word_product factor) xs (All-weaker (λ w. size w ≤ bound) (λ w. size (word_product factor w) ≤ size factor * bound) (product_size factor bound) xs p);
  weighted_size = weighted_size;
  total_size = λ bound xs p. sum_by-le size bound xs p;
}

-- ---- sums of many rows

pub total_length : (len : ℕ) (rows : List (List ℕ)) → AllOfLength len rows → length (sum_of_rows len rows) ≡ len
total_length len [] long = length-replicate len 0
total_length len (row ∷ rows) long =
    let rest = total_length len rows (All-tail (λ r. length r ≡ len) row rows long) in
    let first : length row ≡ len = All-head (λ r. length r ≡ len) row rows long in
    omega (arith, length-zip_words word_sum row (sum_of_rows len rows))

pub total_words : (len : ℕ) (rows : List (List ℕ)) → All IsWord (sum_of_rows len rows)
total_words len [] = All-replicate IsWord len 0 (omega arith)
total_words len (row ∷ rows) = zip_words-all IsWord word_sum row (sum_of_rows len rows) (λ x y. word_below (x + y))

total_word : (len : ℕ) (rows : List (List ℕ)) (i : ℕ) → AllOfLength len rows → i < len → get_or (sum_of_rows len rows) i 0 ≡ sum_by (λ row. get_or row i 0) rows % 2 ^ 64
total_word len [] i long inside = get_or-replicate len i 0 0 inside
total_word len (row ∷ rows) i long inside =
    let others = All-tail (λ r. length r ≡ len) row rows long in
    let first : length row ≡ len = All-head (λ r. length r ≡ len) row rows long in
    let rest = total_word len rows i others inside in
    let long_rest = total_length len rows others in
    let here = get_or-zip_words word_sum row (sum_of_rows len rows) i 0 (omega arith) (omega arith) in
    let whole = sum_by-cons (λ (r : List ℕ). get_or r i 0) row rows in
    omega arith

-- 0 before a sum
zero_sum : (len : ℕ) (xs : List ℕ) → length xs ≡ len → All IsWord xs → row_sum (replicate len 0) xs ≡ xs
zero_sum len xs long fit =
    row_ring.sum_commutative (replicate len 0) xs
    ∙ ap (λ n. row_sum xs (replicate n 0)) (sym long)
    ∙ row_ring.sum_zero xs fit

total_one : (len : ℕ) (row : List ℕ) → length row ≡ len → All IsWord row → sum_of_rows len (row ∷ []) ≡ row
total_one len row long fit = ap (λ n. row_sum row (replicate n 0)) (sym long) ∙ row_ring.sum_zero row fit

total_append : (len : ℕ) (rows others : List (List ℕ)) → AllOfLength len others → sum_of_rows len (rows ++ others) ≡ row_sum (sum_of_rows len rows) (sum_of_rows len others)
total_append len [] others long = sym (zero_sum len (sum_of_rows len others) (total_length len others long) (total_words len others))
total_append len (row ∷ rows) others long =
    ap (row_sum row) (total_append len rows others long) ∙ sym (row_ring.sum_associative row (sum_of_rows len rows) (sum_of_rows len others))

-- an operation on rows of zeros that gives 0
zeros : (f : ℕ → ℕ → ℕ) (len : ℕ) → f 0 0 ≡ 0 → zip_words f (replicate len 0) (replicate len 0) ≡ replicate len 0
zeros f zero none = refl
zeros f (suc len) none = ap (λ w. w ∷ zip_words f (replicate len 0) (replicate len 0)) none ∙ ap (λ ws. 0 ∷ ws) (zeros f len none)

-- a law on four rows makes one on two lists of rows
total_zip :
    (f : ℕ → ℕ → ℕ) → f 0 0 ≡ 0 → ((ws xs ys zs : List ℕ) → row_sum (zip_words f ws ys) (zip_words f xs zs) ≡ zip_words f (row_sum ws xs) (row_sum ys zs))
    → (len : ℕ) (rows others : List (List ℕ)) → length rows ≡ length others
    → sum_of_rows len (zip_rows (zip_words f) rows others) ≡ zip_words f (sum_of_rows len rows) (sum_of_rows len others)
total_zip f none crossed len [] [] long = sym (zeros f len none)
total_zip f none crossed len [] (other ∷ others) long = absurd (omega arith)
total_zip f none crossed len (row ∷ rows) [] long = absurd (omega arith)
total_zip f none crossed len (row ∷ rows) (other ∷ others) long =
    ap (row_sum (zip_words f row other)) (total_zip f none crossed len rows others (omega arith)) ∙ crossed row (sum_of_rows len rows) other (sum_of_rows len others)

map-replicate : (f : ℕ → ℕ) (len : ℕ) → f 0 ≡ 0 → map f (replicate len 0) ≡ replicate len 0
map-replicate f zero none = refl
map-replicate f (suc len) none = ap (λ w. w ∷ map f (replicate len 0)) none ∙ ap (λ ws. 0 ∷ ws) (map-replicate f len none)

total_scaled : (len factor : ℕ) (rows : List (List ℕ)) → scaled_row factor (sum_of_rows len rows) ≡ sum_of_rows len (map (scaled_row factor) rows)
total_scaled len factor [] = map-replicate (word_product factor) len (omega arith)
total_scaled len factor (row ∷ rows) = row_ring.scaled_sum factor row (sum_of_rows len rows) ∙ ap (row_sum (scaled_row factor row)) (total_scaled len factor rows)

total_mapped : (len other : ℕ) (f : List ℕ → List ℕ) (rows : List (List ℕ)) → AllOfLength len rows → IsAdditive len other f → f (sum_of_rows len rows) ≡ sum_of_rows other (map f rows)
total_mapped len other f [] long keeps = keeps.keeps_zero
total_mapped len other f (row ∷ rows) long keeps =
    let others = All-tail (λ r. length r ≡ len) row rows long in
    let first : length row ≡ len = All-head (λ r. length r ≡ len) row rows long in
    keeps.keeps_sums row (sum_of_rows len rows) first (total_length len rows others) ∙ ap (row_sum (f row)) (total_mapped len other f rows others keeps)

total_within : (len bound : ℕ) (rows : List (List ℕ)) → All (RowWithin bound) rows → RowWithin (length rows * bound) (sum_of_rows len rows)
total_within len bound [] within = All-replicate (λ w. size w ≤ 0 * bound) len 0 (omega arith)
total_within len bound (row ∷ rows) within =
    let rest = total_within len bound rows (All-tail (RowWithin bound) row rows within) in
    subst (λ most. RowWithin most (sum_of_rows len (row ∷ rows))) (omega arith)
    (row_sizes.sum_within bound (length rows * bound) row (sum_of_rows len rows) (All-head (RowWithin bound) row rows within) rest)

-- scaled rows are as long as the rows
scaled_lengths : (len : ℕ) (weights : List ℕ) (rows : List (List ℕ)) → AllOfLength len rows → AllOfLength len (scaled_rows weights rows)
scaled_lengths len [] rows long = All-nil (λ r. length r ≡ len)
scaled_lengths len (w ∷ weights) [] long = All-nil (λ r. length r ≡ len)
scaled_lengths len (w ∷ weights) (row ∷ rows) long =
    All-cons (λ r. length r ≡ len) (scaled_row w row) (scaled_rows weights rows)
    (length-map row (word_product w) ∙ All-head (λ r. length r ≡ len) row rows long)
    (scaled_lengths len weights rows (All-tail (λ r. length r ≡ len) row rows long))

-- two lists of pairs end to end
zip_append : {X Y : Type 0} → (xs us : List X) (ys vs : List Y) → length xs ≡ length ys → zip (xs ++ us) (ys ++ vs) ≡ zip xs ys ++ zip us vs
zip_append [] us [] vs long = refl
zip_append [] us (y ∷ ys) vs long = absurd (omega arith)
zip_append (x ∷ xs) us [] vs long = absurd (omega arith)
zip_append (x ∷ xs) us (y ∷ ys) vs long = ap (λ ps. (x, y) ∷ ps) (zip_append xs us ys vs (omega arith))

total_scaled_append :
    (len : ℕ) (weights others : List ℕ) (rows further : List (List ℕ)) → length weights ≡ length rows → AllOfLength len further
    → sum_of_rows len (scaled_rows (weights ++ others) (rows ++ further))
    ≡ row_sum (sum_of_rows len (scaled_rows weights rows)) (sum_of_rows len (scaled_rows others further))
total_scaled_append len weights others rows further long each =
    let parts : scaled_rows (weights ++ others) (rows ++ further) ≡ scaled_rows weights rows ++ scaled_rows others further =
    ap (map (λ p. scaled_row p.0 p.1)) (zip_append weights others rows further long) ∙ map-append (λ (p : ℕ × List ℕ). scaled_row p.0 p.1) (zip weights rows) (zip others further) in
    ap (sum_of_rows len) parts ∙ total_append len (scaled_rows weights rows) (scaled_rows others further) (scaled_lengths len others further each)

total_scaled_more :
    (len : ℕ) (weights : List ℕ) (rows : List (List ℕ)) (k : ℕ) → k < length weights → k < length rows → AllOfLength len rows
    → sum_of_rows len (scaled_rows (take (k + 1) weights) (take (k + 1) rows))
    ≡ row_sum (sum_of_rows len (scaled_rows (take k weights) (take k rows))) (scaled_row (get_or weights k 0) (get_or rows k []))
total_scaled_more len weights rows k p q each =
    let w : ℕ = get_or weights k 0 in
    let row : List ℕ = get_or rows k [] in
    let here : length row ≡ len = each k [] q in
    let scaled_long : length (scaled_row w row) ≡ len = length-map row (word_product w) ∙ here in
    let as_long : length (take k weights) ≡ length (take k rows) = omega (arith, length-take-le k weights, length-take-le k rows) in
    rw (take_more weights k 0 p, take_more rows k [] q)
    (total_scaled_append len (take k weights) (w ∷ []) (take k rows) (row ∷ []) as_long (All-cons (λ r. length r ≡ len) row [] here (All-nil (λ r. length r ≡ len)))
    ∙ ap (row_sum (sum_of_rows len (scaled_rows (take k weights) (take k rows)))) (total_one len (scaled_row w row) scaled_long (row_ring.scaled_are_words w row)))

pub row_totals : RowTotalLaws
row_totals = record {
  scaled_lengths = scaled_lengths;
  total_length = total_length;
  total_words = total_words;
  total_word = total_word;
  total_one = total_one;
  total_append = total_append;
  total_scaled_append = total_scaled_append;
  total_scaled_more = total_scaled_more;
  total_sums = total_zip word_sum refl (λ ws xs ys zs. sym (row_ring.sums_of_sums ws xs ys zs));
  total_differences = total_zip word_difference refl (λ ws xs ys zs. sym (row_ring.difference_of_sums ws xs ys zs));
  total_scaled = total_scaled;
  total_mapped = total_mapped;
  total_within = total_within;
}

-- ---- weighted sums

combined_append :
    (into weights others : List ℕ) (rows further : List (List ℕ)) → length weights ≡ length rows
    → combined into (weights ++ others) (rows ++ further) ≡ combined (combined into weights rows) others further
combined_append into weights others rows further long =
    let first = combined into weights rows in
    let whole_long = length-combined into (weights ++ others) (rows ++ further) in
    let first_long = length-combined into weights rows in
    let second_long = length-combined first others further in
    same_lists _ _ (omega arith)
    (λ k d h. let here : k < length into = omega arith in
    let there : k < length first = omega arith in
    let sum = ap (sum_by (λ (p : ℕ × List ℕ). p.0 * get_or p.1 k 0)) (zip_append weights others rows further long) ∙ sum_by-append (λ p. p.0 * get_or p.1 k 0) (zip weights rows) (zip others further) in
    let left = get_or-combined into (weights ++ others) (rows ++ further) k d here in
    let right = get_or-combined first others further k d there in
    let middle = get_or-combined into weights rows k d here in
    omega arith)

-- without a term it is the row with zeros added
combined_zeros : (into : List ℕ) → combined into [] [] ≡ row_sum into (replicate (length into) 0)
combined_zeros into =
    let left_long = length-combined into [] [] in
    let right_long = length-zip_words word_sum into (replicate (length into) 0) in
    let zeros_long = length-replicate {A = ℕ} (length into) 0 in
    same_lists _ _ (omega arith)
    (λ k d h. let here : k < length into = omega arith in
    get_or-combined into [] [] k d here
    ∙ ap (word_sum (get_or into k d)) (sym (get_or-replicate (length into) k 0 d here))
    ∙ sym (get_or-zip_words word_sum into (replicate (length into) 0) k d here (omega arith)))

combined_is :
    (into weights : List ℕ) (rows : List (List ℕ)) → AllOfLength (length into) rows
    → combined into weights rows ≡ row_sum into (sum_of_rows (length into) (scaled_rows weights rows))
combined_is into [] rows long = combined_zeros into
combined_is into (w ∷ weights) [] long = combined_zeros into
combined_is into (w ∷ weights) (row ∷ rows) long =
    let rest = sum_of_rows (length into) (scaled_rows weights rows) in
    combined-first into weights rows w row (All-head (λ r. length r ≡ length into) row rows long)
    ∙ row_ring.with_scaled_is (combined into weights rows) w row
    ∙ ap (λ r. row_sum r (scaled_row w row)) (combined_is into weights rows (All-tail (λ r. length r ≡ length into) row rows long))
    ∙ row_ring.sum_associative into rest (scaled_row w row)
    ∙ ap (row_sum into) (row_ring.sum_commutative rest (scaled_row w row))

-- from 0 it is the sum of the scaled rows
combined_from_zero : (len : ℕ) (weights : List ℕ) (rows : List (List ℕ)) → AllOfLength len rows → combined (replicate len 0) weights rows ≡ sum_of_rows len (scaled_rows weights rows)
combined_from_zero len weights rows long =
    let zeros_long = length-replicate {A = ℕ} len 0 in
    let scaled : AllOfLength len (scaled_rows weights rows) = scaled_lengths len weights rows long in
    combined_is (replicate len 0) weights rows (subst (λ n. AllOfLength n rows) (sym zeros_long) long)
    ∙ ap (λ n. row_sum (replicate len 0) (sum_of_rows n (scaled_rows weights rows))) zeros_long
    ∙ zero_sum len (sum_of_rows len (scaled_rows weights rows)) (total_length len (scaled_rows weights rows) scaled) (total_words len (scaled_rows weights rows))

pub weighted : CombinedLaws
weighted = record {
  combined_words = λ into weights rows. map-all IsWord _ (enumerate_from 0 into) (λ p. word_below (p.1 + weighted_sum weights rows p.0));
  combined_append = combined_append;
  combined_word = λ into weights rows i inside. get_or-combined into weights rows i 0 inside;
  combined_is = combined_is;
  combined_from_zero = combined_from_zero;
}
