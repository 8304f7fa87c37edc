-- The rows of a weighted sum, one term more.
use Rattle.std.proofs.Common.{⊎_elim, ◌≡◌, ℕ, ◌+◌, ◌*◌, ◌%◌, ◌^◌, ◌<◌, min, List, [], ◌∷◌, ◌++◌, length, get_or, take, map, Some, arith, ap, sym, ◌∙◌, refl, zero-add, add-zero, add_assoc, add_comm}
use Rattle.std.proofs.Math.Nat.{mod-add-mod}
use Rattle.std.specs.List.{slice_get, All, zip, sum_by, enumerate_from}
use Rattle.std.proofs.lemmas.List.{length-map, get_or-map, same_lists, get_or_default, take_more, length-take-le}
use Rattle.std.proofs.lemmas.List.FromFn.{length-enumerate_from, get_or-enumerate_from}
use Rattle.std.proofs.lemmas.List.Sums.{sum_by_push}
use Rattle.std.proofs.lemmas.Slice.Zip.{length-zip, get_or-zip}
use Rattle.std.specs.Option.{IfSome}
use Rattle.std.proofs.lemmas.Option.{slice_get_read, slice_get_cases}
use Rattle.word_ring.specs.Words.{IsWord, word_sum}
use Rattle.word_ring.specs.Rows.{rows_at, zip_words, weighted_sum, combined, sum_with_scaled, RowLaws}
use Rattle.std.proofs.lemmas.List.Sums.{sum_by-cons}

-- an operation on two rows has as many words as the shorter
pub length-zip_words : (f : ℕ → ℕ → ℕ) (xs ys : List ℕ) → length (zip_words f xs ys) ≡ min (length xs) (length ys)
length-zip_words f xs ys = length-map (zip xs ys) (λ p. f p.0 p.1) ∙ length-zip xs ys

-- and goes place by place
pub get_or-zip_words : (f : ℕ → ℕ → ℕ) (xs ys : List ℕ) (i d : ℕ) → i < length xs → i < length ys → get_or (zip_words f xs ys) i d ≡ f (get_or xs i d) (get_or ys i d)
get_or-zip_words f xs ys i d p q =
    let in_zip : i < length (zip xs ys) = omega (arith, length-zip xs ys) in
    get_or-map (λ p. f p.0 p.1) (zip xs ys) i (d, d) d in_zip ∙ ap (λ (p : ℕ × ℕ). f p.0 p.1) (get_or-zip xs ys i (d, d) p q)

-- a weighted sum keeps the number of words
pub length-combined : (into weights : List ℕ) (rows : List (List ℕ)) → length (combined into weights rows) ≡ length into
length-combined into weights rows = length-map (enumerate_from 0 into) _ ∙ length-enumerate_from 0 into

-- a word of a weighted sum
pub get_or-combined : (into weights : List ℕ) (rows : List (List ℕ)) (i d : ℕ) → i < length into → get_or (combined into weights rows) i d ≡ (get_or into i d + weighted_sum weights rows i) % 2 ^ 64
get_or-combined into weights rows i d p =
    let in_list : i < length (enumerate_from 0 into) = omega (arith, length-enumerate_from 0 into) in
    let word : ℕ × ℕ → ℕ = λ q. (q.1 + weighted_sum weights rows q.0) % 2 ^ 64 in
    get_or-map word (enumerate_from 0 into) i (0, d) d in_list ∙ ap word (get_or-enumerate_from 0 into i (0, d) p) ∙ ap (λ j. word (j, get_or into i d)) (zero-add i)

-- two lists of pairs end to end
zip_push : {X Y : Type 0} → (xs : List X) (ys : List Y) (x : X) (y : Y) → length xs ≡ length ys → zip (xs ++ x ∷ []) (ys ++ y ∷ []) ≡ zip xs ys ++ (x, y) ∷ []
zip_push [] [] x y e = refl
zip_push [] (b ∷ bs) x y e = absurd (omega arith)
zip_push (a ∷ as') [] x y e = absurd (omega arith)
zip_push (a ∷ as') (b ∷ bs) x y e = ap (λ t. (a, b) ∷ t) (zip_push as' bs x y (omega arith))

-- one term more
weighted_sum-more : (weights : List ℕ) (rows : List (List ℕ)) (k i : ℕ) → k < length weights → k < length rows → weighted_sum (take (k + 1) weights) (take (k + 1) rows) i ≡ weighted_sum (take k weights) (take k rows) i + get_or weights k 0 * get_or (get_or rows k []) i 0
weighted_sum-more weights rows k i p q =
    let term : ℕ × List ℕ → ℕ = λ t. t.0 * get_or t.1 i 0 in
    let pairs : zip (take (k + 1) weights) (take (k + 1) rows) ≡ zip (take k weights) (take k rows) ++ (get_or weights k 0, get_or rows k []) ∷ [] =
    rw (take_more weights k 0 p, take_more rows k [] q) (zip_push (take k weights) (take k rows) (get_or weights k 0) (get_or rows k []) (omega (arith, length-take-le k weights, length-take-le k rows))) in
    ap (sum_by term) pairs ∙ sum_by_push term (zip (take k weights) (take k rows)) (get_or weights k 0, get_or rows k [])

mod_small : (n : ℕ) → n < 2 ^ 64 → n % 2 ^ 64 ≡ n
mod_small n h = omega arith

-- a term added to what is left of a sum
step_mod : (a s w y z t : ℕ) → t ≡ s + w * y → y ≡ z → (a + t) % 2 ^ 64 ≡ word_sum ((a + s) % 2 ^ 64) (w * z)
step_mod a s w y z t e f = rw (e, f) (ap (λ n. n % 2 ^ 64) (sym (add_assoc a s (w * z))) ∙ sym (mod-add-mod (a + s) (2 ^ 64) (w * z)))

-- with no term a row of words stays
pub combined_none : (into : List ℕ) → All IsWord into → combined into [] [] ≡ into
combined_none into fit =
    same_lists (combined into [] []) into (length-combined into [] [])
    (λ k d h. let in_row : k < length into = omega (arith, length-combined into [] []) in
    get_or-combined into [] [] k d in_row ∙ ap (λ n. n % 2 ^ 64) (add-zero (get_or into k d)) ∙ mod_small (get_or into k d) (fit k d in_row))

-- one term more is a sum with a scaled row
pub combined-more : (into weights : List ℕ) (rows : List (List ℕ)) (k : ℕ) → k < length weights → k < length rows → length (get_or rows k []) ≡ length into → combined into (take (k + 1) weights) (take (k + 1) rows) ≡ sum_with_scaled (combined into (take k weights) (take k rows)) (get_or weights k 0) (get_or rows k [])
combined-more into weights rows k p q e =
    let w : ℕ = get_or weights k 0 in
    let row : List ℕ = get_or rows k [] in
    let before : List ℕ = combined into (take k weights) (take k rows) in
    let long : length before ≡ length into = length-combined into (take k weights) (take k rows) in
    let whole : length (combined into (take (k + 1) weights) (take (k + 1) rows)) ≡ length into = length-combined into (take (k + 1) weights) (take (k + 1) rows) in
    let other : length (sum_with_scaled before w row) ≡ min (length before) (length row) = length-zip_words (λ x y. word_sum x (w * y)) before row in
    same_lists _ _ (omega arith)
    (λ i d h. let here : i < length into = omega arith in
    get_or-combined into (take (k + 1) weights) (take (k + 1) rows) i d here
    ∙ step_mod (get_or into i d) (weighted_sum (take k weights) (take k rows) i) w (get_or row i 0) (get_or row i d) _ (weighted_sum-more weights rows k i p q) (get_or_default row i 0 d (omega arith))
    ∙ ap (λ n. word_sum n (w * get_or row i d)) (sym (get_or-combined into (take k weights) (take k rows) i d here))
    ∙ sym (get_or-zip_words (λ x y. word_sum x (w * y)) before row i d (omega arith) (omega arith)))

-- what is asked of a named value holds of the value that is read there
pub named_value : {T : Type 0} (P : T → Type 0) (values : List T) (i : ℕ) (value : T) → i < length values → value ≡ get_or values i value → IfSome (slice_get values i) P → P value
named_value P values i value inside read holds =
    let found : slice_get values i ≡ Some value = slice_get_read values (length values) i value refl inside read in
    rw found at holds

-- the row of the value that is read at place k of the places
pub get_or-rows_at : {T : Type 0} (words : T → List ℕ) (values : List T) (places : List ℕ) (k : ℕ) (value : T) → k < length places → get_or places k 0 < length values → value ≡ get_or values (get_or places k 0) value → get_or (rows_at words values places) k [] ≡ words value
get_or-rows_at words values places k value p inside read =
    get_or-map (λ place. get_or (map words values) place []) places k 0 [] p
    ∙ get_or-map words values (get_or places k 0) value [] inside
    ∙ ap words (sym read)

-- a loop that has added k terms adds one more
pub combined_step : (into weights : List ℕ) (rows : List (List ℕ)) (k n weight : ℕ) (row before after : List ℕ) → k < length weights → k < length rows → n ≡ k + 1 → weight ≡ get_or weights k 0 → get_or rows k [] ≡ row → length row ≡ length into → before ≡ combined into (take k weights) (take k rows) → after ≡ sum_with_scaled before weight row → after ≡ combined into (take n weights) (take n rows)
combined_step into weights rows k n weight row before after p q n_is weight_is row_is long before_is after_is =
    after_is ∙ rw (before_is, weight_is, ← row_is, n_is) (sym (combined-more into weights rows k p q (ap length row_is ∙ long)))

-- what holds of every value holds of the value at a place, if there is one
named_from_all : {T : Type 0} (P : T → Type 0) (values : List T) (i : ℕ) → All P values → IfSome (slice_get values i) P
named_from_all P values i each =
    ⊎_elim
    (λ found. let is_some = found.2 in let holds = each i found.0 found.1 in rw is_some (rw found.3 at holds))
    (λ past. let is_none = past.1 in rw is_none tt)
    (slice_get_cases values i).1

-- and so of each named value, as `combine` asks where all its values have one shape
pub All-named : {T : Type 0} (P : T → Type 0) (values : List T) (places : List ℕ) → All P values → All (λ place. IfSome (slice_get values place) P) places
All-named P values places each = λ k d h. named_from_all P values (get_or places k d) each

-- a first term is added to the sum of the others
first_mod : (a s w y z t : ℕ) → t ≡ w * y + s → y ≡ z → (a + t) % 2 ^ 64 ≡ word_sum ((a + s) % 2 ^ 64) (w * z)
first_mod a s w y z t e f = step_mod a s w y z t (e ∙ add_comm (w * y) s) f

pub combined-first : (into weights : List ℕ) (rows : List (List ℕ)) (weight : ℕ) (row : List ℕ) → length row ≡ length into → combined into (weight ∷ weights) (row ∷ rows) ≡ sum_with_scaled (combined into weights rows) weight row
combined-first into weights rows weight row e =
    let before : List ℕ = combined into weights rows in
    let long : length before ≡ length into = length-combined into weights rows in
    let whole : length (combined into (weight ∷ weights) (row ∷ rows)) ≡ length into = length-combined into (weight ∷ weights) (row ∷ rows) in
    let other : length (sum_with_scaled before weight row) ≡ min (length before) (length row) = length-zip_words (λ x y. word_sum x (weight * y)) before row in
    same_lists _ _ (omega arith)
    (λ i d h. let here : i < length into = omega arith in
    get_or-combined into (weight ∷ weights) (row ∷ rows) i d here
    ∙ first_mod (get_or into i d) (weighted_sum weights rows i) weight (get_or row i 0) (get_or row i d) _ (sum_by-cons (λ p. p.0 * get_or p.1 i 0) (weight, row) (zip weights rows)) (get_or_default row i 0 d (omega arith))
    ∙ ap (λ n. word_sum n (weight * get_or row i d)) (sym (get_or-combined into weights rows i d here))
    ∙ sym (get_or-zip_words (λ x y. word_sum x (weight * y)) before row i d (omega arith) (omega arith)))

pub laws : RowLaws
laws = record {
  zip_length = length-zip_words;
  zip_word = λ f xs ys i p q. get_or-zip_words f xs ys i 0 p q;
  combined_length = length-combined;
  combined_none = combined_none;
  combined_first = combined-first;
}
