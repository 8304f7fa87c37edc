-- What the loops of a switch have subtracted.
use Rattle.std.proofs.Common.{◌≡◌, ℕ, ◌+◌, ◌*◌, ◌^◌, ◌<◌, ◌≤◌, List, [], ◌∷◌, ◌++◌, length, get_or, take, drop, replicate, arith, ap, sym, ◌∙◌}
use Rattle.std.proofs.Math.Nat.{mul-le-mul_right}
use Rattle.std.specs.List.{All}
use Rattle.std.proofs.lemmas.List.{length-take-le, length-replicate, append-nil, take-append-drop, take-take, drop-take, take_more, set_at, replicate_more}
use Rattle.std.proofs.lemmas.List.Elements.{All-take, All-drop}
use Rattle.std.proofs.lemmas.Nat.{row_fits}
use Rattle.std.proofs.lemmas.Grind.{flat_map-append}
use Rattle.std.specs.Prelude.{slice_set}
use Rattle.word_ring.specs.Words.{word_negation}
use Rattle.word_ring.specs.Rows.{row_sum, row_difference, scaled_row, sum_with_scaled, sum_of_rows, scaled_rows, AllOfLength}
use Rattle.word_ring.specs.RowLaws.{RowRingLaws, RowTotalLaws}
use Rattle.lwe_core.specs.Phase.{trivial}
use Rattle.gadget_decomp.specs.Decomposition.{IsGadget, digits_as_words}
use Rattle.gadget_decomp.specs.Laws.{DigitLaws}
use Rattle.key_switch.specs.Switching.{mask_digits}
use Rattle.key_switch.proofs.Noise.{length-mask_digits}

-- a row with the negated factor added is the scaled row subtracted
with_negated : (ring : RowRingLaws) (before row : List ℕ) (factor : ℕ) → sum_with_scaled before (word_negation factor) row ≡ row_difference before (scaled_row factor row)
with_negated ring before row factor =
    ring.with_scaled_is before (word_negation factor) row
    ∙ ap (row_sum before) (ring.scaled_negation factor row)
    ∙ sym (ring.difference_is before (scaled_row factor row))

-- one more weighted row is subtracted
pub subtracted_more :
    (ring : RowRingLaws) (totals : RowTotalLaws) (start weights : List ℕ) (rows : List (List ℕ)) (k : ℕ) (before after row : List ℕ) (factor : ℕ)
    → k < length weights → k < length rows → AllOfLength (length start) rows
    → before ≡ row_difference start (sum_of_rows (length start) (scaled_rows (take k weights) (take k rows)))
    → factor ≡ word_negation (get_or weights k 0) → row ≡ get_or rows k [] → after ≡ sum_with_scaled before factor row
    → after ≡ row_difference start (sum_of_rows (length start) (scaled_rows (take (k + 1) weights) (take (k + 1) rows)))
subtracted_more ring totals start weights rows k before after row factor in_weights in_rows long before_is factor_is row_is after_is =
    let sum : List ℕ = sum_of_rows (length start) (scaled_rows (take k weights) (take k rows)) in
    let weight : ℕ = get_or weights k 0 in
    after_is
    ∙ ap (λ f. sum_with_scaled before f row) factor_is
    ∙ with_negated ring before row weight
    ∙ ap (λ b. row_difference b (scaled_row weight row)) before_is
    ∙ ring.difference_difference start sum (scaled_row weight row)
    ∙ ap (λ r. row_difference start (row_sum sum (scaled_row weight r))) row_is
    ∙ ap (row_difference start) (sym (totals.total_scaled_more (length start) weights rows k in_weights in_rows long))

-- with no row nothing is
pub subtracted_none : (ring : RowRingLaws) (start : List ℕ) → All (λ w. w < 2 ^ 64) start → start ≡ row_difference start (sum_of_rows (length start) [])
subtracted_none ring start fit = sym (ring.difference_zero start fit)

-- the first word of a one-dimensional shape
pub one_shape : (n m : ℕ) → n ≡ m → n ∷ [] ≡ m ∷ []
one_shape n m e = ap (λ k. k ∷ []) e

-- a first part and the part behind it
take_parts : {X : Type 0} → (m n : ℕ) (xs : List X) → take (m + n) xs ≡ take m xs ++ take n (drop m xs)
take_parts m n xs =
    sym (take-append-drop m (take (m + n) xs))
    ∙ ap (λ front. front ++ drop m (take (m + n) xs)) (take-take m (m + n) xs (omega arith))
    ∙ ap (λ back. take m xs ++ back) (drop-take m n xs)

-- the digits of one mask word more
digits_more : (base level i : ℕ) (words : List ℕ) → i < length words → mask_digits base level (take (i + 1) words) ≡ mask_digits base level (take i words) ++ digits_as_words (get_or words i 0) base level
digits_more base level i words inside =
    ap (mask_digits base level) (take_more words i 0 inside)
    ∙ flat_map-append (λ word. digits_as_words word base level) (take i words) (get_or words i 0 ∷ [])
    ∙ ap (λ ds. mask_digits base level (take i words) ++ ds) (append-nil (digits_as_words (get_or words i 0) base level))

-- the rows of one mask word are as many as its digits
pub rows_long : (big_dim level i : ℕ) (rows : List (List ℕ)) → length rows ≡ big_dim * level → i < big_dim → i * level + level ≤ length rows
rows_long big_dim level i rows count inside = omega (arith, row_fits i level big_dim level inside (omega arith))

-- the rows of one mask word more are subtracted
pub switched_more :
    (ring : RowRingLaws) (totals : RowTotalLaws) (digits : DigitLaws) (start words : List ℕ) (rows : List (List ℕ)) (len base level i : ℕ) (before after : List ℕ)
    → i < length words → i * level + level ≤ length rows → AllOfLength len rows
    → before ≡ row_difference start (sum_of_rows len (scaled_rows (mask_digits base level (take i words)) (take (i * level) rows)))
    → after ≡ row_difference before (sum_of_rows len (scaled_rows (digits_as_words (get_or words i 0) base level) (take level (drop (i * level) rows))))
    → after ≡ row_difference start (sum_of_rows len (scaled_rows (mask_digits base level (take (i + 1) words)) (take ((i + 1) * level) rows)))
switched_more ring totals digits start words rows len base level i before after inside fits long before_is after_is =
    let first : List ℕ = mask_digits base level (take i words) in
    let more : List ℕ = digits_as_words (get_or words i 0) base level in
    let front : List (List ℕ) = take (i * level) rows in
    let part : List (List ℕ) = take level (drop (i * level) rows) in
    let first_long : length first ≡ i * level = length-mask_digits digits base level (take i words) ∙ ap (λ n. n * level) (length-take-le i words (omega arith)) in
    let as_long : length first ≡ length front = first_long ∙ sym (length-take-le (i * level) rows (omega arith)) in
    let part_long : AllOfLength len part = All-take (λ row. length row ≡ len) level (drop (i * level) rows) (All-drop (λ row. length row ≡ len) (i * level) rows long) in
    let rows_parts : take ((i + 1) * level) rows ≡ front ++ part = ap (λ n. take n rows) (omega arith) ∙ take_parts (i * level) level rows in
    after_is
    ∙ ap (λ b. row_difference b (sum_of_rows len (scaled_rows more part))) before_is
    ∙ ring.difference_difference start (sum_of_rows len (scaled_rows first front)) (sum_of_rows len (scaled_rows more part))
    ∙ ap (row_difference start) (sym (totals.total_scaled_append len first more front part as_long part_long))
    ∙ ap (λ rs. row_difference start (sum_of_rows len (scaled_rows (first ++ more) rs))) (sym rows_parts)
    ∙ ap (λ ds. row_difference start (sum_of_rows len (scaled_rows ds (take ((i + 1) * level) rows)))) (sym (digits_more base level i words inside))

-- zeros with a body are the ciphertext without a mask
pub set_body : (dim body : ℕ) → slice_set (replicate (dim + 1) 0) dim body ≡ trivial dim body
set_body dim body = ap (λ zeros. slice_set zeros dim body) (sym (replicate_more dim 0)) ∙ set_at (replicate dim 0) 0 [] body dim (length-replicate {A = ℕ} dim 0)

-- there are no more digits than bits of a word but one
pub few_digits : (base level : ℕ) → IsGadget base level → level ≤ 63
few_digits base level is = let most : 1 * level ≤ base * level = mul-le-mul_right level is.some_bits in omega (arith, most, is.fits)
