-- The digits of the coefficients of polynomials.
use Rattle.std.proofs.Common.{◌≡◌, ℕ, ◌-◌, ◌*◌, ◌%◌, ◌^◌, ◌<◌, ◌≤◌, List, [], ◌∷◌, length, get_or, map, arith, ap, sym, subst, ◌∙◌, refl, mul_comm}
use Rattle.std.specs.List.{zip, sum_by, range_with_len}
use Rattle.std.proofs.lemmas.List.{length-map, get_or-map, ext_get_or}
use Rattle.std.proofs.lemmas.List.Elements.{All-nil, All-cons, All-map}
use Rattle.std.proofs.lemmas.List.Sums.{sum_by-cons}
use Rattle.word_ring.specs.Words.{IsWord, word_difference, word_product, size, RingLaws}
use Rattle.word_ring.specs.Rows.{row_difference, scaled_row, scaled_rows, sum_of_rows, AllOfLength, RowWithin}
use Rattle.word_ring.specs.RowLaws.{RowTotalLaws, CombinedLaws}
use Rattle.word_ring.specs.Rounding.{rounded, RoundingLaws}
use Rattle.word_ring.specs.Signed.{word_of, SignedLaws}
use Rattle.gadget_decomp.specs.Decomposition.{IsGadget, place_weight, gadget, digit_of, digits_of, digit_polynomial, digit_polynomials, rounded_polynomial}
use Rattle.gadget_decomp.specs.Laws.{PolynomialDigitLaws}
use Rattle.gadget_decomp.proofs.Decompositions.{one, digit_is}
use Rattle.gadget_decomp.proofs.DigitSizes.{digit_small, digits_make}

polynomial_length : (base level t : ℕ) (p : List ℕ) → length (digit_polynomial base level t p) ≡ length p
polynomial_length base level t p = length-map p (λ word. word_of (digit_of word base level t))

polynomials_length : (base level : ℕ) (p : List ℕ) → AllOfLength (length p) (digit_polynomials base level p)
polynomials_length base level p = All-map (λ row. length row ≡ length p) (λ t. digit_polynomial base level t p) (range_with_len 1 level) (λ k d _. polynomial_length base level _ p)

-- coefficient k of the weighed digit polynomials is the weighed digits of coefficient k, modulo 2^64
coefficient_weighed :
    (base level k : ℕ) (p ts : List ℕ) → k < length p
    → sum_by (λ row. get_or row k 0) (scaled_rows (map (place_weight base) ts) (map (λ t. digit_polynomial base level t p) ts)) % 2 ^ 64
    ≡ sum_by (λ q. q.0 * q.1) (zip (map word_of (map (digit_of (get_or p k 0) base level) ts)) (map (place_weight base) ts)) % 2 ^ 64
coefficient_weighed base level k p [] inside = refl
coefficient_weighed base level k p (t ∷ ts) inside =
    let w : ℕ = place_weight base t in
    let row : List ℕ = digit_polynomial base level t p in
    let d : ℕ = word_of (digit_of (get_or p k 0) base level t) in
    let within : k < length row = subst (λ n. k < n) (sym (polynomial_length base level t p)) inside in
    let here : get_or (scaled_row w row) k 0 ≡ (w * d) % 2 ^ 64 =
    get_or-map (word_product w) row k 0 0 within ∙ ap (word_product w) (get_or-map (λ word. word_of (digit_of word base level t)) p k 0 0 inside) in
    let turned : w * d ≡ d * w = mul_comm w d in
    let left = sum_by-cons (λ (r : List ℕ). get_or r k 0) (scaled_row w row) (scaled_rows (map (place_weight base) ts) (map (λ t. digit_polynomial base level t p) ts)) in
    let right = sum_by-cons (λ (q : ℕ × ℕ). q.0 * q.1) (d, w) (zip (map word_of (map (digit_of (get_or p k 0) base level) ts)) (map (place_weight base) ts)) in
    let rest = coefficient_weighed base level k p ts inside in
    omega (arith, here, turned, left, right, rest)

polynomials_weighed :
    (ring : RingLaws) (totals : RowTotalLaws) (base level : ℕ) (p : List ℕ) → IsGadget base level
    → sum_of_rows (length p) (scaled_rows (gadget base level) (digit_polynomials base level p)) ≡ rounded_polynomial base level p
polynomials_weighed ring totals base level p is =
    let rows : List (List ℕ) = scaled_rows (gadget base level) (digit_polynomials base level p) in
    let long : AllOfLength (length p) rows = totals.scaled_lengths (length p) (gadget base level) (digit_polynomials base level p) (polynomials_length base level p) in
    let left : length (sum_of_rows (length p) rows) ≡ length p = totals.total_length (length p) rows long in
    let right : length (rounded_polynomial base level p) ≡ length p = length-map p (λ word. rounded word base level) in
    ext_get_or 0 (sum_of_rows (length p) rows) (rounded_polynomial base level p) (left ∙ sym right)
    (λ k h. let inside : k < length p = subst (λ n. k < n) left h in
    let word : ℕ = get_or p k 0 in
    totals.total_word (length p) rows k long inside
    ∙ coefficient_weighed base level k p (range_with_len 1 level) inside
    ∙ digits_make ring word base level (digits_of word base level) (one word base level is.some_bits is.fits)
    ∙ sym (get_or-map (λ w. rounded w base level) p k 0 0 inside))

rounding_within : (rounding : RoundingLaws) (base level : ℕ) (p : List ℕ) → IsGadget base level → RowWithin (2 ^ (63 - base * level)) (row_difference (rounded_polynomial base level p) p)
rounding_within rounding base level [] is = All-nil (λ w. size w ≤ 2 ^ (63 - base * level))
rounding_within rounding base level (word ∷ p) is =
    All-cons (λ w. size w ≤ 2 ^ (63 - base * level)) (word_difference (rounded word base level) word) (row_difference (rounded_polynomial base level p) p)
    (rounding.rounding_error word base level is.some_bits is.some_digits is.fits) (rounding_within rounding base level p is)

pub polynomial_facts : (ring : RingLaws) (rounding : RoundingLaws) (signed : SignedLaws) (totals : RowTotalLaws) (weighted : CombinedLaws) → PolynomialDigitLaws
polynomial_facts ring rounding signed totals weighted = record {
  polynomial_length = polynomial_length;
  polynomial_words = λ base level t p. All-map IsWord (λ word. word_of (digit_of word base level t)) p (λ k d _. signed.number_word _);
  polynomial_within = λ base level t p is. All-map (λ w. size w ≤ 2 ^ (base - 1)) (λ word. word_of (digit_of word base level t)) p (λ k d _. digit_small base _ (digit_is _ base level t is.some_bits));
  polynomials_length = polynomials_length;
  polynomials_weighed = polynomials_weighed ring totals;
  polynomials_combined = λ base level p is. weighted.combined_from_zero (length p) (gadget base level) (digit_polynomials base level p) (polynomials_length base level p) ∙ polynomials_weighed ring totals base level p is;
  rounding_within = rounding_within rounding;
}
