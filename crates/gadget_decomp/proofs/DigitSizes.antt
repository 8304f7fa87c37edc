-- The sizes of digits, and the sum of their words.
use Rattle.std.proofs.Common.{◌≡◌, ℕ, suc, zero, ◌+◌, ◌-◌, ◌*◌, ◌%◌, ◌^◌, ◌≤◌, List, [], ◌∷◌, map, length, arith, refl, ap, sym, subst, ◌∙◌}
use Rattle.std.proofs.lemmas.Nat.{mul-mod_first}
use Rattle.std.proofs.lemmas.Int.{ints}
use Rattle.std.proofs.lemmas.List.Elements.{All-weaker, All-map}
use Rattle.std.proofs.lemmas.List.{length-map}
use Rattle.std.proofs.lemmas.List.FromFn.{length-map-range_with_len}
use Rattle.std.proofs.lemmas.List.Sums.{sum_by-cons}
use Rattle.std.specs.Prelude.{ℤ, pos, negsuc, ◌+ℤ◌, ◌*ℤ◌, ◌<ℤ◌, ◌≤ℤ◌, neg_ℤ}
use Rattle.std.specs.List.{sum_by, zip, range_with_len}
use Rattle.std.specs.Int.RustNames.{unsigned_abs}
use Rattle.word_ring.specs.Words.{word_difference, word_negation, size, RingLaws}
use Rattle.word_ring.specs.Rounding.{rounded, RoundingLaws}
use Rattle.word_ring.specs.Signed.{word_of}
use Rattle.gadget_decomp.specs.Decomposition.{IsDigit, IsDecomposition, gadget, place_weight, weighed_from, digit_of, digits_of}
use Rattle.gadget_decomp.specs.Laws.{DigitLaws}
use Rattle.gadget_decomp.proofs.Decompositions.{one}

-- a number between -h and h
abs_bound : (d : ℤ) (h : ℕ) → neg_ℤ (pos h) ≤ℤ d → d <ℤ pos h → unsigned_abs d ≤ h
abs_bound d h least most = grind (arith, ints)

-- the size of its word
size_bound : (d : ℤ) → size (word_of d) ≤ unsigned_abs d
size_bound (pos a) = omega arith
size_bound (negsuc a) = omega arith

-- the word of a sum
word_of_sum : (a b : ℤ) → word_of (a +ℤ b) ≡ (word_of a + word_of b) % 2 ^ 64
word_of_sum a b = grind (arith, ints)

-- the word of a negated number
word_of_negation : (n : ℕ) → word_of (neg_ℤ (pos n)) ≡ word_negation n
word_of_negation zero = refl
word_of_negation (suc n) = omega arith

negation_residue : (n : ℕ) → word_negation n ≡ word_negation (n % 2 ^ 64)
negation_residue n = omega arith

-- the word of a number times a weight
word_of_weighed : (laws : RingLaws) (d : ℤ) (w : ℕ) → word_of (d *ℤ pos w) ≡ (word_of d * w) % 2 ^ 64
word_of_weighed laws (pos a) w = sym (mul-mod_first a w (2 ^ 64))
word_of_weighed laws (negsuc a) w =
    let negated : word_negation (suc a) ≡ word_of (negsuc a) = omega arith in
    word_of_negation (suc a * w) ∙ negation_residue (suc a * w) ∙ sym (laws.negation_product (suc a) w) ∙ ap (λ x. x * w % 2 ^ 64) negated

-- the words of digits from place t, weighed, leave the word of the weighed sum
words_weighed :
    (laws : RingLaws) (base t : ℕ) (digits : List ℤ)
    → sum_by (λ p. p.0 * p.1) (zip (map word_of digits) (map (place_weight base) (range_with_len t (length digits)))) % 2 ^ 64 ≡ word_of (weighed_from base t digits)
words_weighed laws base t [] = refl
words_weighed laws base t (d ∷ digits) =
    let w : ℕ = place_weight base t in
    let split = sum_by-cons (λ (p : ℕ × ℕ). p.0 * p.1) (word_of d, w) (zip (map word_of digits) (map (place_weight base) (range_with_len (t + 1) (length digits)))) in
    let rest = words_weighed laws base (t + 1) digits in
    let first = word_of_weighed laws d w in
    let sum = word_of_sum (d *ℤ pos w) (weighed_from base (t + 1) digits) in
    omega (arith, split, rest, first, sum)

digits_bounded : (base : ℕ) (d : ℤ) → IsDigit base d → unsigned_abs d ≤ 2 ^ (base - 1)
digits_bounded base d is = abs_bound d (2 ^ (base - 1)) is.least is.most

-- and its word is as small
pub digit_small : (base : ℕ) (d : ℤ) → IsDigit base d → size (word_of d) ≤ 2 ^ (base - 1)
digit_small base d is = omega (arith, digits_bounded base d is, size_bound d)

pub digits_make : (laws : RingLaws) (word base level : ℕ) (digits : List ℤ) → IsDecomposition word base level digits → sum_by (λ p. p.0 * p.1) (zip (map word_of digits) (gadget base level)) % 2 ^ 64 ≡ rounded word base level
digits_make laws word base level digits is =
    subst (λ n. sum_by (λ p. p.0 * p.1) (zip (map word_of digits) (gadget base n)) % 2 ^ 64 ≡ rounded word base level) is.count (words_weighed laws base 1 digits ∙ is.sum)

pub digit_facts : (ring : RingLaws) (rounding : RoundingLaws) → DigitLaws
digit_facts ring rounding = record {
  digit_bound = λ word base level digits is. All-weaker (IsDigit base) (λ d. unsigned_abs d ≤ 2 ^ (base - 1)) (digits_bounded base) digits is.range;
  digit_size = λ word base level digits is. All-map (λ w. size w ≤ 2 ^ (base - 1)) word_of digits (All-weaker (IsDigit base) (λ d. size (word_of d) ≤ 2 ^ (base - 1)) (digit_small base) digits is.range);
  weighed_words = λ base digits. words_weighed ring base 1 digits;
  digits_weighed = λ word base level is. digits_make ring word base level (digits_of word base level) (one word base level is.some_bits is.fits);
  digits_count = λ word base level. length-map (digits_of word base level) word_of ∙ length-map-range_with_len (digit_of word base level) 1 level;
  digits_within = λ word base level is. All-map (λ w. size w ≤ 2 ^ (base - 1)) word_of (digits_of word base level) (All-weaker (IsDigit base) (λ d. size (word_of d) ≤ 2 ^ (base - 1)) (digit_small base) (digits_of word base level) (one word base level is.some_bits is.fits).range);
  error = λ word base level digits is digits_are. subst (λ x. size (word_difference x word) ≤ 2 ^ (63 - base * level)) (sym digits_are.sum) (rounding.rounding_error word base level is.some_bits is.some_digits is.fits);
}
