-- What holds of the digits of every word and of every polynomial.
use Rattle.std.specs.Prelude.{◌≡◌, ℕ, ℤ, ◌-◌, ◌*◌, ◌%◌, ◌^◌, ◌≤◌, List, map, length, replicate, All}
use Rattle.std.specs.List.{zip, sum_by}
use Rattle.std.specs.Int.RustNames.{unsigned_abs}
use Rattle.word_ring.specs.Words.{IsWord, word_difference, size}
use Rattle.word_ring.specs.Rows.{row_difference, combined, sum_of_rows, scaled_rows, AllOfLength, RowWithin}
use Rattle.word_ring.specs.Rounding.{rounded}
use Rattle.word_ring.specs.Signed.{word_of}
use Rattle.gadget_decomp.specs.Decomposition.{IsGadget, IsDecomposition, gadget, weighed_from, digits_of, digits_as_words, digit_polynomial, digit_polynomials, rounded_polynomial}

-- each word has exactly one list of digits
pub record DecompositionLaws : Type 0 where
  -- there is one
  pub one : (word base level : ℕ) → IsGadget base level → IsDecomposition word base level (digits_of word base level)
  -- and no other
  pub no_other :
      (word base level : ℕ) (digits others : List ℤ) → IsGadget base level
      → IsDecomposition word base level digits → IsDecomposition word base level others
      → digits ≡ others

-- the sizes of digits, and what they leave out of the word
pub record DigitLaws : Type 0 where
  -- no digit is larger than 2^(base-1)
  pub digit_bound :
      (word base level : ℕ) (digits : List ℤ) → IsDecomposition word base level digits
      → All (λ digit. unsigned_abs digit ≤ 2 ^ (base - 1)) digits
  -- nor is its word
  pub digit_size :
      (word base level : ℕ) (digits : List ℤ) → IsDecomposition word base level digits
      → RowWithin (2 ^ (base - 1)) (map word_of digits)
  -- the words of any digits, weighed, leave the word of the weighed sum
  pub weighed_words :
      (base : ℕ) (digits : List ℤ)
      → sum_by (λ p. p.0 * p.1) (zip (map word_of digits) (gadget base (length digits))) % 2 ^ 64
      ≡ word_of (weighed_from base 1 digits)
  -- so those of a word's digits make up the rounded word
  pub digits_weighed :
      (word base level : ℕ) → IsGadget base level
      → sum_by (λ p. p.0 * p.1) (zip (digits_as_words word base level) (gadget base level)) % 2 ^ 64
      ≡ rounded word base level
  -- there are as many as places
  pub digits_count : (word base level : ℕ) → length (digits_as_words word base level) ≡ level
  -- none is larger than 2^(base-1)
  pub digits_within :
      (word base level : ℕ) → IsGadget base level
      → RowWithin (2 ^ (base - 1)) (digits_as_words word base level)
  -- what digits stand for is within half the weight of the last place of the word
  pub error :
      (word base level : ℕ) (digits : List ℤ) → IsGadget base level → IsDecomposition word base level digits
      → size (word_difference (word_of (weighed_from base 1 digits)) word) ≤ 2 ^ (63 - base * level)

-- the digits of the coefficients of polynomials
pub record PolynomialDigitLaws : Type 0 where
  -- a digit polynomial has as many coefficients
  pub polynomial_length : (base level t : ℕ) (p : List ℕ) → length (digit_polynomial base level t p) ≡ length p
  -- each is a word
  pub polynomial_words : (base level t : ℕ) (p : List ℕ) → All IsWord (digit_polynomial base level t p)
  -- no larger than 2^(base-1)
  pub polynomial_within :
      (base level t : ℕ) (p : List ℕ) → IsGadget base level
      → RowWithin (2 ^ (base - 1)) (digit_polynomial base level t p)
  -- all digit polynomials have as many coefficients
  pub polynomials_length :
      (base level : ℕ) (p : List ℕ)
      → AllOfLength (length p) (digit_polynomials base level p)
  -- weighed, they make up the rounded polynomial
  pub polynomials_weighed :
      (base level : ℕ) (p : List ℕ) → IsGadget base level
      → sum_of_rows (length p) (scaled_rows (gadget base level) (digit_polynomials base level p))
      ≡ rounded_polynomial base level p
  -- which as a weighted sum of rows is the same
  pub polynomials_combined :
      (base level : ℕ) (p : List ℕ) → IsGadget base level
      → combined (replicate (length p) 0) (gadget base level) (digit_polynomials base level p)
      ≡ rounded_polynomial base level p
  -- each of its coefficients is within half the weight of the last place
  pub rounding_within :
      (base level : ℕ) (p : List ℕ) → IsGadget base level
      → RowWithin (2 ^ (63 - base * level)) (row_difference (rounded_polynomial base level p) p)
