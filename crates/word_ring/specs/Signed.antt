-- Signed numbers as words.
use Rattle.std.specs.Prelude.{◌≡◌, ◌≤◌, ℕ, ℤ, pos, negsuc, ◌-◌, ◌+ℤ◌, ◌-ℤ◌, ◌*ℤ◌, ◌≤ℤ◌, ◌<ℤ◌, ◌%◌, ◌^◌}
use Rattle.std.specs.Int.{int_rem_euclid}
use Rattle.std.specs.Int.RustNames.{unsigned_abs}
use Rattle.word_ring.specs.Words.{IsWord, word_sum, word_difference, word_product, centred, size}

-- the word that is congruent to a signed number
abbrev pub word_of : ℤ → ℕ
word_of number = unsigned_abs (int_rem_euclid number (pos (2 ^ 64)))

-- taking numbers to their words keeps sums and products, and makes nothing larger
pub record SignedLaws : Type 0 where
  -- a natural number's word is what 2^64 leaves of it
  pub natural_word : (n : ℕ) → word_of (pos n) ≡ n % 2 ^ 64
  -- it is a word
  pub number_word : (a : ℤ) → IsWord (word_of a)
  -- the word of a sum
  pub sum_word : (a b : ℤ) → word_of (a +ℤ b) ≡ word_sum (word_of a) (word_of b)
  -- of a difference
  pub difference_word : (a b : ℤ) → word_of (a -ℤ b) ≡ word_difference (word_of a) (word_of b)
  -- and of a product
  pub product_word : (a b : ℤ) → word_of (a *ℤ b) ≡ word_product (word_of a) (word_of b)
  -- the distance to the nearest multiple of 2^64 is at most the absolute value
  pub word_size : (a : ℤ) → size (word_of a) ≤ unsigned_abs a
  -- the word of a centred number is the word it was of
  pub centred_word : (w : ℕ) → word_of (centred w) ≡ w % 2 ^ 64
  -- and a number in [-2^63, 2^63) is its word, centred
  pub word_centred : (a : ℤ) → negsuc (2 ^ 63 - 1) ≤ℤ a → a <ℤ pos (2 ^ 63) → centred (word_of a) ≡ a
