-- Words: the integers modulo 2^64, each kept as the number below 2^64 that stands for it.
use Rattle.std.specs.Prelude.{◌≡◌, ◌≤◌, ℕ, ℤ, pos, negsuc, ◌+◌, ◌-◌, ◌*◌, ◌%◌, ◌^◌, ◌<◌, ◌≤ℤ◌, ◌<ℤ◌, min, nat_lt, if◌then◌else◌}
use Rattle.std.specs.Int.{int_rem_euclid}
use Rattle.std.specs.Int.RustNames.{unsigned_abs}

-- a number that a `u64` holds
abbrev pub IsWord : ℕ → Type 0
IsWord w = w < 2 ^ 64

-- the word that is congruent to the sum
abbrev pub word_sum : ℕ → ℕ → ℕ
word_sum a b = (a + b) % 2 ^ 64

-- the word that is congruent to the difference
abbrev pub word_difference : ℕ → ℕ → ℕ
word_difference a b = (a + (2 ^ 64 - b % 2 ^ 64)) % 2 ^ 64

-- the word that is congruent to the product
abbrev pub word_product : ℕ → ℕ → ℕ
word_product a b = (a * b) % 2 ^ 64

-- the word that is congruent to the negation
abbrev pub word_negation : ℕ → ℕ
word_negation a = (2 ^ 64 - a % 2 ^ 64) % 2 ^ 64

-- the number congruent to w in [-2^63, 2^63)
abbrev pub centred : ℕ → ℤ
centred w = if nat_lt (w % 2 ^ 64) (2 ^ 63) then pos (w % 2 ^ 64) else negsuc (2 ^ 64 - 1 - w % 2 ^ 64)

-- the distance from w to the nearest multiple of 2^64
abbrev pub size : ℕ → ℕ
size w = min (w % 2 ^ 64) (2 ^ 64 - w % 2 ^ 64)

-- the words are a commutative ring
pub record RingLaws : Type 0 where
  -- a sum may be taken in any grouping
  pub sum_associative : (a b c : ℕ) → word_sum (word_sum a b) c ≡ word_sum a (word_sum b c)
  -- and in any order
  pub sum_commutative : (a b : ℕ) → word_sum a b ≡ word_sum b a
  -- 0 changes nothing
  pub sum_zero : (w : ℕ) → word_sum 0 w ≡ w % 2 ^ 64
  -- a word and its negation cancel
  pub sum_negation : (w : ℕ) → word_sum w (word_negation w) ≡ 0
  -- a difference is the sum with the negation
  pub difference_is : (a b : ℕ) → word_difference a b ≡ word_sum a (word_negation b)
  -- a product may be taken in any grouping
  pub product_associative : (a b c : ℕ) → word_product (word_product a b) c ≡ word_product a (word_product b c)
  -- and in any order
  pub product_commutative : (a b : ℕ) → word_product a b ≡ word_product b a
  -- 1 changes nothing
  pub product_one : (w : ℕ) → word_product 1 w ≡ w % 2 ^ 64
  -- a product goes into a sum on its right
  pub product_sum : (a b c : ℕ) → word_product a (word_sum b c) ≡ word_sum (word_product a b) (word_product a c)
  -- and into one on its left
  pub sum_product : (a b c : ℕ) → word_product (word_sum a b) c ≡ word_sum (word_product a c) (word_product b c)
  -- the sign of a factor is the sign of the product
  pub negation_product : (a b : ℕ) → word_product (word_negation a) b ≡ word_negation (word_product a b)

-- the operations see a number only modulo 2^64
pub record ResidueLaws : Type 0 where
  -- the sum of what is left of each
  pub sum_residues : (a b : ℕ) → word_sum (a % 2 ^ 64) (b % 2 ^ 64) ≡ word_sum a b
  -- the difference of what is left of each
  pub difference_residues : (a b : ℕ) → word_difference (a % 2 ^ 64) (b % 2 ^ 64) ≡ word_difference a b
  -- the product of what is left of each
  pub product_residues : (a b : ℕ) → word_product (a % 2 ^ 64) (b % 2 ^ 64) ≡ word_product a b
  -- the negation of what is left
  pub negation_residue : (a : ℕ) → word_negation (a % 2 ^ 64) ≡ word_negation a

-- how the operations change the distance to 0
pub record SizeLaws : Type 0 where
  -- a sum is no larger than its terms together
  pub size_sum : (a b : ℕ) → size (word_sum a b) ≤ size a + size b
  -- nor is a difference
  pub size_difference : (a b : ℕ) → size (word_difference a b) ≤ size a + size b
  -- a product is no larger than the product of the sizes
  pub size_product : (a b : ℕ) → size (word_product a b) ≤ size a * size b
  -- a negation is as large as the word
  pub size_negation : (a : ℕ) → size (word_negation a) ≡ size a
  -- the size is the absolute value of the centred number
  pub size_centred : (w : ℕ) → unsigned_abs (centred w) ≡ size w

-- `centred` gives the one number that is congruent to w and in range
pub record CentredLaws : Type 0 where
  -- -2^63 is the least
  pub centred_least : (w : ℕ) → negsuc (2 ^ 63 - 1) ≤ℤ centred w
  -- 2^63 is past the greatest
  pub centred_below : (w : ℕ) → centred w <ℤ pos (2 ^ 63)
  -- it is congruent to w
  pub centred_residue : (w : ℕ) → int_rem_euclid (centred w) (pos (2 ^ 64)) ≡ pos (w % 2 ^ 64)
