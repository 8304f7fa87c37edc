-- The laws of polynomials modulo X^N + 1, as facts of the definitions alone, at every N from 1.
use Rattle.std.specs.Prelude.{◌≡◌, ◌<◌, ℕ, ◌+◌, ◌-◌, ◌*◌, ◌%◌, ◌^◌, List, ◌∷◌, map, replicate, length, slice_index, All, sum, sum_by}
use Rattle.std.specs.List.{range_with_len}
use Rattle.word_ring.specs.Words.{IsWord, word_negation, size}
use Rattle.word_ring.specs.Rows.{row_sum, row_difference, scaled_row, IsAdditive, RowWithin}
use Rattle.negacyclic.specs.Product.{sum_below, negacyclic_product, monomial, rotation, coefficient}

-- polynomials are a commutative ring over the words
pub record ProductLaws : Type 0 where
  -- a product has as many coefficients as its first factor
  pub product_length : (p q : List ℕ) → length (negacyclic_product p q) ≡ length p
  -- each of them is a word
  pub product_words : (p q : List ℕ) → All IsWord (negacyclic_product p q)
  -- 0 times a polynomial is 0
  pub zero_product : (p : List ℕ) → negacyclic_product (replicate (length p) 0) p ≡ replicate (length p) 0
  -- and so is p times 0
  pub product_zero : (p : List ℕ) → negacyclic_product p (replicate (length p) 0) ≡ replicate (length p) 0
  -- p times X^0 is p
  pub product_one : (p : List ℕ) → 0 < length p → All IsWord p → negacyclic_product p (monomial (length p) 0) ≡ p
  -- a product may be taken in any order
  pub product_commutative : (p q : List ℕ) → length p ≡ length q → negacyclic_product p q ≡ negacyclic_product q p
  -- and in any grouping
  pub product_associative : (p q r : List ℕ) → length p ≡ length q → length q ≡ length r →
      negacyclic_product (negacyclic_product p q) r ≡ negacyclic_product p (negacyclic_product q r)
  -- a product goes into a sum on its left
  pub sum_product : (p q r : List ℕ) → length p ≡ length q → length q ≡ length r →
      negacyclic_product (row_sum p q) r ≡ row_sum (negacyclic_product p r) (negacyclic_product q r)
  -- and into one on its right
  pub product_sum : (p q r : List ℕ) → length p ≡ length q → length q ≡ length r →
      negacyclic_product p (row_sum q r) ≡ row_sum (negacyclic_product p q) (negacyclic_product p r)
  -- a product goes into a difference on its left
  pub difference_product : (p q r : List ℕ) → length p ≡ length q → length q ≡ length r →
      negacyclic_product (row_difference p q) r ≡ row_difference (negacyclic_product p r) (negacyclic_product q r)
  -- and into one on its right
  pub product_difference : (p q r : List ℕ) → length p ≡ length q → length q ≡ length r →
      negacyclic_product p (row_difference q r) ≡ row_difference (negacyclic_product p q) (negacyclic_product p r)
  -- a word in the first factor goes out
  pub scaled_product : (factor : ℕ) (p q : List ℕ) → length p ≡ length q →
      negacyclic_product (scaled_row factor p) q ≡ scaled_row factor (negacyclic_product p q)
  -- and so does one in the second
  pub product_scaled : (factor : ℕ) (p q : List ℕ) → length p ≡ length q →
      negacyclic_product p (scaled_row factor q) ≡ scaled_row factor (negacyclic_product p q)
  -- so a product is additive in its first factor
  pub first_additive : (q : List ℕ) → IsAdditive (length q) (length q) (λ p. negacyclic_product p q)
  -- and in its second
  pub second_additive : (p : List ℕ) → IsAdditive (length p) (length p) (negacyclic_product p)
  -- p times q is the sum over i of p_i times X^i * q
  pub product_by_rotations : (p q : List ℕ) → length p ≡ length q → (c : ℕ) → c < length p →
      slice_index (negacyclic_product p q) c ≡
      sum_below (length p) (λ i. slice_index p i * slice_index (rotation i q) c) % 2 ^ 64
  -- coefficient c of it is the sum over j of coefficient c - j of p times q_j
  pub product_coefficient : (p q : List ℕ) (c : ℕ) → length p ≡ length q → c < length p →
      slice_index (negacyclic_product p q) c ≡
      sum_below (length q) (λ j. coefficient p (c + (2 * length p - j)) * slice_index q j) % 2 ^ 64

-- the powers of X, where X^N is -1
pub record RotationLaws : Type 0 where
  -- a power has n coefficients
  pub monomial_length : (n by : ℕ) → length (monomial n by) ≡ n
  -- X^0 is 1
  pub monomial_none : (n : ℕ) → 0 < n → monomial n 0 ≡ 1 ∷ replicate (n - 1) 0
  -- exponents add up
  pub monomial_product : (n i j : ℕ) → 0 < n → negacyclic_product (monomial n i) (monomial n j) ≡ monomial n (i + j)
  -- N more turns the sign
  pub monomial_turned : (n i : ℕ) → 0 < n → monomial n (i + n) ≡ map word_negation (monomial n i)
  -- a rotation keeps the number of coefficients
  pub rotation_length : (by : ℕ) (p : List ℕ) → length (rotation by p) ≡ length p
  -- each of them is a word
  pub rotation_words : (by : ℕ) (p : List ℕ) → All IsWord (rotation by p)
  -- it is the product with a power of X
  pub rotation_is : (by : ℕ) (p : List ℕ) → rotation by p ≡ negacyclic_product (monomial (length p) by) p
  -- a rotation by 0 changes no word
  pub rotation_none : (p : List ℕ) → 0 < length p → All IsWord p → rotation 0 p ≡ p
  -- a rotation of a rotation is by the sum
  pub rotation_rotation : (i j : ℕ) (p : List ℕ) → 0 < length p → rotation i (rotation j p) ≡ rotation (i + j) p
  -- coefficient c of X^by * p is coefficient c - by of p, and N places on it has the other sign
  pub rotation_moves : (by : ℕ) (p : List ℕ) (c : ℕ) → c < length p →
      slice_index (rotation by p) c ≡ coefficient p (c + (2 * length p - by % (2 * length p)))
  -- only the exponent modulo 2N counts
  pub rotation_residue : (by : ℕ) (p : List ℕ) → rotation (by % (2 * length p)) p ≡ rotation by p
  -- N more turns the sign
  pub rotation_half : (by : ℕ) (p : List ℕ) → 0 < length p →
      rotation (by + length p) p ≡ map word_negation (rotation by p)
  -- a rotation of 0 is 0
  pub rotation_zero : (by n : ℕ) → rotation by (replicate n 0) ≡ replicate n 0
  -- a rotation goes into a sum
  pub rotation_sum : (by : ℕ) (p q : List ℕ) → length p ≡ length q →
      rotation by (row_sum p q) ≡ row_sum (rotation by p) (rotation by q)
  -- into a difference
  pub rotation_difference : (by : ℕ) (p q : List ℕ) → length p ≡ length q →
      rotation by (row_difference p q) ≡ row_difference (rotation by p) (rotation by q)
  -- into a multiple
  pub rotation_scaled : (by factor : ℕ) (p : List ℕ) →
      rotation by (scaled_row factor p) ≡ scaled_row factor (rotation by p)
  -- so it is additive
  pub rotation_additive : (by n : ℕ) → IsAdditive n n (rotation by)
  -- a rotation of a factor is one of the product, for either factor
  pub rotation_product : (by : ℕ) (p q : List ℕ) → length p ≡ length q →
      negacyclic_product (rotation by p) q ≡ rotation by (negacyclic_product p q)
  pub product_rotation : (by : ℕ) (p q : List ℕ) → length p ≡ length q →
      negacyclic_product p (rotation by q) ≡ rotation by (negacyclic_product p q)

-- finite sums, whose terms stand at places below a number
pub record SumLaws : Type 0 where
  -- over the places of a list
  pub sum_of_places : (f : ℕ → ℕ) (xs : List ℕ) → sum_below (length xs) (λ i. f (slice_index xs i)) ≡ sum_by f xs
  -- and over the numbers themselves
  pub sum_of_range : (f : ℕ → ℕ) (n : ℕ) → sum_below n f ≡ sum_by f (range_with_len 0 n)

-- how products change the distances of the coefficients to 0
pub record ProductSizeLaws : Type 0 where
  -- no coefficient of p times q is larger than the greatest of p times all of q together
  pub product_size : (bound : ℕ) (p q : List ℕ) → length p ≡ length q → RowWithin bound p →
      RowWithin (bound * sum_by size q) (negacyclic_product p q)
  -- nor than N times the greatest of p times the greatest of q
  pub product_bound : (bound most : ℕ) (p q : List ℕ) → length p ≡ length q → RowWithin bound p →
      RowWithin most q → RowWithin (length q * (bound * most)) (negacyclic_product p q)
  -- nor, where q is made of bits, than the number of its ones times the greatest of p
  pub product_with_bits : (bound : ℕ) (p q : List ℕ) → length p ≡ length q → RowWithin bound p →
      RowWithin (sum q * bound) (negacyclic_product p q)
  -- a rotation keeps the size of the coefficient that it moves
  pub rotation_size : (by : ℕ) (p : List ℕ) (c : ℕ) → c < length p → size (slice_index (rotation by p) c) ≡
      size (slice_index p ((c + (2 * length p - by % (2 * length p))) % length p))
  -- so a bound on all sizes stays one
  pub rotation_bound : (bound by : ℕ) (p : List ℕ) → RowWithin bound p → RowWithin bound (rotation by p)
