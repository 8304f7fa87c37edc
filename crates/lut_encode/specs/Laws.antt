-- What a rotation reads in a test polynomial, as a fact of the definitions alone.
use Rattle.std.specs.Prelude.{◌≡◌, ℕ, ℤ, ◌+◌, ◌-◌, ◌*◌, ◌/◌, ◌%◌, ◌^◌, ◌<◌, List, slice_index}
use Rattle.word_ring.specs.Words.{word_negation}
use Rattle.lwe_core.specs.Decoding.{encoded}
use Rattle.negacyclic.specs.Product.{rotation}
use Rattle.lut_encode.specs.TestPolynomial.{box_of, half_box, entry_at, test_polynomial}

-- the number of the box in which place m of 2n stands; the boxes begin half a box early, so box 0 has both ends of the
-- circle
abbrev pub box_at : ℕ → ℕ → ℕ → ℕ
box_at n width m = (m + half_box n width) % (2 * n) / box_of n width

-- what X^(-m) times the test polynomial of 2^log_n coefficients has at place 0
pub record LookupLaws : Type 0 where
  -- the encoding of the entry in whose box m stands; in the last half box of the circle that is entry 0, as what is
  -- negated in the polynomial is negated once more
  pub looked_up : (entries : List ℤ) (log_n width m v : ℕ) → width < log_n → m < 2 * 2 ^ log_n
      → v < 2 ^ width → box_at (2 ^ log_n) width m ≡ v
      → slice_index (rotation (2 * 2 ^ log_n - m) (test_polynomial entries (2 ^ log_n) width)) 0
      ≡ encoded width (entry_at entries v)
  -- the boxes past those of the values have the entries again, with the other sign
  pub looked_up_past : (entries : List ℤ) (log_n width m v : ℕ) → width < log_n → m < 2 * 2 ^ log_n
      → v < 2 ^ width → box_at (2 ^ log_n) width m ≡ 2 ^ width + v
      → slice_index (rotation (2 * 2 ^ log_n - m) (test_polynomial entries (2 ^ log_n) width)) 0
      ≡ word_negation (encoded width (entry_at entries v))
