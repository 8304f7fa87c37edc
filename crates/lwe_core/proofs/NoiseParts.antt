-- The noise of sums, differences and multiples.
use Rattle.std.proofs.Common.{◌≡◌, ℕ, ◌+◌, ◌*◌, ◌%◌, ◌^◌, ◌<◌, ◌≤◌, ℤ, pos, ◌+ℤ◌, ◌-ℤ◌, ◌*ℤ◌, Bool, List, length, arith, ap, sym, subst, ◌∙◌, refl}
use Rattle.std.specs.Int.RustNames.{unsigned_abs}
use Rattle.std.proofs.Math.Nat.{mod-mod, mul-le-mul}
use Rattle.std.proofs.lemmas.Int.{ints}
use Rattle.std.proofs.lemmas.Nat.{mul-mod_second}
use Rattle.std.proofs.lemmas.List.{length-map, length-set, length-replicate}
use Rattle.word_ring.specs.Words.{word_sum, word_difference, word_product, size, RingLaws, SizeLaws}
use Rattle.word_ring.specs.Rows.{zip_words, row_sum, row_difference, scaled_row, sum_with_scaled, RowLaws}
use Rattle.word_ring.specs.Signed.{word_of, SignedLaws}
use Rattle.lwe_core.specs.Phase.{FitsKey, phase_of, with_message}
use Rattle.lwe_core.specs.Decoding.{value_step, encoded}
use Rattle.lwe_core.specs.Encrypts.{centred_error, Encrypts}
use Rattle.lwe_core.specs.Laws.{PhaseLaws, NoiseLaws}
use Rattle.lwe_core.proofs.PhaseLinear.{multiple_parts}
use Rattle.lwe_core.proofs.PhaseBodies.{phase-message, phase-zeros}

-- the laws of words
pub record WordLaws : Type 0 where
  pub ring : RingLaws
  pub rows : RowLaws
  pub sizes : SizeLaws
  pub signed : SignedLaws

-- ---- places of values

encoded_below : (width : ℕ) (v : ℤ) → encoded width v < 2 ^ 64
encoded_below width v = omega arith

encoded-sum : WordLaws → (width : ℕ) (u v : ℤ) → encoded width (u +ℤ v) ≡ word_sum (encoded width u) (encoded width v)
encoded-sum words width u v = ap (λ w. word_product w (value_step width)) (words.signed.sum_word u v) ∙ words.ring.sum_product (word_of u) (word_of v) (value_step width)

minus_from_sum : (a b c : ℕ) → c < 2 ^ 64 → a ≡ word_sum c b → c ≡ word_difference a b
minus_from_sum a b c fits e = omega arith

encoded-difference : WordLaws → (width : ℕ) (u v : ℤ) → encoded width (u -ℤ v) ≡ word_difference (encoded width u) (encoded width v)
encoded-difference words width u v =
    let back : u ≡ (u -ℤ v) +ℤ v = omega (arith, ints) in
    minus_from_sum (encoded width u) (encoded width v) (encoded width (u -ℤ v)) (encoded_below width (u -ℤ v)) (ap (encoded width) back ∙ encoded-sum words width (u -ℤ v) v)

encoded-multiple : WordLaws → (width : ℕ) (f u : ℤ) → encoded width (f *ℤ u) ≡ word_product (word_of f) (encoded width u)
encoded-multiple words width f u = ap (λ w. word_product w (value_step width)) (words.signed.product_word f u) ∙ words.ring.product_associative (word_of f) (word_of u) (value_step width)

-- ---- errors

gap_residues : (a b c d : ℕ) → c ≡ a % 2 ^ 64 → d % 2 ^ 64 ≡ b % 2 ^ 64 → word_difference c d ≡ word_difference a b
gap_residues a b c d p q = omega arith

-- the size of an error is the distance from the phase to the place of the value
error_size : WordLaws → (phase width : ℕ) (v : ℤ) → unsigned_abs (centred_error phase v width) ≡ size (word_difference phase (encoded width v))
error_size words phase width v =
    let step : ℕ = value_step width in
    let place : word_of (v *ℤ pos step) ≡ word_product (word_of v) (step % 2 ^ 64) = words.signed.product_word v (pos step) ∙ ap (word_product (word_of v)) (words.signed.natural_word step) in
    words.sizes.size_centred (word_of (pos phase -ℤ v *ℤ pos step))
    ∙ ap size (words.signed.difference_word (pos phase) (v *ℤ pos step)
    ∙ gap_residues phase (encoded width v) (word_of (pos phase)) (word_of (v *ℤ pos step)) (words.signed.natural_word phase) (ap (λ n. n % 2 ^ 64) (place ∙ mul-mod_second (word_of v) step (2 ^ 64))))

-- the error of a ciphertext, as a word
abbrev Gap : List Bool → List ℕ → ℤ → ℕ → ℕ
Gap bits xs v width = word_difference (phase_of bits xs) (encoded width v)

within : WordLaws → (bits : List Bool) (xs : List ℕ) (v : ℤ) (width bound : ℕ) → Encrypts bits xs v width bound → size (Gap bits xs v width) ≤ bound
within words bits xs v width bound is = subst (λ n. n ≤ bound) (error_size words (phase_of bits xs) width v) is.near

stands : WordLaws → (bits : List Bool) (xs : List ℕ) (v : ℤ) (width bound gap : ℕ) → FitsKey bits xs → Gap bits xs v width ≡ gap → size gap ≤ bound → Encrypts bits xs v width bound
stands words bits xs v width bound gap fits e small = record {
  fits = fits;
  near = subst (λ n. n ≤ bound) (sym (error_size words (phase_of bits xs) width v ∙ ap size e)) small;
}

-- ---- lengths

fits-zip : RowLaws → (f : ℕ → ℕ → ℕ) (bits : List Bool) (xs ys : List ℕ) → FitsKey bits xs → FitsKey bits ys → FitsKey bits (zip_words f xs ys)
fits-zip rows f bits xs ys p q = omega (arith, rows.zip_length f xs ys)

fits-scaled : (f : ℕ) (bits : List Bool) (xs : List ℕ) → FitsKey bits xs → FitsKey bits (scaled_row f xs)
fits-scaled f bits xs p = length-map xs (word_product f) ∙ p

-- ---- gaps of sums, differences and multiples

sum_gap : (p q a b : ℕ) → word_difference (word_sum p q) (word_sum a b) ≡ word_sum (word_difference p a) (word_difference q b)
sum_gap p q a b = omega arith

difference_gap : (p q a b : ℕ) → word_difference (word_difference p q) (word_difference a b) ≡ word_difference (word_difference p a) (word_difference q b)
difference_gap p q a b = omega arith

-- a multiple, whether what is left of it is taken first or not
multiple_gap : (f p a m : ℕ) → m % 2 ^ 64 ≡ (f * p) % 2 ^ 64 → word_difference m (word_product f a) ≡ word_product f (word_difference p a)
multiple_gap f p a m e = multiple_parts f p a m (word_product f a) e (mod-mod (f * a) (2 ^ 64))

sum_small : WordLaws → (a b bound more : ℕ) → size a ≤ bound → size b ≤ more → size (word_sum a b) ≤ bound + more
sum_small words a b bound more p q = omega (arith, words.sizes.size_sum a b, p, q)

difference_small : WordLaws → (a b bound more : ℕ) → size a ≤ bound → size b ≤ more → size (word_difference a b) ≤ bound + more
difference_small words a b bound more p q = omega (arith, words.sizes.size_difference a b, p, q)

le_trans : (a b c : ℕ) → a ≤ b → b ≤ c → a ≤ c
le_trans a b c p q = omega arith

multiple_small : WordLaws → (f : ℤ) (a bound : ℕ) → size a ≤ bound → size (word_product (word_of f) a) ≤ unsigned_abs f * bound
multiple_small words f a bound p = le_trans _ _ _ (words.sizes.size_product (word_of f) a) (mul-le-mul (words.signed.word_size f) p)

-- ---- adding a word to the body

message_gap : (p a m : ℕ) → word_difference (word_sum p m) (word_sum a m) ≡ word_difference p a
message_gap p a m = omega arith

-- ---- another phase

moved_gap : (q p a : ℕ) → word_difference q a ≡ word_sum (word_difference p a) (word_difference q p)
moved_gap q p a = omega arith

-- ---- the ciphertext of zeros

zero_gap : (b m : ℕ) → b ≡ 0 → m ≡ 0 → word_difference b m ≡ 0
zero_gap b m p q = omega arith

encoded_zero : WordLaws → (width : ℕ) → encoded width (pos 0) ≡ 0
encoded_zero words width = ap (λ w. word_product w (value_step width)) (words.signed.natural_word 0) ∙ omega arith

pub laws : PhaseLaws → WordLaws → NoiseLaws
laws phases words = record {
  error_size = λ phase width v. error_size words phase width v;
  encrypts_zero = λ bits width. stands words bits _ (pos 0) width 0 0 (length-replicate {A = ℕ} (length bits + 1) 0) (zero_gap _ _ (phase-zeros bits) (encoded_zero words width)) (omega arith);
  encrypts_wider = λ bits xs u width bound wider is more. record { fits = is.fits; near = omega (arith, is.near, more) };
  encrypts_sum = λ bits xs ys u v width bound more is other.
      stands words bits (row_sum xs ys) (u +ℤ v) width (bound + more) (word_sum (Gap bits xs u width) (Gap bits ys v width))
      (fits-zip words.rows word_sum bits xs ys is.fits other.fits)
      (rw (phases.phase_sum bits xs ys is.fits other.fits, encoded-sum words width u v) (sum_gap (phase_of bits xs) (phase_of bits ys) (encoded width u) (encoded width v)))
      (sum_small words _ _ bound more (within words bits xs u width bound is) (within words bits ys v width more other));
  encrypts_difference = λ bits xs ys u v width bound more is other.
      stands words bits (row_difference xs ys) (u -ℤ v) width (bound + more) (word_difference (Gap bits xs u width) (Gap bits ys v width))
      (fits-zip words.rows word_difference bits xs ys is.fits other.fits)
      (rw (phases.phase_difference bits xs ys is.fits other.fits, encoded-difference words width u v) (difference_gap (phase_of bits xs) (phase_of bits ys) (encoded width u) (encoded width v)))
      (difference_small words _ _ bound more (within words bits xs u width bound is) (within words bits ys v width more other));
  encrypts_multiple = λ bits xs u f width bound is.
      stands words bits (scaled_row (word_of f) xs) (f *ℤ u) width (unsigned_abs f * bound) (word_product (word_of f) (Gap bits xs u width))
      (fits-scaled (word_of f) bits xs is.fits)
      (rw (phases.phase_multiple bits (word_of f) xs is.fits, encoded-multiple words width f u) (multiple_gap (word_of f) (phase_of bits xs) (encoded width u) _ (mod-mod (word_of f * phase_of bits xs) (2 ^ 64))))
      (multiple_small words f _ bound (within words bits xs u width bound is));
  encrypts_sum_with_multiple = λ bits xs ys u v f width bound more is other.
      stands words bits (sum_with_scaled xs (word_of f) ys) (u +ℤ f *ℤ v) width (bound + unsigned_abs f * more) (word_sum (Gap bits xs u width) (word_product (word_of f) (Gap bits ys v width)))
      (fits-zip words.rows (λ x y. word_sum x (word_of f * y)) bits xs ys is.fits other.fits)
      (rw (phases.phase_sum_with_multiple bits (word_of f) xs ys is.fits other.fits, encoded-sum words width u (f *ℤ v), encoded-multiple words width f v)
      (sum_gap (phase_of bits xs) (word_of f * phase_of bits ys) (encoded width u) (word_product (word_of f) (encoded width v))
      ∙ ap (word_sum (Gap bits xs u width)) (multiple_gap (word_of f) (phase_of bits ys) (encoded width v) _ refl)))
      (sum_small words _ _ bound (unsigned_abs f * more) (within words bits xs u width bound is) (multiple_small words f _ more (within words bits ys v width more other)));
  encrypts_message = λ bits xs u v width bound is.
      stands words bits (with_message (length bits) xs (encoded width v)) (u +ℤ v) width bound (Gap bits xs u width)
      (length-set xs (length bits) _ ∙ is.fits)
      (rw (phase-message bits xs (encoded width v) is.fits, encoded-sum words width u v) (message_gap (phase_of bits xs) (encoded width u) (encoded width v)))
      (within words bits xs u width bound is);
  encrypts_moved = λ bits others xs ys v width bound more is fits near.
      stands words others ys v width (bound + more) (word_sum (Gap bits xs v width) (word_difference (phase_of others ys) (phase_of bits xs))) fits
      (moved_gap (phase_of others ys) (phase_of bits xs) (encoded width v))
      (sum_small words _ _ bound more (within words bits xs v width bound is) near);
}
