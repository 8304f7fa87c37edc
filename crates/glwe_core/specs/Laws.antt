-- The laws of GLWE ciphertexts under a key, as facts of the definitions alone.
use Rattle.std.specs.Prelude.{◌≡◌, ℕ, ◌+◌, ◌*◌, ◌<◌, ◌≤◌, Bool, List, All, length, map, replicate, slice_index}
use Rattle.std.specs.List.{concat}
use Rattle.word_ring.specs.Words.{IsWord}
use Rattle.word_ring.specs.Rows.{row_sum, row_difference, scaled_row, sum_with_scaled, zip_rows, RowWithin}
use Rattle.lwe_core.specs.Secret.{ones_of}
use Rattle.lwe_core.specs.Phase.{FitsKey, phase_of}
use Rattle.negacyclic.specs.Product.{negacyclic_product, rotation}
use Rattle.glwe_core.specs.Glwe.{lengths_of, FitsGlweKey, flat_key_of, glwe_phase, plus_product, rotated, trivial_glwe, sealed_glwe, extracted}

-- what fits a key
pub record GlweShapeLaws : Type 0 where
  -- it is a matter of the parts' lengths alone
  pub fits_lengths : (n : ℕ) (key : List (List Bool)) (xs ys : List (List ℕ)) → FitsGlweKey n key xs
      → lengths_of ys ≡ lengths_of xs → FitsGlweKey n key ys
  -- a sum has the lengths of its terms
  pub sum_lengths : (xs ys : List (List ℕ)) → lengths_of ys ≡ lengths_of xs
      → lengths_of (zip_rows row_sum xs ys) ≡ lengths_of xs
  -- so has a difference
  pub difference_lengths : (xs ys : List (List ℕ)) → lengths_of ys ≡ lengths_of xs
      → lengths_of (zip_rows row_difference xs ys) ≡ lengths_of xs
  -- a product, where the factor is as long
  pub product_lengths : (n : ℕ) (p : List ℕ) (key : List (List Bool)) (xs : List (List ℕ)) → length p ≡ n
      → FitsGlweKey n key xs → lengths_of (map (negacyclic_product p) xs) ≡ lengths_of xs
  -- and a rotation
  pub rotated_lengths : (by : ℕ) (xs : List (List ℕ)) → lengths_of (rotated by xs) ≡ lengths_of xs
  -- two ciphertexts of the same lengths are the same where their words are
  pub words_determine : (xs ys : List (List ℕ)) → lengths_of ys ≡ lengths_of xs → concat ys ≡ concat xs → ys ≡ xs

-- the phase is linear over the polynomials
pub record GlwePhaseLaws : Type 0 where
  -- it has n coefficients
  pub phase_length : (n : ℕ) (key : List (List Bool)) (xs : List (List ℕ)) → FitsGlweKey n key xs
      → length (glwe_phase key xs) ≡ n
  -- each of them is a word
  pub phase_words : (key : List (List Bool)) (xs : List (List ℕ)) → All IsWord (glwe_phase key xs)
  -- the phase of a sum is the sum of the phases
  pub phase_sum : (n : ℕ) (key : List (List Bool)) (xs ys : List (List ℕ))
      → FitsGlweKey n key xs → FitsGlweKey n key ys
      → glwe_phase key (zip_rows row_sum xs ys) ≡ row_sum (glwe_phase key xs) (glwe_phase key ys)
  -- that of a difference their difference
  pub phase_difference : (n : ℕ) (key : List (List Bool)) (xs ys : List (List ℕ))
      → FitsGlweKey n key xs → FitsGlweKey n key ys
      → glwe_phase key (zip_rows row_difference xs ys) ≡ row_difference (glwe_phase key xs) (glwe_phase key ys)
  -- that of a multiple the multiple
  pub phase_multiple : (n factor : ℕ) (key : List (List Bool)) (xs : List (List ℕ)) → FitsGlweKey n key xs
      → glwe_phase key (map (scaled_row factor) xs) ≡ scaled_row factor (glwe_phase key xs)
  -- and so that of a sum with a multiple
  pub phase_sum_with_multiple : (n factor : ℕ) (key : List (List Bool)) (xs ys : List (List ℕ))
      → FitsGlweKey n key xs → FitsGlweKey n key ys
      → glwe_phase key (zip_rows (λ x y. sum_with_scaled x factor y) xs ys)
      ≡ sum_with_scaled (glwe_phase key xs) factor (glwe_phase key ys)
  -- that of a product with a polynomial is the product
  pub phase_product : (n : ℕ) (p : List ℕ) (key : List (List Bool)) (xs : List (List ℕ))
      → length p ≡ n → FitsGlweKey n key xs
      → glwe_phase key (map (negacyclic_product p) xs) ≡ negacyclic_product p (glwe_phase key xs)
  -- so adding p times a ciphertext adds p times its phase
  pub phase_plus_product : (n : ℕ) (p : List ℕ) (key : List (List Bool)) (xs ys : List (List ℕ))
      → length p ≡ n → FitsGlweKey n key xs → FitsGlweKey n key ys
      → glwe_phase key (plus_product xs p ys) ≡ row_sum (glwe_phase key xs) (negacyclic_product p (glwe_phase key ys))
  -- a rotation of the parts is one of the phase
  pub phase_rotated : (n by : ℕ) (key : List (List Bool)) (xs : List (List ℕ)) → FitsGlweKey n key xs
      → glwe_phase key (rotated by xs) ≡ rotation by (glwe_phase key xs)
  -- without a mask every key reads the body
  pub phase_trivial : (key : List (List Bool)) (body : List ℕ) → All (λ bits. length bits ≡ length body) key
      → All IsWord body → glwe_phase key (trivial_glwe (length key) body) ≡ body
  -- so the ciphertext of zeros has phase 0
  pub phase_zero : (n : ℕ) (key : List (List Bool)) → All (λ bits. length bits ≡ n) key
      → glwe_phase key (replicate (length key + 1) (replicate n 0)) ≡ replicate n 0
  -- a sealed ciphertext has the phase that it was sealed with
  pub phase_sealed : (n : ℕ) (key : List (List Bool)) (xs : List (List ℕ)) (phase : List ℕ)
      → FitsGlweKey n key xs → length phase ≡ n → All IsWord phase
      → glwe_phase key (sealed_glwe key xs phase) ≡ phase

-- how large a phase is where all words of the ciphertext are small
pub record GlweSizeLaws : Type 0 where
  -- each one of the key adds the bound once, and the body once more
  pub phase_size : (n bound : ℕ) (key : List (List Bool)) (xs : List (List ℕ))
      → FitsGlweKey n key xs → All (RowWithin bound) xs
      → RowWithin ((1 + ones_of (flat_key_of key)) * bound) (glwe_phase key xs)

-- sample extraction
pub record ExtractionLaws : Type 0 where
  -- it gives a ciphertext of the flat key's dimension
  pub extracted_fits : (n : ℕ) (key : List (List Bool)) (xs : List (List ℕ)) → FitsGlweKey n key xs
      → FitsKey (flat_key_of key) (extracted xs)
  -- whose phase under the flat key is coefficient 0 of the phase
  pub phase_extracted : (n : ℕ) (key : List (List Bool)) (xs : List (List ℕ)) → 0 < n → FitsGlweKey n key xs
      → phase_of (flat_key_of key) (extracted xs) ≡ slice_index (glwe_phase key xs) 0
