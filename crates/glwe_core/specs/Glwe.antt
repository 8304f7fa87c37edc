-- GLWE ciphertexts: the list of their parts, k mask polynomials and the body last, each a list of N words.
use Rattle.std.specs.Prelude.{◌≡◌, ℕ, ◌+◌, ◌-◌, ◌≤◌, ◌==◌, Bool, List, [], ◌∷◌, ◌++◌, All, length, map, replicate, take, slice_index, slice_set, if◌then◌else◌}
use Rattle.std.specs.List.{zip, concat, flat_map, range_with_len, slice_index_or}
use Rattle.word_ring.specs.Words.{IsWord, word_negation}
use Rattle.word_ring.specs.Rows.{row_sum, row_difference, sum_of_rows, zip_rows, AllOfLength}
use Rattle.lwe_core.specs.Secret.{bit_words}
use Rattle.negacyclic.specs.Product.{negacyclic_product, rotation}

-- how many coefficients each part has
abbrev pub lengths_of : List (List ℕ) → List ℕ
lengths_of parts = map length parts

-- N, the number of coefficients of the first part
abbrev pub degree_of : List (List ℕ) → ℕ
degree_of parts = length (slice_index_or parts 0 [])

-- one to three mask polynomials and a body, of as many coefficients each, from 2 to 8192
pub record HasShape (parts : List (List ℕ)) : Type 0 where
  pub some : 2 ≤ length parts
  pub few : length parts ≤ 4
  pub least : 2 ≤ degree_of parts
  pub most : degree_of parts ≤ 8192
  pub lengths : AllOfLength (degree_of parts) parts

-- and all coefficients are words
pub record IsGlwe (parts : List (List ℕ)) : Type 0 where
  pub shape : HasShape parts
  pub words : All (All IsWord) parts

-- a key of a polynomial of n bits for each mask polynomial, and a ciphertext of n words a part
pub record FitsGlweKey (n : ℕ) (key : List (List Bool)) (parts : List (List ℕ)) : Type 0 where
  pub number : length parts ≡ length key + 1
  pub lengths : AllOfLength n parts
  pub bits : All (λ bits. length bits ≡ n) key

-- the bits that words which are 0 or 1 stand for
abbrev pub words_bits : List ℕ → List Bool
words_bits words = map (λ word. word == 1) words

-- the flat key: the coefficients of the key's polynomials in order
abbrev pub flat_key_of : List (List Bool) → List Bool
flat_key_of key = flat_map (λ bits. bits) key

-- a key of k polynomials of n bits each whose coefficients in order are these bits
pub record IsKeyFrom (k n : ℕ) (flat : List Bool) (key : List (List Bool)) : Type 0 where
  pub number : length key ≡ k
  pub lengths : All (λ bits. length bits ≡ n) key
  pub flat_bits : flat_key_of key ≡ flat

-- the body, behind as many mask polynomials as the key has polynomials
abbrev pub body_of : List (List Bool) → List (List ℕ) → List ℕ
body_of key parts = slice_index_or parts (length key) []

-- each mask polynomial times that of the key
abbrev pub mask_products : List (List Bool) → List (List ℕ) → List (List ℕ)
mask_products key parts = map (λ p. negacyclic_product p.1 (bit_words p.0)) (zip key parts)

-- the sum of A_j*S_j, in polynomials of n coefficients
unfoldable pub mask_sum : ℕ → List (List Bool) → List (List ℕ) → List ℕ
mask_sum n key parts = sum_of_rows n (mask_products key parts)

-- the phase: B minus the sum of A_j*S_j
unfoldable pub glwe_phase : List (List Bool) → List (List ℕ) → List ℕ
glwe_phase key parts = row_difference (body_of key parts) (mask_sum (degree_of parts) key parts)

-- p times each part, added part by part
abbrev pub plus_product : List (List ℕ) → List ℕ → List (List ℕ) → List (List ℕ)
plus_product into p parts = zip_rows row_sum into (map (negacyclic_product p) parts)

-- X^by times each part
abbrev pub rotated : ℕ → List (List ℕ) → List (List ℕ)
rotated by parts = map (rotation by) parts

-- k mask polynomials 0 and a body
abbrev pub trivial_glwe : ℕ → List ℕ → List (List ℕ)
trivial_glwe k body = replicate k (replicate (length body) 0) ++ body ∷ []

-- the ciphertext of a phase under the mask of these parts: only the body is new
abbrev pub sealed_glwe : List (List Bool) → List (List ℕ) → List ℕ → List (List ℕ)
sealed_glwe key parts phase = slice_set parts (length key) (row_sum phase (mask_sum (degree_of parts) key parts))

-- sample extraction of a mask polynomial: a_0, and then the others from the last down, with the other sign
unfoldable pub extracted_mask : List ℕ → List ℕ
extracted_mask a =
    let word : ℕ → ℕ = λ i. if i == 0 then slice_index a 0 else word_negation (slice_index a (length a - i)) in
    map word (range_with_len 0 (length a))

-- sample extraction: the extracted mask polynomials in order, and coefficient 0 of the body
unfoldable pub extracted : List (List ℕ) → List ℕ
extracted parts =
    let k = length parts - 1 in
    concat (map extracted_mask (take k parts)) ++ slice_index (slice_index_or parts k []) 0 ∷ []
