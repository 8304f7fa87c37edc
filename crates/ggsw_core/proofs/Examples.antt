-- The definitions at worked examples.
use Rattle.std.proofs.Common.{◌≡◌, ℕ, List, [], ◌∷◌, Bool, true, false, refl}
use Rattle.word_ring.specs.Rows.{row_difference}
use Rattle.negacyclic.specs.Product.{negacyclic_product, monomial, monomial_coefficient}
use Rattle.glwe_core.specs.Glwe.{glwe_phase, mask_sum}
use Rattle.ggsw_core.specs.Ggsw.{GgswRows, row_of, external_product, cmux_of}
use Rattle.ggsw_core.specs.Noise.{row_message}

-- the bit 1 without errors, for one mask polynomial of two words and one digit of four bits
one : GgswRows
one = record { base = 4; level = 1; rows = ((1152921504606846976 ∷ 0 ∷ []) ∷ (0 ∷ 0 ∷ []) ∷ []) ∷ ((0 ∷ 0 ∷ []) ∷ (1152921504606846976 ∷ 0 ∷ []) ∷ []) ∷ [] }

-- a product with it gives a ciphertext of multiples of 2^60 back
product_with_one : external_product one ((2305843009213693952 ∷ 0 ∷ []) ∷ (1152921504606846976 ∷ 4611686018427387904 ∷ []) ∷ []) ≡ (2305843009213693952 ∷ 0 ∷ []) ∷ (1152921504606846976 ∷ 4611686018427387904 ∷ []) ∷ []
unfolding one external_product negacyclic_product
product_with_one = refl

-- CMux with it gives the other ciphertext
cmux_with_one : cmux_of one ((5 ∷ 6 ∷ []) ∷ (7 ∷ 8 ∷ []) ∷ []) ((5 ∷ 1152921504606846982 ∷ []) ∷ (8070450532247928839 ∷ 8 ∷ []) ∷ []) ≡ (5 ∷ 1152921504606846982 ∷ []) ∷ (8070450532247928839 ∷ 8 ∷ []) ∷ []
unfolding one external_product negacyclic_product
cmux_with_one = refl

-- under the key 1 + X its rows are the messages of the bit 1, without an error
mask_row : row_difference (glwe_phase ((true ∷ true ∷ []) ∷ []) (row_of one 0 1)) (row_message 2 ((true ∷ true ∷ []) ∷ []) true 4 0 1) ≡ 0 ∷ 0 ∷ []
unfolding one glwe_phase mask_sum negacyclic_product monomial monomial_coefficient
mask_row = refl

body_row : row_difference (glwe_phase ((true ∷ true ∷ []) ∷ []) (row_of one 1 1)) (row_message 2 ((true ∷ true ∷ []) ∷ []) true 4 1 1) ≡ 0 ∷ 0 ∷ []
unfolding one glwe_phase mask_sum negacyclic_product monomial monomial_coefficient
body_row = refl
