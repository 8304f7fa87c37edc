-- The definitions on worked ciphertexts of two coefficients.
use Rattle.std.proofs.Common.{◌≡◌, [], ◌∷◌, true, false, refl}
use Rattle.lwe_core.specs.Phase.{phase_of}
use Rattle.negacyclic.specs.Product.{negacyclic_product, monomial, monomial_coefficient, rotation}
use Rattle.glwe_core.specs.Glwe.{flat_key_of, mask_sum, glwe_phase, plus_product, rotated, trivial_glwe, sealed_glwe, extracted_mask, extracted}

-- 9 + X minus (5 + 7X) times X
phase_of_two_parts : glwe_phase ((false ∷ true ∷ []) ∷ []) ((5 ∷ 7 ∷ []) ∷ (9 ∷ 1 ∷ []) ∷ []) ≡ 16 ∷ 18446744073709551612 ∷ []
unfolding glwe_phase mask_sum negacyclic_product
phase_of_two_parts = refl

-- two mask polynomials: 4 minus (1 + 2X) times 1 and minus 3 times (1 + X)
phase_of_three_parts : glwe_phase ((true ∷ false ∷ []) ∷ (true ∷ true ∷ []) ∷ []) ((1 ∷ 2 ∷ []) ∷ (3 ∷ 0 ∷ []) ∷ (4 ∷ 0 ∷ []) ∷ []) ≡ 0 ∷ 18446744073709551611 ∷ []
unfolding glwe_phase mask_sum negacyclic_product
phase_of_three_parts = refl

extraction_of_two_parts : extracted ((5 ∷ 7 ∷ []) ∷ (9 ∷ 1 ∷ []) ∷ []) ≡ 5 ∷ 18446744073709551609 ∷ 9 ∷ []
unfolding extracted extracted_mask
extraction_of_two_parts = refl

-- its phase under the flat key is coefficient 0 of the phase above
phase_of_the_extraction : phase_of (flat_key_of ((false ∷ true ∷ []) ∷ [])) (extracted ((5 ∷ 7 ∷ []) ∷ (9 ∷ 1 ∷ []) ∷ [])) ≡ 16
unfolding extracted extracted_mask
phase_of_the_extraction = refl

-- X^3 is -X, where X^2 is -1
rotation_by_three : rotated 3 ((1 ∷ 2 ∷ []) ∷ (0 ∷ 1 ∷ []) ∷ []) ≡ (2 ∷ 18446744073709551615 ∷ []) ∷ (1 ∷ 0 ∷ []) ∷ []
unfolding rotation monomial monomial_coefficient negacyclic_product
rotation_by_three = refl

-- 1 + X times each part
product_is_added : plus_product ((1 ∷ 1 ∷ []) ∷ (0 ∷ 2 ∷ []) ∷ []) (1 ∷ 1 ∷ []) ((5 ∷ 7 ∷ []) ∷ (9 ∷ 1 ∷ []) ∷ []) ≡ (18446744073709551615 ∷ 13 ∷ []) ∷ (8 ∷ 12 ∷ []) ∷ []
unfolding negacyclic_product
product_is_added = refl

trivial_has_zeros : trivial_glwe 2 (9 ∷ 1 ∷ []) ≡ (0 ∷ 0 ∷ []) ∷ (0 ∷ 0 ∷ []) ∷ (9 ∷ 1 ∷ []) ∷ []
trivial_has_zeros = refl

-- sealed with 3: the mask's product is -7 + 5X
sealed_with_three : sealed_glwe ((false ∷ true ∷ []) ∷ []) ((5 ∷ 7 ∷ []) ∷ (9 ∷ 1 ∷ []) ∷ []) (3 ∷ 0 ∷ []) ≡ (5 ∷ 7 ∷ []) ∷ (18446744073709551612 ∷ 5 ∷ []) ∷ []
unfolding mask_sum negacyclic_product
sealed_with_three = refl
