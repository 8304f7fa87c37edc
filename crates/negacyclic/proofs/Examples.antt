-- The definitions at worked examples.
use Rattle.std.proofs.Common.{◌≡◌, [], ◌∷◌, refl}
use Rattle.negacyclic.specs.Product.{negacyclic_product, monomial, monomial_coefficient, rotation}

-- (1 + 2 X) (3 + 4 X) = 3 - 8 + 10 X
product_of_two : negacyclic_product (1 ∷ 2 ∷ []) (3 ∷ 4 ∷ []) ≡ 18446744073709551611 ∷ 10 ∷ []
unfolding negacyclic_product
product_of_two = refl

-- (1 + 2 X + 3 X^2 + 4 X^3) (5 + 6 X + 7 X^2 + 8 X^3) = 5 - 61 + (16 - 52) X + (34 - 32) X^2 + 60 X^3
product_of_four : negacyclic_product (1 ∷ 2 ∷ 3 ∷ 4 ∷ []) (5 ∷ 6 ∷ 7 ∷ 8 ∷ []) ≡ 18446744073709551560 ∷ 18446744073709551580 ∷ 2 ∷ 60 ∷ []
unfolding negacyclic_product
product_of_four = refl

-- X^3 (1 + 2 X) = 2 - X
rotation_by_three : rotation 3 (1 ∷ 2 ∷ []) ≡ 2 ∷ 18446744073709551615 ∷ []
unfolding negacyclic_product monomial monomial_coefficient rotation
rotation_by_three = refl
