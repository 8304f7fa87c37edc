-- Products of polynomials that are not reduced.
use Rattle.std.specs.Prelude.{ℕ, ◌+◌, ◌%◌, ◌^◌, List, map, length}
use Rattle.std.specs.List.{range_with_len}
use Rattle.word_ring.specs.Rows.{row_sum, row_difference}
use Rattle.negacyclic.specs.Product.{pair_sum}

-- p times q with no reduction: coefficient s is the sum over all i + j = s; the last of them is 0
unfoldable pub full_product : List ℕ → List ℕ → List ℕ
full_product p q = map (λ s. pair_sum p q s % 2 ^ 64) (range_with_len 0 (length p + length q))

-- the second quarter of a product, by the quarters of the products of the first and of the second halves one after
-- the other, and the first half of the product of the halves' sums
abbrev pub second_quarter : List ℕ → List ℕ → List ℕ → List ℕ → List ℕ
second_quarter first second third mid = row_difference (row_sum (row_difference second third) mid) first

-- and the third, by the second half of it
abbrev pub third_quarter : List ℕ → List ℕ → List ℕ → List ℕ → List ℕ
third_quarter second third fourth mid = row_difference (row_difference mid (row_difference second third)) fourth
