-- Polynomials modulo X^N + 1: lists of N words, the coefficients from the constant one up.
use Rattle.std.specs.Prelude.{ℕ, ◌+◌, ◌-◌, ◌*◌, ◌%◌, ◌^◌, ◌==◌, List, map, length, nat_lt, slice_index, if◌then◌else◌}
use Rattle.std.specs.List.{range_with_len}
use Rattle.std.proofs.Common.{zero, suc}
use Rattle.word_ring.specs.Words.{word_difference, word_negation}

-- the sum of f over the numbers below n
abbrev pub sum_below : ℕ → (ℕ → ℕ) → ℕ
sum_below zero f = 0
sum_below (suc n) f = sum_below n f + f n

-- the sum over all pairs i + j = s of p_i * q_j, in ℕ
abbrev pub pair_sum : List ℕ → List ℕ → ℕ → ℕ
pair_sum p q s = sum_below (length p) (λ i.
    sum_below (length q) (λ j. if i + j == s then slice_index p i * slice_index q j else 0))

-- p times q: coefficient c is the sum over all i + j = c of p_i * q_j minus that over all i + j = c + N
unfoldable pub negacyclic_product : List ℕ → List ℕ → List ℕ
negacyclic_product p q =
    map (λ c. word_difference (pair_sum p q c) (pair_sum p q (c + length p))) (range_with_len 0 (length p))

-- coefficient c of X^by, of n coefficients: 1 at the place by modulo 2n, or -1 where that place is c + n
unfoldable pub monomial_coefficient : ℕ → ℕ → ℕ → ℕ
monomial_coefficient n by c = if by % (2 * n) == c then 1 else if by % (2 * n) == c + n then word_negation 1 else 0

-- X^by where X^n is -1, of n coefficients
unfoldable pub monomial : ℕ → ℕ → List ℕ
monomial n by = map (monomial_coefficient n by) (range_with_len 0 n)

-- X^by times p
unfoldable pub rotation : ℕ → List ℕ → List ℕ
rotation by p = negacyclic_product (monomial (length p) by) p

-- coefficient k of p at any k, where coefficient k + N is minus coefficient k
abbrev pub coefficient : List ℕ → ℕ → ℕ
coefficient p k =
    let place = k % (2 * length p) in
    if nat_lt place (length p) then slice_index p place % 2 ^ 64
    else word_negation (slice_index p (place - length p))
