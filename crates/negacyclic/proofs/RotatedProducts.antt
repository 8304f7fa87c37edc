-- Rotations of sums and of products, and single coefficients of products.
use Rattle.std.proofs.Common.{replicate, ◌≡◌, ℕ, ◌+◌, ◌-◌, ◌*◌, ◌%◌, ◌^◌, ◌<◌, List, length, map, get_or, arith, ap, sym, refl, ◌∙◌}
use Rattle.std.proofs.Math.Nat.{mod-mod, mod-eq_of_lt}
use Rattle.std.proofs.Common.{mul_comm}
use Rattle.std.specs.List.{All}
use Rattle.std.proofs.lemmas.List.{length-replicate, ext_get_or, length-map, get_or-map}
use Rattle.word_ring.specs.Words.{IsWord, word_sum, word_difference, word_product, word_negation}
use Rattle.word_ring.specs.Rows.{row_sum, row_difference, scaled_row, IsAdditive, RowLaws}
use Rattle.negacyclic.specs.Product.{sum_below, negacyclic_product, monomial, rotation, coefficient}
use Rattle.negacyclic.proofs.Sums.{sum-same}
use Rattle.negacyclic.proofs.Signs.{minus_one, sign-same}
use Rattle.negacyclic.proofs.Polynomials as polynomials
use Rattle.negacyclic.proofs.Polynomials.{product_length, product_commutative, product_associative, zero_product}
use Rattle.negacyclic.proofs.Rotations.{negation_is, monomial_length, get_or-monomial, monomial_turned, rotation_length, rotation_none, rotation_moves, product_by_rotations}

pub rotation_is : (by : ℕ) (p : List ℕ) → rotation by p ≡ negacyclic_product (monomial (length p) by) p
unfolding rotation
rotation_is by p = refl

-- the same, the number of coefficients said apart
rotation_of : (n by : ℕ) (p : List ℕ) → length p ≡ n → rotation by p ≡ negacyclic_product (monomial n by) p
rotation_of n by p e = rotation_is by p ∙ ap (λ m. negacyclic_product (monomial m by) p) e

pub product_zero : (p : List ℕ) → negacyclic_product p (replicate (length p) 0) ≡ replicate (length p) 0
product_zero p = product_commutative p (replicate (length p) 0) (sym (length-replicate (length p) 0)) ∙ zero_product p

pub product_one : (p : List ℕ) → 0 < length p → All IsWord p → negacyclic_product p (monomial (length p) 0) ≡ p
product_one p pos fit =
    product_commutative p (monomial (length p) 0) (sym (monomial_length (length p) 0)) ∙ sym (rotation_is 0 p) ∙ rotation_none p pos fit

pub rotation_product : (by : ℕ) (p q : List ℕ) → length p ≡ length q → negacyclic_product (rotation by p) q ≡ rotation by (negacyclic_product p q)
rotation_product by p q e =
    ap (λ t. negacyclic_product t q) (rotation_is by p)
    ∙ product_associative (monomial (length p) by) p q (monomial_length (length p) by) e
    ∙ sym (rotation_of (length p) by (negacyclic_product p q) (product_length p q))

pub product_rotation : (by : ℕ) (p q : List ℕ) → length p ≡ length q → negacyclic_product p (rotation by q) ≡ rotation by (negacyclic_product p q)
product_rotation by p q e =
    product_commutative p (rotation by q) (e ∙ sym (rotation_length by q))
    ∙ rotation_product by q p (sym e)
    ∙ ap (rotation by) (product_commutative q p (sym e))

pub rotation_sum : RowLaws → (by : ℕ) (p q : List ℕ) → length p ≡ length q → rotation by (row_sum p q) ≡ row_sum (rotation by p) (rotation by q)
rotation_sum rows by p q e =
    let n : ℕ = length p in
    let power : List ℕ = monomial n by in
    rotation_of n by (row_sum p q) (rows.zip_length word_sum p q ∙ omega arith)
    ∙ polynomials.product_sum rows power p q (monomial_length n by) e
    ∙ ap (λ t. row_sum t (negacyclic_product power q)) (sym (rotation_is by p))
    ∙ ap (row_sum (rotation by p)) (sym (rotation_of n by q (sym e)))

pub rotation_difference : RowLaws → (by : ℕ) (p q : List ℕ) → length p ≡ length q → rotation by (row_difference p q) ≡ row_difference (rotation by p) (rotation by q)
rotation_difference rows by p q e =
    let n : ℕ = length p in
    let power : List ℕ = monomial n by in
    rotation_of n by (row_difference p q) (rows.zip_length word_difference p q ∙ omega arith)
    ∙ polynomials.product_difference rows power p q (monomial_length n by) e
    ∙ ap (λ t. row_difference t (negacyclic_product power q)) (sym (rotation_is by p))
    ∙ ap (row_difference (rotation by p)) (sym (rotation_of n by q (sym e)))

pub rotation_scaled : (by factor : ℕ) (p : List ℕ) → rotation by (scaled_row factor p) ≡ scaled_row factor (rotation by p)
rotation_scaled by factor p =
    let n : ℕ = length p in
    rotation_of n by (scaled_row factor p) (length-map p (λ x. word_product factor x))
    ∙ polynomials.product_scaled factor (monomial n by) p (monomial_length n by)
    ∙ ap (scaled_row factor) (sym (rotation_is by p))

pub rotation_zero : (by n : ℕ) → rotation by (replicate n 0) ≡ replicate n 0
rotation_zero by n =
    let power : List ℕ = monomial n by in
    let long : length power ≡ n = monomial_length n by in
    rotation_of n by (replicate n 0) (length-replicate n 0)
    ∙ ap (λ m. negacyclic_product power (replicate m 0)) (sym long)
    ∙ product_zero power
    ∙ ap (λ m. replicate m 0) long

-- only the exponent modulo 2n counts
monomial_residue : (n by : ℕ) → monomial n (by % (2 * n)) ≡ monomial n by
monomial_residue n by =
    ext_get_or 0 (monomial n (by % (2 * n))) (monomial n by) (monomial_length n (by % (2 * n)) ∙ sym (monomial_length n by))
    (λ c h.
    let inside : c < n = omega (arith, monomial_length n (by % (2 * n))) in
    get_or-monomial n (by % (2 * n)) c inside ∙ sign-same n (by % (2 * n)) by c (mod-mod by (2 * n)) ∙ sym (get_or-monomial n by c inside))

pub rotation_residue : (by : ℕ) (p : List ℕ) → rotation (by % (2 * length p)) p ≡ rotation by p
rotation_residue by p =
    rotation_is (by % (2 * length p)) p ∙ ap (λ m. negacyclic_product m p) (monomial_residue (length p) by) ∙ sym (rotation_is by p)

-- a negated row is a multiple by -1
negated_row : (p : List ℕ) → map word_negation p ≡ scaled_row minus_one p
negated_row p =
    ext_get_or 0 (map word_negation p) (scaled_row minus_one p) (length-map p word_negation ∙ sym (length-map p (λ x. word_product minus_one x)))
    (λ c h.
    let inside : c < length p = omega (arith, length-map p word_negation) in
    get_or-map word_negation p c 0 0 inside ∙ negation_is (get_or p c 0) ∙ sym (get_or-map (λ x. word_product minus_one x) p c 0 0 inside))

pub rotation_half : (by : ℕ) (p : List ℕ) → 0 < length p → rotation (by + length p) p ≡ map word_negation (rotation by p)
rotation_half by p pos =
    let n : ℕ = length p in
    rotation_is (by + n) p
    ∙ ap (λ m. negacyclic_product m p) (monomial_turned n by pos ∙ negated_row (monomial n by))
    ∙ polynomials.scaled_product minus_one (monomial n by) p (monomial_length n by)
    ∙ ap (scaled_row minus_one) (sym (rotation_is by p))
    ∙ sym (negated_row (rotation by p))

pub product_coefficient : (p q : List ℕ) (c : ℕ) → length p ≡ length q → c < length p → get_or (negacyclic_product p q) c 0 ≡ sum_below (length q) (λ j. coefficient p (c + (2 * length p - j)) * get_or q j 0) % 2 ^ 64
product_coefficient p q c e inside =
    let n : ℕ = length p in
    ap (λ t. get_or t c 0) (product_commutative p q e)
    ∙ product_by_rotations q p (sym e) c (omega arith)
    ∙ ap (λ t. t % 2 ^ 64)
    (sum-same (length q) (λ j. get_or q j 0 * get_or (rotation j p) c 0) (λ j. coefficient p (c + (2 * n - j)) * get_or q j 0)
    (λ j l.
    let small : j % (2 * n) ≡ j = mod-eq_of_lt (omega arith) in
    ap (λ t. get_or q j 0 * t) (rotation_moves j p c inside ∙ ap (λ t. coefficient p (c + (2 * n - t))) small)
    ∙ mul_comm (get_or q j 0) (coefficient p (c + (2 * n - j)))))

pub first_additive : RowLaws → (q : List ℕ) → IsAdditive (length q) (length q) (λ p. negacyclic_product p q)
first_additive rows q = record { keeps_zero = zero_product q; keeps_sums = λ xs ys e f. polynomials.sum_product rows xs ys q (e ∙ sym f) f }

pub second_additive : RowLaws → (p : List ℕ) → IsAdditive (length p) (length p) (negacyclic_product p)
second_additive rows p = record { keeps_zero = product_zero p; keeps_sums = λ xs ys e f. polynomials.product_sum rows p xs ys (sym e) (e ∙ sym f) }

pub rotation_additive : RowLaws → (by n : ℕ) → IsAdditive n n (rotation by)
rotation_additive rows by n = record { keeps_zero = rotation_zero by n; keeps_sums = λ xs ys e f. rotation_sum rows by xs ys (e ∙ sym f) }
