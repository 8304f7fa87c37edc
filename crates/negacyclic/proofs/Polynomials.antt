-- The product of lists, from that of functions.
use Rattle.std.proofs.Common.{replicate, ◌≡◌, ◌≢◌, ⊎_elim, ℕ, ◌+◌, ◌*◌, ◌%◌, ◌^◌, ◌<◌, List, length, get_or, arith, ap, sym, refl, ◌∙◌, subst, cond, eqb, zero-add, one-mul, mul_comm, mul_assoc, mul-zero, zero-mul}
use Rattle.std.proofs.Math.Nat.{mod-mod, mod-eq_of_lt}
use Rattle.std.specs.List.{All}
use Rattle.std.proofs.lemmas.Nat.{mul-mod_second}
use Rattle.std.proofs.lemmas.List.{length-replicate, get_or-replicate, ext_get_or, length-map, get_or-map}
use Rattle.std.proofs.lemmas.List.FromFn.{length-map-range_with_len, get_or-map-range_with_len}
use Rattle.std.proofs.lemmas.Bool.{eq-eqb, ne_eqb, cond-true, cond-false, cases_eq}
use Rattle.word_ring.specs.Words.{IsWord, word_sum, word_difference, word_product}
use Rattle.word_ring.specs.Rows.{row_sum, row_difference, scaled_row, RowLaws}
use Rattle.negacyclic.specs.Product.{sum_below, pair_sum, negacyclic_product, monomial_coefficient}
use Rattle.negacyclic.proofs.Sums.{sum-zero, sum-same, sum-add, sum-scaled}
use Rattle.negacyclic.proofs.Signs.{minus_one, sign-here, sign-turned, sign-none}
use Rattle.negacyclic.proofs.Coefficients.{shift, product_at, product-congruent, product-comm, product-add, product-scaled, product-assoc}

-- the coefficients as a function
abbrev pub at : List ℕ → ℕ → ℕ
at p i = get_or p i 0

-- the sum over the pairs i + j = s
abbrev pairs : ℕ → ℕ → (ℕ → ℕ) → (ℕ → ℕ) → ℕ → ℕ
pairs n m p q s = sum_below n (λ i. sum_below m (λ j. cond (eqb (i + j) s) (p i * q j) 0))

-- a pair counts where its exponent comes to c
signed_pair : (n i j c x y : ℕ) → 0 < n → i < n → j < n → c < n → cond (eqb (i + j) c) (x * y) 0 + minus_one * cond (eqb (i + j) (c + n)) (x * y) 0 ≡ x * (monomial_coefficient n (i + j) c * y)
signed_pair n i j c x y pos p q inside =
    let small : (i + j) % (2 * n) ≡ i + j = mod-eq_of_lt (omega arith) in
    let known : (a b s : ℕ) → cond (eqb (i + j) c) (x * y) 0 ≡ a → cond (eqb (i + j) (c + n)) (x * y) 0 ≡ b → monomial_coefficient n (i + j) c ≡ s → a + minus_one * b ≡ x * (s * y) → cond (eqb (i + j) c) (x * y) 0 + minus_one * cond (eqb (i + j) (c + n)) (x * y) 0 ≡ x * (monomial_coefficient n (i + j) c * y) =
    λ a b s e f g h. ap (λ t. t + minus_one * cond (eqb (i + j) (c + n)) (x * y) 0) e ∙ ap (λ t. a + minus_one * t) f ∙ h ∙ ap (λ t. x * (t * y)) (sym g) in
    ⊎_elim
    (λ (e : i + j ≡ c).
    known (x * y) 0 1 (cond-true _ (x * y) 0 (eq-eqb _ _ e)) (cond-false _ (x * y) 0 (ne_eqb _ _ (λ f. absurd (omega arith)))) (sign-here n (i + j) c (small ∙ e)) (omega (arith, ap (λ t. x * t) (one-mul y))))
    (λ (d : i + j ≢ c).
    ⊎_elim
    (λ (e : i + j ≡ c + n).
    known 0 (x * y) minus_one (cond-false _ (x * y) 0 (ne_eqb _ _ d)) (cond-true _ (x * y) 0 (eq-eqb _ _ e)) (sign-turned n (i + j) c pos (small ∙ e))
    (zero-add (minus_one * (x * y)) ∙ sym (mul_assoc minus_one x y) ∙ ap (λ t. t * y) (mul_comm minus_one x) ∙ mul_assoc x minus_one y))
    (λ (e : i + j ≢ c + n).
    known 0 0 0 (cond-false _ (x * y) 0 (ne_eqb _ _ d)) (cond-false _ (x * y) 0 (ne_eqb _ _ e)) (sign-none n (i + j) c (λ f. d (sym small ∙ f)) (λ f. e (sym small ∙ f)))
    (sym (ap (λ t. x * t) (zero-mul y) ∙ mul-zero x)))
    (cases_eq (i + j) (c + n)))
    (cases_eq (i + j) c)

-- the two sums over pairs as one
signed_pairs : (n : ℕ) (p q : ℕ → ℕ) (c : ℕ) → c < n → pairs n n p q c + minus_one * pairs n n p q (c + n) ≡ product_at n p q c
signed_pairs n p q c inside =
    let front : ℕ → ℕ → ℕ = λ i j. cond (eqb (i + j) c) (p i * q j) 0 in
    let back : ℕ → ℕ → ℕ = λ i j. cond (eqb (i + j) (c + n)) (p i * q j) 0 in
    ap (λ t. pairs n n p q c + t) (sym (sum-scaled n minus_one (λ i. sum_below n (back i))))
    ∙ sym (sum-add n (λ i. sum_below n (front i)) (λ i. minus_one * sum_below n (back i)))
    ∙ sum-same n (λ i. sum_below n (front i) + minus_one * sum_below n (back i)) (λ i. p i * shift n i q c)
    (λ i k.
    ap (λ t. sum_below n (front i) + t) (sym (sum-scaled n minus_one (back i)))
    ∙ sym (sum-add n (front i) (λ j. minus_one * back i j))
    ∙ sum-same n (λ j. front i j + minus_one * back i j) (λ j. p i * (monomial_coefficient n (i + j) c * q j))
    (λ j l. signed_pair n i j c (p i) (q j) (omega arith) k l inside)
    ∙ sum-scaled n (p i) (λ j. monomial_coefficient n (i + j) c * q j))

difference_is : (a b : ℕ) → word_difference a b ≡ (a + minus_one * b) % 2 ^ 64
difference_is a b = omega arith

pub product_length : (p q : List ℕ) → length (negacyclic_product p q) ≡ length p
unfolding negacyclic_product
product_length p q = length-map-range_with_len (λ c. word_difference (pair_sum p q c) (pair_sum p q (c + length p))) 0 (length p)

-- a coefficient of a product
pub product_coefficient : (n : ℕ) (p q : List ℕ) (c : ℕ) → length p ≡ n → length q ≡ n → c < n → get_or (negacyclic_product p q) c 0 ≡ product_at n (at p) (at q) c % 2 ^ 64
unfolding negacyclic_product
product_coefficient n p q c e f inside =
    get_or-map-range_with_len (λ c. word_difference (pair_sum p q c) (pair_sum p q (c + length p))) 0 (length p) c c 0 (omega arith) (zero-add c)
    ∙ ap (λ m. word_difference (pairs m (length q) (at p) (at q) c) (pairs m (length q) (at p) (at q) (c + m))) e
    ∙ ap (λ m. word_difference (pairs n m (at p) (at q) c) (pairs n m (at p) (at q) (c + n))) f
    ∙ difference_is (pairs n n (at p) (at q) c) (pairs n n (at p) (at q) (c + n))
    ∙ ap (λ t. t % 2 ^ 64) (signed_pairs n (at p) (at q) c inside)

-- a list of the coefficients of a product
pub is_product : (n : ℕ) (xs p q : List ℕ) → length xs ≡ n → length p ≡ n → length q ≡ n → ((c : ℕ) → c < n → get_or xs c 0 ≡ product_at n (at p) (at q) c % 2 ^ 64) → xs ≡ negacyclic_product p q
is_product n xs p q long e f each =
    ext_get_or 0 xs (negacyclic_product p q) (long ∙ sym e ∙ sym (product_length p q))
    (λ c h. let inside : c < n = omega arith in each c inside ∙ sym (product_coefficient n p q c e f inside))

-- a product, modulo 2^64
pub product_residue : (n : ℕ) (p q : List ℕ) (c : ℕ) → length p ≡ n → length q ≡ n → c < n → get_or (negacyclic_product p q) c 0 % 2 ^ 64 ≡ product_at n (at p) (at q) c % 2 ^ 64
product_residue n p q c e f inside = ap (λ t. t % 2 ^ 64) (product_coefficient n p q c e f inside) ∙ mod-mod (product_at n (at p) (at q) c) (2 ^ 64)

pub product_words : (p q : List ℕ) → All IsWord (negacyclic_product p q)
unfolding negacyclic_product
product_words p q c d h =
    let inside : c < length p = omega (arith, product_length p q) in
    subst (λ w. w < 2 ^ 64) (sym (get_or-map-range_with_len (λ c. word_difference (pair_sum p q c) (pair_sum p q (c + length p))) 0 (length p) c c d inside (zero-add c))) (omega arith)

pub zero_product : (p : List ℕ) → negacyclic_product (replicate (length p) 0) p ≡ replicate (length p) 0
zero_product p =
    let n : ℕ = length p in
    let none : List ℕ = replicate n 0 in
    let long : length none ≡ n = length-replicate n 0 in
    sym
    (is_product n none none p long long refl
    (λ c inside.
    get_or-replicate n c 0 0 inside
    ∙ ap (λ t. t % 2 ^ 64)
    (sym (sum-zero n (λ i. at none i * shift n i (at p) c) (λ i l. ap (λ t. t * shift n i (at p) c) (get_or-replicate n i 0 0 l) ∙ zero-mul (shift n i (at p) c))))))

pub product_commutative : (p q : List ℕ) → length p ≡ length q → negacyclic_product p q ≡ negacyclic_product q p
product_commutative p q e =
    is_product (length q) (negacyclic_product p q) q p (product_length p q ∙ e) refl e
    (λ c inside. product_coefficient (length q) p q c e refl inside ∙ ap (λ t. t % 2 ^ 64) (product-comm (length q) (at p) (at q) c))

pub product_associative : (p q r : List ℕ) → length p ≡ length q → length q ≡ length r → negacyclic_product (negacyclic_product p q) r ≡ negacyclic_product p (negacyclic_product q r)
product_associative p q r e f =
    let n : ℕ = length r in
    let pq = negacyclic_product p q in
    let qr = negacyclic_product q r in
    is_product n (negacyclic_product pq r) p qr (product_length pq r ∙ product_length p q ∙ e ∙ f) (e ∙ f) (product_length q r ∙ f)
    (λ c inside.
    product_coefficient n pq r c (product_length p q ∙ e ∙ f) refl inside
    ∙ product-congruent n (at pq) (product_at n (at p) (at q)) (at r) (at r) c (λ k l. product_residue n p q k (e ∙ f) f l) (λ k l. refl)
    ∙ product-assoc n (at p) (at q) (at r) c (omega arith) inside
    ∙ sym (product-congruent n (at p) (at p) (at qr) (product_at n (at q) (at r)) c (λ k l. refl) (λ k l. product_residue n q r k f refl l)))

pub sum_product : RowLaws → (p q r : List ℕ) → length p ≡ length q → length q ≡ length r → negacyclic_product (row_sum p q) r ≡ row_sum (negacyclic_product p r) (negacyclic_product q r)
sum_product rows p q r e f =
    let n : ℕ = length r in
    let pr = negacyclic_product p r in
    let qr = negacyclic_product q r in
    let pr_long : length pr ≡ n = product_length p r ∙ e ∙ f in
    let qr_long : length qr ≡ n = product_length q r ∙ f in
    let long : length (row_sum p q) ≡ n = rows.zip_length word_sum p q ∙ omega arith in
    sym
    (is_product n (row_sum pr qr) (row_sum p q) r (rows.zip_length word_sum pr qr ∙ omega arith) long refl
    (λ c inside.
    let x : ℕ = product_at n (at p) (at r) c in
    let y : ℕ = product_at n (at q) (at r) c in
    rows.zip_word word_sum pr qr c (omega arith) (omega arith)
    ∙ ap (λ t. word_sum t (get_or qr c 0)) (product_coefficient n p r c (e ∙ f) refl inside)
    ∙ ap (λ t. word_sum (x % 2 ^ 64) t) (product_coefficient n q r c f refl inside)
    ∙ let join : word_sum (x % 2 ^ 64) (y % 2 ^ 64) ≡ (x + y) % 2 ^ 64 = omega arith in join
    ∙ ap (λ t. t % 2 ^ 64) (sym (product-add n (at p) (at q) (at r) c))
    ∙ product-congruent n (λ i. at p i + at q i) (at (row_sum p q)) (at r) (at r) c
    (λ k l. sym (ap (λ t. t % 2 ^ 64) (rows.zip_word word_sum p q k (omega arith) (omega arith)) ∙ mod-mod (at p k + at q k) (2 ^ 64))) (λ k l. refl)))

pub product_sum : RowLaws → (p q r : List ℕ) → length p ≡ length q → length q ≡ length r → negacyclic_product p (row_sum q r) ≡ row_sum (negacyclic_product p q) (negacyclic_product p r)
product_sum rows p q r e f =
    product_commutative p (row_sum q r) (sym (rows.zip_length word_sum q r ∙ omega arith))
    ∙ sum_product rows q r p f (sym (e ∙ f))
    ∙ ap (λ t. row_sum t (negacyclic_product r p)) (product_commutative q p (sym e))
    ∙ ap (λ t. row_sum (negacyclic_product p q) t) (product_commutative r p (sym (e ∙ f)))

get_or-scaled_row : (k : ℕ) (p : List ℕ) (c : ℕ) → c < length p → get_or (scaled_row k p) c 0 ≡ (k * get_or p c 0) % 2 ^ 64
get_or-scaled_row k p c h = get_or-map (λ x. word_product k x) p c 0 0 h

pub scaled_product : (factor : ℕ) (p q : List ℕ) → length p ≡ length q → negacyclic_product (scaled_row factor p) q ≡ scaled_row factor (negacyclic_product p q)
scaled_product k p q e =
    let n : ℕ = length q in
    let pq = negacyclic_product p q in
    let pq_long : length pq ≡ n = product_length p q ∙ e in
    let long : length (scaled_row k p) ≡ n = length-map p (λ x. word_product k x) ∙ e in
    sym
    (is_product n (scaled_row k pq) (scaled_row k p) q (length-map pq (λ x. word_product k x) ∙ pq_long) long refl
    (λ c inside.
    get_or-scaled_row k pq c (omega arith)
    ∙ ap (λ t. (k * t) % 2 ^ 64) (product_coefficient n p q c e refl inside)
    ∙ mul-mod_second k (product_at n (at p) (at q) c) (2 ^ 64)
    ∙ ap (λ t. t % 2 ^ 64) (sym (product-scaled n k (at p) (at q) c))
    ∙ product-congruent n (λ i. k * at p i) (at (scaled_row k p)) (at q) (at q) c
    (λ i l. sym (ap (λ t. t % 2 ^ 64) (get_or-scaled_row k p i (omega arith)) ∙ mod-mod (k * at p i) (2 ^ 64))) (λ i l. refl)))

pub product_scaled : (factor : ℕ) (p q : List ℕ) → length p ≡ length q → negacyclic_product p (scaled_row factor q) ≡ scaled_row factor (negacyclic_product p q)
product_scaled k p q e =
    product_commutative p (scaled_row k q) (e ∙ sym (length-map q (λ x. word_product k x)))
    ∙ scaled_product k q p (sym e)
    ∙ ap (scaled_row k) (product_commutative q p (sym e))

-- a difference is the sum with a multiple by -1
row_difference-is : RowLaws → (p q : List ℕ) → length p ≡ length q → row_difference p q ≡ row_sum p (scaled_row minus_one q)
row_difference-is rows p q e =
    let turned = scaled_row minus_one q in
    let long : length turned ≡ length q = length-map q (λ x. word_product minus_one x) in
    ext_get_or 0 (row_difference p q) (row_sum p turned)
    (rows.zip_length word_difference p q ∙ sym (rows.zip_length word_sum p turned ∙ omega arith) ∙ omega arith)
    (λ c h.
    let inside : c < length p = omega (arith, rows.zip_length word_difference p q) in
    rows.zip_word word_difference p q c inside (omega arith)
    ∙ let same : word_difference (get_or p c 0) (get_or q c 0) ≡ word_sum (get_or p c 0) ((minus_one * get_or q c 0) % 2 ^ 64) = omega arith in same
    ∙ ap (λ t. word_sum (get_or p c 0) t) (sym (get_or-scaled_row minus_one q c (omega arith)))
    ∙ sym (rows.zip_word word_sum p turned c inside (omega arith)))

pub difference_product : RowLaws → (p q r : List ℕ) → length p ≡ length q → length q ≡ length r → negacyclic_product (row_difference p q) r ≡ row_difference (negacyclic_product p r) (negacyclic_product q r)
difference_product rows p q r e f =
    let turned = scaled_row minus_one q in
    let long : length turned ≡ length q = length-map q (λ x. word_product minus_one x) in
    ap (λ t. negacyclic_product t r) (row_difference-is rows p q e)
    ∙ sum_product rows p turned r (e ∙ sym long) (long ∙ f)
    ∙ ap (λ t. row_sum (negacyclic_product p r) t) (scaled_product minus_one q r f)
    ∙ sym (row_difference-is rows (negacyclic_product p r) (negacyclic_product q r) (product_length p r ∙ e ∙ sym (product_length q r)))

pub product_difference : RowLaws → (p q r : List ℕ) → length p ≡ length q → length q ≡ length r → negacyclic_product p (row_difference q r) ≡ row_difference (negacyclic_product p q) (negacyclic_product p r)
product_difference rows p q r e f =
    product_commutative p (row_difference q r) (sym (rows.zip_length word_difference q r ∙ omega arith))
    ∙ difference_product rows q r p f (sym (e ∙ f))
    ∙ ap (λ t. row_difference t (negacyclic_product r p)) (product_commutative q p (sym e))
    ∙ ap (λ t. row_difference (negacyclic_product p q) t) (product_commutative r p (sym (e ∙ f)))
