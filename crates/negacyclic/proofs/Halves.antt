-- A product that is not reduced, from three of the halves.
use Rattle.std.proofs.Common.{◌≡◌, ⊎_elim, ℕ, ◌+◌, ◌-◌, ◌*◌, ◌%◌, ◌^◌, ◌<◌, ◌≤◌, List, ◌++◌, take, drop, length, get_or, arith, ap, sym, ◌∙◌, zero-add, cond, eqb}
use Rattle.std.proofs.Math.Nat.{mod-mod}
use Rattle.std.proofs.lemmas.List.{ext_get_or, length-append, length-take, length-drop, get_or_append_left, get_or-append_right, get_or-take, get_or-drop}
use Rattle.std.proofs.lemmas.List.FromFn.{length-map-range_with_len, get_or-map-range_with_len}
use Rattle.std.proofs.lemmas.Bool.{cases_lt}
use Rattle.word_ring.specs.Words.{word_sum, word_difference}
use Rattle.word_ring.specs.Rows.{row_sum, row_difference, RowLaws}
use Rattle.negacyclic.specs.Product.{sum_below, pair_sum, negacyclic_product}
use Rattle.negacyclic.specs.FullProduct.{full_product, second_quarter, third_quarter}
use Rattle.negacyclic.proofs.Polynomials.{at, product_length}
use Rattle.negacyclic.proofs.Joins.{OneLength, get_or-second_quarter, get_or-third_quarter, second_length, third_length}
use Rattle.negacyclic.proofs.Pairs.{pairs, later, later-none, later-on, pairs-none, in_halves, pairs_of_sums, pairs-congruent}

pub full_length : (n : ℕ) (p q : List ℕ) → length p ≡ n → length q ≡ n → length (full_product p q) ≡ n + n
unfolding full_product
full_length n p q e f = length-map-range_with_len (λ s. pair_sum p q s % 2 ^ 64) 0 (length p + length q) ∙ omega arith

pair_sum-is : (n : ℕ) (p q : List ℕ) (s : ℕ) → length p ≡ n → length q ≡ n → pair_sum p q s ≡ pairs n (at p) (at q) s
pair_sum-is n p q s e f =
    ap (λ m. sum_below m (λ i. sum_below (length q) (λ j. cond (eqb (i + j) s) (at p i * at q j) 0))) e
    ∙ ap (λ m. sum_below n (λ i. sum_below m (λ j. cond (eqb (i + j) s) (at p i * at q j) 0))) f

-- a coefficient
pub full_at : (n : ℕ) (p q : List ℕ) (s : ℕ) → length p ≡ n → length q ≡ n → s < n + n → get_or (full_product p q) s 0 ≡ pairs n (at p) (at q) s % 2 ^ 64
unfolding full_product
full_at n p q s e f inside =
    get_or-map-range_with_len (λ s. pair_sum p q s % 2 ^ 64) 0 (length p + length q) s s 0 (omega arith) (zero-add s)
    ∙ ap (λ t. t % 2 ^ 64) (pair_sum-is n p q s e f)

-- a list of the coefficients
pub is_full : (n : ℕ) (xs p q : List ℕ) → length xs ≡ n + n → length p ≡ n → length q ≡ n → ((s : ℕ) → s < n + n → get_or xs s 0 ≡ pairs n (at p) (at q) s % 2 ^ 64) → xs ≡ full_product p q
is_full n xs p q long e f each =
    ext_get_or 0 xs (full_product p q) (long ∙ sym (full_length n p q e f))
    (λ s h. let inside : s < n + n = omega arith in each s inside ∙ sym (full_at n p q s e f inside))

-- the product of the first halves, of the second halves and of their sums
pub record ThreeProducts (h : ℕ) (a b low high mid : List ℕ) : Type 0 where
  pub first : low ≡ full_product (take h a) (take h b)
  pub second : high ≡ full_product (drop h a) (drop h b)
  pub sums : mid ≡ full_product (row_sum (take h a) (drop h a)) (row_sum (take h b) (drop h b))

-- the quarters of a product of functions, by halves
record Quarters (h : ℕ) (p q : ℕ → ℕ) (k : ℕ) : Type 0 where
  pub one : pairs (h + h) p q k ≡ pairs h p q k
  pub two : pairs (h + h) p q (h + k) ≡ pairs h p q (h + k) + (pairs h p (λ j. q (h + j)) k + pairs h (λ i. p (h + i)) q k)
  pub three : pairs (h + h) p q (h + h + k) ≡ (pairs h p (λ j. q (h + j)) (h + k) + pairs h (λ i. p (h + i)) q (h + k)) + pairs h (λ i. p (h + i)) (λ j. q (h + j)) k
  pub four : pairs (h + h) p q (h + h + (h + k)) ≡ pairs h (λ i. p (h + i)) (λ j. q (h + j)) (h + k)

quarters : (h : ℕ) (p q : ℕ → ℕ) (k : ℕ) → k < h → Quarters h p q k
quarters h p q k inside =
    let u : ℕ → ℕ = λ i. p (h + i) in
    let v : ℕ → ℕ = λ j. q (h + j) in
    let z1 : later h h p v k ≡ 0 = later-none h h p v k inside in
    let z2 : later h h u q k ≡ 0 = later-none h h u q k inside in
    let z3 : later (h + h) h u v k ≡ 0 = later-none (h + h) h u v k (omega arith) in
    let z4 : later (h + h) h u v (h + k) ≡ 0 = later-none (h + h) h u v (h + k) (omega arith) in
    let place2 : h + h + k ≡ h + (h + k) = omega arith in
    let place3 : h + h + (h + k) ≡ h + (h + h + k) = omega arith in
    let n2 : pairs h p q (h + h + k) ≡ 0 = pairs-none h p q (h + h + k) (omega arith) in
    let n3 : pairs h p q (h + h + (h + k)) ≡ 0 = pairs-none h p q (h + h + (h + k)) (omega arith) in
    let o1 : later h h p v (h + k) ≡ pairs h p v k = later-on h h p v k in
    let o2 : later h h u q (h + k) ≡ pairs h u q k = later-on h h u q k in
    let o3 : later h h p v (h + h + k) ≡ pairs h p v (h + k) = ap (later h h p v) place2 ∙ later-on h h p v (h + k) in
    let o4 : later h h u q (h + h + k) ≡ pairs h u q (h + k) = ap (later h h u q) place2 ∙ later-on h h u q (h + k) in
    let o5 : later h h p v (h + h + (h + k)) ≡ 0 = ap (later h h p v) place3 ∙ later-on h h p v (h + h + k) ∙ pairs-none h p v (h + h + k) (omega arith) in
    let o6 : later h h u q (h + h + (h + k)) ≡ 0 = ap (later h h u q) place3 ∙ later-on h h u q (h + h + k) ∙ pairs-none h u q (h + h + k) (omega arith) in
    let l1 : later (h + h) h u v (h + h + k) ≡ pairs h u v k = later-on (h + h) h u v k in
    let l2 : later (h + h) h u v (h + h + (h + k)) ≡ pairs h u v (h + k) = later-on (h + h) h u v (h + k) in
    let w0 : pairs (h + h) p q k ≡ pairs h p q k + (later h h p v k + later h h u q k) + later (h + h) h u v k = in_halves h p q k in
    let w1 : pairs (h + h) p q (h + k) ≡ pairs h p q (h + k) + (later h h p v (h + k) + later h h u q (h + k)) + later (h + h) h u v (h + k) = in_halves h p q (h + k) in
    let w2 : pairs (h + h) p q (h + h + k) ≡ pairs h p q (h + h + k) + (later h h p v (h + h + k) + later h h u q (h + h + k)) + later (h + h) h u v (h + h + k) = in_halves h p q (h + h + k) in
    let w3 : pairs (h + h) p q (h + h + (h + k)) ≡ pairs h p q (h + h + (h + k)) + (later h h p v (h + h + (h + k)) + later h h u q (h + h + (h + k))) + later (h + h) h u v (h + h + (h + k)) = in_halves h p q (h + h + (h + k)) in
    record { one = omega (arith, w0, z1, z2, z3); two = omega (arith, w1, o1, o2, z4); three = omega (arith, w2, n2, o3, o4, l1); four = omega (arith, w3, n3, o5, o6, l2) }

-- a word of the second quarter, of x before it, c in the middle and l and r at the ends
second_word : (x l c r w first second mid : ℕ) → second ≡ x % 2 ^ 64 → w ≡ r % 2 ^ 64 → mid ≡ (l + c + r) % 2 ^ 64 → first ≡ l % 2 ^ 64 → word_difference (word_sum (word_difference second w) mid) first ≡ (x + c) % 2 ^ 64
second_word x l c r w first second mid e f g i = omega arith

-- and one of the third
third_word : (x c y r w second fourth mid : ℕ) → second ≡ x % 2 ^ 64 → w ≡ r % 2 ^ 64 → mid ≡ (x + c + y) % 2 ^ 64 → fourth ≡ y % 2 ^ 64 → word_difference (word_difference mid (word_difference second w)) fourth ≡ (c + r) % 2 ^ 64
third_word x c y r w second fourth mid e f g i = omega arith

-- the three products at their places
record PlacesOf (h : ℕ) (p q : ℕ → ℕ) (low high mid : List ℕ) (s : ℕ) : Type 0 where
  pub low_at : get_or low s 0 ≡ pairs h p q s % 2 ^ 64
  pub high_at : get_or high s 0 ≡ pairs h (λ i. p (h + i)) (λ j. q (h + j)) s % 2 ^ 64
  pub mid_at : get_or mid s 0 ≡ (pairs h p q s + (pairs h p (λ j. q (h + j)) s + pairs h (λ i. p (h + i)) q s) + pairs h (λ i. p (h + i)) (λ j. q (h + j)) s) % 2 ^ 64

places_of : RowLaws → (h : ℕ) (a b low high mid : List ℕ) (s : ℕ) → length a ≡ h + h → length b ≡ h + h → ThreeProducts h a b low high mid → s < h + h → PlacesOf h (at a) (at b) low high mid s
places_of rows h a b low high mid s e f three inside =
    let p : ℕ → ℕ = at a in
    let q : ℕ → ℕ = at b in
    let u : ℕ → ℕ = λ i. p (h + i) in
    let v : ℕ → ℕ = λ j. q (h + j) in
    let a0 : List ℕ = take h a in
    let a1 : List ℕ = drop h a in
    let b0 : List ℕ = take h b in
    let b1 : List ℕ = drop h b in
    let a0_long : length a0 ≡ h = length-take h a ∙ omega arith in
    let a1_long : length a1 ≡ h = length-drop h a ∙ omega arith in
    let b0_long : length b0 ≡ h = length-take h b ∙ omega arith in
    let b1_long : length b1 ≡ h = length-drop h b ∙ omega arith in
    let sa_long : length (row_sum a0 a1) ≡ h = rows.zip_length word_sum a0 a1 ∙ omega arith in
    let sb_long : length (row_sum b0 b1) ≡ h = rows.zip_length word_sum b0 b1 ∙ omega arith in
    let a0_at : (i : ℕ) → i < h → at a0 i ≡ p i = λ i l. get_or-take h a i 0 l in
    let a1_at : (i : ℕ) → i < h → at a1 i ≡ u i = λ i l. get_or-drop h a i 0 in
    let b0_at : (i : ℕ) → i < h → at b0 i ≡ q i = λ i l. get_or-take h b i 0 l in
    let b1_at : (i : ℕ) → i < h → at b1 i ≡ v i = λ i l. get_or-drop h b i 0 in
    let sa_at : (i : ℕ) → i < h → at (row_sum a0 a1) i % 2 ^ 64 ≡ (p i + u i) % 2 ^ 64 = λ i l.
    ap (λ t. t % 2 ^ 64) (rows.zip_word word_sum a0 a1 i (omega arith) (omega arith)) ∙ mod-mod (at a0 i + at a1 i) (2 ^ 64) ∙ ap (λ t. (t + at a1 i) % 2 ^ 64) (a0_at i l) ∙ ap (λ t. (p i + t) % 2 ^ 64) (a1_at i l) in
    let sb_at : (i : ℕ) → i < h → at (row_sum b0 b1) i % 2 ^ 64 ≡ (q i + v i) % 2 ^ 64 = λ i l.
    ap (λ t. t % 2 ^ 64) (rows.zip_word word_sum b0 b1 i (omega arith) (omega arith)) ∙ mod-mod (at b0 i + at b1 i) (2 ^ 64) ∙ ap (λ t. (t + at b1 i) % 2 ^ 64) (b0_at i l) ∙ ap (λ t. (q i + t) % 2 ^ 64) (b1_at i l) in
    record {
      low_at =
          ap (λ t. get_or t s 0) three.first ∙ full_at h a0 b0 s a0_long b0_long inside
          ∙ pairs-congruent h (at a0) p (at b0) q s (λ i l. ap (λ t. t % 2 ^ 64) (a0_at i l)) (λ i l. ap (λ t. t % 2 ^ 64) (b0_at i l));
      high_at =
          ap (λ t. get_or t s 0) three.second ∙ full_at h a1 b1 s a1_long b1_long inside
          ∙ pairs-congruent h (at a1) u (at b1) v s (λ i l. ap (λ t. t % 2 ^ 64) (a1_at i l)) (λ i l. ap (λ t. t % 2 ^ 64) (b1_at i l));
      mid_at =
          ap (λ t. get_or t s 0) three.sums ∙ full_at h (row_sum a0 a1) (row_sum b0 b1) s sa_long sb_long inside
          ∙ pairs-congruent h (at (row_sum a0 a1)) (λ i. p i + u i) (at (row_sum b0 b1)) (λ j. q j + v j) s sa_at sb_at
          ∙ ap (λ t. t % 2 ^ 64) (pairs_of_sums h p u q v s);
    }

-- two rows end to end, place by place
end_to_end : (h m : ℕ) (xs ys : List ℕ) (g : ℕ → ℕ) → length xs ≡ h → ((k : ℕ) → k < h → get_or xs k 0 ≡ g k) → ((k : ℕ) → k < m → get_or ys k 0 ≡ g (h + k)) → (s : ℕ) → s < h + m → get_or (xs ++ ys) s 0 ≡ g s
end_to_end h m xs ys g long front back s inside =
    ⊎_elim
    (λ (l : s < h). get_or_append_left xs ys 0 s (omega arith) ∙ front s l)
    (λ (r : h ≤ s).
    let place : h + (s - h) ≡ s = omega arith in
    get_or-append_right xs ys h s 0 long r ∙ back (s - h) (omega arith) ∙ ap g place)
    (cases_lt s h)

-- the quarters that are put together are the product
pub put_together : RowLaws → (h : ℕ) (a b low high mid : List ℕ) → length a ≡ h + h → length b ≡ h + h → ThreeProducts h a b low high mid → (take h low ++ second_quarter (take h low) (drop h low) (take h high) (take h mid)) ++ (third_quarter (drop h low) (take h high) (drop h high) (drop h mid) ++ drop h high) ≡ full_product a b
put_together rows h a b low high mid e f three =
    let p : ℕ → ℕ = at a in
    let q : ℕ → ℕ = at b in
    let u : ℕ → ℕ = λ i. p (h + i) in
    let v : ℕ → ℕ = λ j. q (h + j) in
    let g : ℕ → ℕ = λ s. pairs (h + h) p q s % 2 ^ 64 in
    let low_long : length low ≡ h + h = ap length three.first ∙ full_length h (take h a) (take h b) (length-take h a ∙ omega arith) (length-take h b ∙ omega arith) in
    let high_long : length high ≡ h + h = ap length three.second ∙ full_length h (drop h a) (drop h b) (length-drop h a ∙ omega arith) (length-drop h b ∙ omega arith) in
    let a_sum : List ℕ = row_sum (take h a) (drop h a) in
    let b_sum : List ℕ = row_sum (take h b) (drop h b) in
    let a_long : length a_sum ≡ h = rows.zip_length word_sum (take h a) (drop h a) ∙ omega (arith, length-take h a, length-drop h a) in
    let b_long : length b_sum ≡ h = rows.zip_length word_sum (take h b) (drop h b) ∙ omega (arith, length-take h b, length-drop h b) in
    let mid_long : length mid ≡ h + h = ap length three.sums ∙ full_length h a_sum b_sum a_long b_long in
    let first : List ℕ = take h low in
    let second : List ℕ = drop h low in
    let third : List ℕ = take h high in
    let fourth : List ℕ = drop h high in
    let front : List ℕ = take h mid in
    let back : List ℕ = drop h mid in
    let first_long : length first ≡ h = length-take h low ∙ omega arith in
    let second_long : length second ≡ h = length-drop h low ∙ omega arith in
    let third_long : length third ≡ h = length-take h high ∙ omega arith in
    let fourth_long : length fourth ≡ h = length-drop h high ∙ omega arith in
    let front_long : length front ≡ h = length-take h mid ∙ omega arith in
    let back_long : length back ≡ h = length-drop h mid ∙ omega arith in
    let two : OneLength h first second third front = record { first = first_long; second = second_long; third = third_long; fourth = front_long } in
    let three_of : OneLength h second third fourth back = record { first = second_long; second = third_long; third = fourth_long; fourth = back_long } in
    let there : (s : ℕ) → s < h + h → PlacesOf h p q low high mid s = λ s l. places_of rows h a b low high mid s e f three l in
    let first_at : (k : ℕ) → k < h → get_or first k 0 ≡ pairs h p q k % 2 ^ 64 = λ k l. get_or-take h low k 0 l ∙ (there k (omega arith)).low_at in
    let second_at : (k : ℕ) → k < h → get_or second k 0 ≡ pairs h p q (h + k) % 2 ^ 64 = λ k l. get_or-drop h low k 0 ∙ (there (h + k) (omega arith)).low_at in
    let third_at : (k : ℕ) → k < h → get_or third k 0 ≡ pairs h u v k % 2 ^ 64 = λ k l. get_or-take h high k 0 l ∙ (there k (omega arith)).high_at in
    let fourth_at : (k : ℕ) → k < h → get_or fourth k 0 ≡ pairs h u v (h + k) % 2 ^ 64 = λ k l. get_or-drop h high k 0 ∙ (there (h + k) (omega arith)).high_at in
    let front_half : (s : ℕ) → s < h + h → get_or (first ++ second_quarter first second third front) s 0 ≡ g s =
    end_to_end h h first (second_quarter first second third front) g first_long
    (λ k l. first_at k l ∙ ap (λ t. t % 2 ^ 64) (sym (quarters h p q k l).one))
    (λ k l.
    get_or-second_quarter rows h first second third front k two l
    ∙ second_word (pairs h p q (h + k)) (pairs h p q k) (pairs h p v k + pairs h u q k) (pairs h u v k) (get_or third k 0) (get_or first k 0) (get_or second k 0) (get_or front k 0)
    (second_at k l) (third_at k l) (get_or-take h mid k 0 l ∙ (there k (omega arith)).mid_at) (first_at k l)
    ∙ ap (λ t. t % 2 ^ 64) (sym (quarters h p q k l).two)) in
    let back_half : (s : ℕ) → s < h + h → get_or (third_quarter second third fourth back ++ fourth) s 0 ≡ g (h + h + s) =
    end_to_end h h (third_quarter second third fourth back) fourth (λ s. g (h + h + s)) (third_length rows h second third fourth back three_of)
    (λ k l.
    get_or-third_quarter rows h second third fourth back k three_of l
    ∙ third_word (pairs h p q (h + k)) (pairs h p v (h + k) + pairs h u q (h + k)) (pairs h u v (h + k)) (pairs h u v k) (get_or third k 0) (get_or second k 0) (get_or fourth k 0) (get_or back k 0)
    (second_at k l) (third_at k l) (get_or-drop h mid k 0 ∙ (there (h + k) (omega arith)).mid_at) (fourth_at k l)
    ∙ ap (λ t. t % 2 ^ 64) (sym (quarters h p q k l).three))
    (λ k l. fourth_at k l ∙ ap (λ t. t % 2 ^ 64) (sym (quarters h p q k l).four)) in
    let front_row : List ℕ = first ++ second_quarter first second third front in
    let back_row : List ℕ = third_quarter second third fourth back ++ fourth in
    let front_row_long : length front_row ≡ h + h = length-append first (second_quarter first second third front) ∙ omega (arith, second_length rows h first second third front two) in
    let back_row_long : length back_row ≡ h + h = length-append (third_quarter second third fourth back) fourth ∙ omega (arith, third_length rows h second third fourth back three_of) in
    is_full (h + h) (front_row ++ back_row) a b (length-append front_row back_row ∙ omega arith) e f
    (end_to_end (h + h) (h + h) front_row back_row g front_row_long front_half back_half)

-- a coefficient of the reduced product
reduced_at : (n : ℕ) (p q : List ℕ) (c : ℕ) → length p ≡ n → length q ≡ n → c < n → get_or (negacyclic_product p q) c 0 ≡ word_difference (pairs n (at p) (at q) c) (pairs n (at p) (at q) (n + c))
unfolding negacyclic_product
reduced_at n p q c e f inside =
    let place : c + length p ≡ n + c = omega arith in
    get_or-map-range_with_len (λ c. word_difference (pair_sum p q c) (pair_sum p q (c + length p))) 0 (length p) c c 0 (omega arith) (zero-add c)
    ∙ ap (λ t. word_difference (pair_sum p q c) (pair_sum p q t)) place
    ∙ ap (λ t. word_difference t (pair_sum p q (n + c))) (pair_sum-is n p q c e f)
    ∙ ap (λ t. word_difference (pairs n (at p) (at q) c) t) (pair_sum-is n p q (n + c) e f)

-- the second half comes in with the other sign
pub reduced : RowLaws → (n : ℕ) (a b start product : List ℕ) → length a ≡ n → length b ≡ n → length start ≡ n → product ≡ full_product a b → row_difference (row_sum start (take n product)) (drop n product) ≡ row_sum start (negacyclic_product a b)
reduced rows n a b start product e f g is =
    let turned : List ℕ = negacyclic_product a b in
    let front : List ℕ = take n product in
    let back : List ℕ = drop n product in
    let added : List ℕ = row_sum start front in
    let turned_long : length turned ≡ n = product_length a b ∙ e in
    let product_long : length product ≡ n + n = ap length is ∙ full_length n a b e f in
    let front_long : length front ≡ n = length-take n product ∙ omega arith in
    let back_long : length back ≡ n = length-drop n product ∙ omega arith in
    let added_long : length added ≡ n = rows.zip_length word_sum start front ∙ omega arith in
    let whole_long : length (row_difference added back) ≡ n = rows.zip_length word_difference added back ∙ omega arith in
    let sum_long : length (row_sum start turned) ≡ n = rows.zip_length word_sum start turned ∙ omega arith in
    ext_get_or 0 (row_difference added back) (row_sum start turned) (whole_long ∙ sym sum_long)
    (λ k h.
    let inside : k < n = omega arith in
    let x : ℕ = get_or start k 0 in
    let y : ℕ = pairs n (at a) (at b) k in
    let z : ℕ = pairs n (at a) (at b) (n + k) in
    let y_at : get_or front k 0 ≡ y % 2 ^ 64 = get_or-take n product k 0 inside ∙ ap (λ t. get_or t k 0) is ∙ full_at n a b k e f (omega arith) in
    let z_at : get_or back k 0 ≡ z % 2 ^ 64 = get_or-drop n product k 0 ∙ ap (λ t. get_or t (n + k) 0) is ∙ full_at n a b (n + k) e f (omega arith) in
    let whole : word_difference (word_sum x (y % 2 ^ 64)) (z % 2 ^ 64) ≡ word_sum x (word_difference y z) = omega arith in
    rows.zip_word word_difference added back k (omega arith) (omega arith)
    ∙ ap (λ t. word_difference t (get_or back k 0)) (rows.zip_word word_sum start front k (omega arith) (omega arith))
    ∙ ap (λ t. word_difference (word_sum x t) (get_or back k 0)) y_at
    ∙ ap (λ t. word_difference (word_sum x (y % 2 ^ 64)) t) z_at
    ∙ whole
    ∙ ap (word_sum x) (sym (reduced_at n a b k e f inside))
    ∙ sym (rows.zip_word word_sum start turned k (omega arith) (omega arith)))
