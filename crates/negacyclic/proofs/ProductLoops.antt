-- What the loops of the product have written.
use Rattle.std.proofs.Common.{◌≡◌, ⊎_elim, ℕ, ◌+◌, ◌-◌, ◌*◌, ◌%◌, ◌^◌, ◌<◌, ◌≤◌, List, ◌++◌, take, drop, length, get_or, arith, ap, sym, ◌∙◌, add-one, add-zero, mul_comm, mul_assoc}
use Rattle.std.proofs.Math.Nat.{mod-eq_of_lt}
use Rattle.std.specs.List.{All}
use Rattle.std.proofs.lemmas.Nat.{mul-mod_second}
use Rattle.std.proofs.lemmas.List.{ext_get_or, length-append, length-take, length-drop, get_or_append_left, get_or-append_right, get_or-take, get_or-drop}
use Rattle.std.proofs.lemmas.Bool.{cases_lt}
use Rattle.word_ring.specs.Words.{IsWord, word_sum, word_difference, word_negation}
use Rattle.word_ring.specs.Rows.{zip_words, row_sum, sum_with_scaled, RowLaws}
use Rattle.negacyclic.specs.Product.{sum_below, negacyclic_product, rotation}
use Rattle.negacyclic.proofs.Signs.{minus_one}
use Rattle.negacyclic.proofs.Polynomials.{product_length}
use Rattle.negacyclic.proofs.Rotations.{rotation_length, rotation_above, rotation_past, product_by_rotations}

-- what is subtracted is added with the other sign
subtracted : (x f y : ℕ) → word_difference x (f * y) ≡ word_sum x (f * word_negation y)
subtracted x f y =
    let z : ℕ = f * y in
    let turned : ℕ = f * (minus_one * y) in
    let turned_is : turned ≡ minus_one * z = sym (mul_assoc f minus_one y) ∙ ap (λ t. t * y) (mul_comm f minus_one) ∙ mul_assoc minus_one f y in
    let negation : word_negation y ≡ (minus_one * y) % 2 ^ 64 = omega arith in
    let inner : (f * word_negation y) % 2 ^ 64 ≡ turned % 2 ^ 64 = ap (λ t. (f * t) % 2 ^ 64) negation ∙ mul-mod_second f (minus_one * y) (2 ^ 64) in
    omega arith

-- a factor may be reduced
added : (x f y : ℕ) → word_sum x (f * (y % 2 ^ 64)) ≡ word_sum x (f * y)
added x f y = let inner : (f * (y % 2 ^ 64)) % 2 ^ 64 ≡ (f * y) % 2 ^ 64 = mul-mod_second f y (2 ^ 64) in omega arith

-- the two parts that go past the end and do not
pub scaled_rotation : RowLaws → (by f : ℕ) (into p : List ℕ) → length p ≡ length into → by < length into → zip_words (λ x y. word_difference x (f * y)) (take by into) (drop (length p - by) p) ++ zip_words (λ x y. word_sum x (f * y)) (drop by into) (take (length p - by) p) ≡ sum_with_scaled into f (rotation by p)
scaled_rotation rows by f into p e below =
    let n : ℕ = length p in
    let low : List ℕ = take by into in
    let wrapped : List ℕ = drop (n - by) p in
    let high : List ℕ = drop by into in
    let kept : List ℕ = take (n - by) p in
    let low_long : length low ≡ by = length-take by into ∙ omega arith in
    let wrapped_long : length wrapped ≡ by = length-drop (n - by) p ∙ omega arith in
    let high_long : length high ≡ n - by = length-drop by into ∙ omega arith in
    let kept_long : length kept ≡ n - by = length-take (n - by) p ∙ omega arith in
    let minus : ℕ → ℕ → ℕ = λ x y. word_difference x (f * y) in
    let plus : ℕ → ℕ → ℕ = λ x y. word_sum x (f * y) in
    let front : List ℕ = zip_words minus low wrapped in
    let back : List ℕ = zip_words plus high kept in
    let turned : List ℕ = rotation by p in
    let turned_long : length turned ≡ n = rotation_length by p in
    let front_long : length front ≡ by = rows.zip_length minus low wrapped ∙ omega arith in
    let back_long : length back ≡ n - by = rows.zip_length plus high kept ∙ omega arith in
    let whole : length (zip_words plus into turned) ≡ n = rows.zip_length plus into turned ∙ omega arith in
    ext_get_or 0 (front ++ back) (zip_words plus into turned) (length-append front back ∙ omega arith)
    (λ c h.
    let inside : c < n = omega (arith, length-append front back) in
    ⊎_elim
    (λ (short : c < by).
    let place : (n - by) + c ≡ c + n - by = omega arith in
    get_or_append_left front back 0 c (omega arith)
    ∙ rows.zip_word minus low wrapped c (omega arith) (omega arith)
    ∙ ap (λ t. minus t (get_or wrapped c 0)) (get_or-take by into c 0 short)
    ∙ ap (minus (get_or into c 0)) (get_or-drop (n - by) p c 0 ∙ ap (λ t. get_or p t 0) place)
    ∙ subtracted (get_or into c 0) f (get_or p (c + n - by) 0)
    ∙ ap (plus (get_or into c 0)) (sym (rotation_past by p c inside short (omega arith)))
    ∙ sym (rows.zip_word plus into turned c (omega arith) (omega arith)))
    (λ (enough : by ≤ c).
    let place : by + (c - by) ≡ c = omega arith in
    get_or-append_right front back by c 0 front_long enough
    ∙ rows.zip_word plus high kept (c - by) (omega arith) (omega arith)
    ∙ ap (λ t. plus t (get_or kept (c - by) 0)) (get_or-drop by into (c - by) 0 ∙ ap (λ t. get_or into t 0) place)
    ∙ ap (plus (get_or into c 0)) (get_or-take (n - by) p (c - by) 0 (omega arith))
    ∙ sym (added (get_or into c 0) f (get_or p (c - by) 0))
    ∙ ap (plus (get_or into c 0)) (sym (rotation_above by p c inside enough))
    ∙ sym (rows.zip_word plus into turned c (omega arith) (omega arith)))
    (cases_lt c by))

-- `into` is `start` and the first k rotations of b, each times its word of a
abbrev pub HasAdded : List ℕ → List ℕ → List ℕ → ℕ → List ℕ → Type 0
HasAdded start a b k into = (c : ℕ) → c < length b → get_or into c 0 ≡ (get_or start c 0 + sum_below k (λ i. get_or a i 0 * get_or (rotation i b) c 0)) % 2 ^ 64

pub HasAdded_none : (start a b : List ℕ) → length b ≡ length start → All IsWord start → HasAdded start a b 0 start
HasAdded_none start a b e fit c inside =
    let small : get_or start c 0 < 2 ^ 64 = fit c 0 (omega arith) in
    sym (ap (λ t. t % 2 ^ 64) (add-zero (get_or start c 0)) ∙ mod-eq_of_lt small)

pub HasAdded_more : RowLaws → (start a b : List ℕ) (k factor : ℕ) (into next : List ℕ) → length into ≡ length b → factor ≡ get_or a k 0 → HasAdded start a b k into → next ≡ sum_with_scaled into factor (rotation k b) → HasAdded start a b (k + 1) next
HasAdded_more rows start a b k factor into next long read before step c inside =
    let x : ℕ = get_or start c 0 in
    let s : ℕ = sum_below k (λ i. get_or a i 0 * get_or (rotation i b) c 0) in
    let r : ℕ = get_or (rotation k b) c 0 in
    let turned : List ℕ = rotation k b in
    let join : word_sum ((x + s) % 2 ^ 64) (factor * r) ≡ (x + (s + factor * r)) % 2 ^ 64 = omega arith in
    ap (λ t. get_or t c 0) step
    ∙ rows.zip_word (λ x y. word_sum x (factor * y)) into turned c (omega arith) (omega (arith, rotation_length k b))
    ∙ ap (λ t. word_sum t (factor * r)) (before c inside)
    ∙ join
    ∙ ap (λ t. (x + (s + t * r)) % 2 ^ 64) read
    ∙ ap (λ t. (x + sum_below t (λ i. get_or a i 0 * get_or (rotation i b) c 0)) % 2 ^ 64) (sym (add-one k))

pub HasAdded_all : RowLaws → (start a b into : List ℕ) → length a ≡ length start → length b ≡ length start → length into ≡ length start → HasAdded start a b (length a) into → into ≡ row_sum start (negacyclic_product a b)
HasAdded_all rows start a b into e f long done =
    let product : List ℕ = negacyclic_product a b in
    let product_long : length product ≡ length start = product_length a b ∙ e in
    ext_get_or 0 into (row_sum start product) (long ∙ sym (rows.zip_length word_sum start product ∙ omega arith))
    (λ c h.
    let inside : c < length start = omega arith in
    let s : ℕ = sum_below (length a) (λ i. get_or a i 0 * get_or (rotation i b) c 0) in
    let x : ℕ = get_or start c 0 in
    let join : (x + s) % 2 ^ 64 ≡ word_sum x (s % 2 ^ 64) = omega arith in
    done c (omega arith)
    ∙ join
    ∙ ap (word_sum x) (sym (product_by_rotations a b (e ∙ sym f) c (omega arith)))
    ∙ sym (rows.zip_word word_sum start product c inside (omega arith)))
