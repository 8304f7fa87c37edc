-- Rows of words are a module over the words.
use Rattle.std.proofs.Common.{◌≡◌, ℕ, ◌+◌, ◌*◌, ◌%◌, ◌^◌, ◌<◌, List, [], ◌∷◌, ◌++◌, length, map, replicate, arith, ap, sym, ◌∙◌, refl}
use Rattle.std.specs.List.{All}
use Rattle.std.proofs.lemmas.Nat.{mod_below, pow_pos}
use Rattle.std.proofs.lemmas.List.Elements.{All-nil, All-cons, All-head, All-tail}
use Rattle.word_ring.specs.Words.{IsWord, word_sum, word_difference, word_product, word_negation}
use Rattle.word_ring.specs.Rows.{zip_words, row_sum, row_difference}
use Rattle.word_ring.specs.RowLaws.{RowRingLaws}
use Rattle.word_ring.proofs.WordLaws.{ring}

-- ---- operations on rows, from what they do to words

pub zip_words-all : (P : ℕ → Type 0) (f : ℕ → ℕ → ℕ) (xs ys : List ℕ) → ((x y : ℕ) → P (f x y)) → All P (zip_words f xs ys)
zip_words-all P f [] ys each = All-nil P
zip_words-all P f (x ∷ xs) [] each = All-nil P
zip_words-all P f (x ∷ xs) (y ∷ ys) each = All-cons P (f x y) (zip_words f xs ys) (each x y) (zip_words-all P f xs ys each)

-- and where that asks something of the words
pub zip_words-each :
    (P Q R : ℕ → Type 0) (f : ℕ → ℕ → ℕ) (xs ys : List ℕ) → ((x y : ℕ) → P x → Q y → R (f x y)) → All P xs → All Q ys → All R (zip_words f xs ys)
zip_words-each P Q R f [] ys each p q = All-nil R
zip_words-each P Q R f (x ∷ xs) [] each p q = All-nil R
zip_words-each P Q R f (x ∷ xs) (y ∷ ys) each p q =
    All-cons R (f x y) (zip_words f xs ys) (each x y (All-head P x xs p) (All-head Q y ys q)) (zip_words-each P Q R f xs ys each (All-tail P x xs p) (All-tail Q y ys q))

pub map-all : {X : Type 0} → (P : ℕ → Type 0) (f : X → ℕ) (xs : List X) → ((x : X) → P (f x)) → All P (map f xs)
map-all P f [] each = All-nil P
map-all P f (x ∷ xs) each = All-cons P (f x) (map f xs) (each x) (map-all P f xs each)

-- two of them in one order and in the other
pub zip_words-regroup :
    (f g h k : ℕ → ℕ → ℕ) (xs ys zs : List ℕ) → ((x y z : ℕ) → f (g x y) z ≡ h x (k y z))
    → zip_words f (zip_words g xs ys) zs ≡ zip_words h xs (zip_words k ys zs)
zip_words-regroup f g h k [] ys zs each = refl
zip_words-regroup f g h k (x ∷ xs) [] zs each = refl
zip_words-regroup f g h k (x ∷ xs) (y ∷ ys) [] each = refl
zip_words-regroup f g h k (x ∷ xs) (y ∷ ys) (z ∷ zs) each =
    ap (λ w. w ∷ zip_words f (zip_words g xs ys) zs) (each x y z) ∙ ap (λ ws. h x (k y z) ∷ ws) (zip_words-regroup f g h k xs ys zs each)

-- one with its sides exchanged
pub zip_words-turned : (f g : ℕ → ℕ → ℕ) (xs ys : List ℕ) → ((x y : ℕ) → f x y ≡ g y x) → zip_words f xs ys ≡ zip_words g ys xs
zip_words-turned f g [] [] each = refl
zip_words-turned f g [] (y ∷ ys) each = refl
zip_words-turned f g (x ∷ xs) [] each = refl
zip_words-turned f g (x ∷ xs) (y ∷ ys) each = ap (λ w. w ∷ zip_words f xs ys) (each x y) ∙ ap (λ ws. g y x ∷ ws) (zip_words-turned f g xs ys each)

-- four rows, two by two, in both ways
pub zip_words-crossed :
    (f g h k : ℕ → ℕ → ℕ) (ws xs ys zs : List ℕ) → ((w x y z : ℕ) → f (g w x) (g y z) ≡ h (k w y) (k x z))
    → zip_words f (zip_words g ws xs) (zip_words g ys zs) ≡ zip_words h (zip_words k ws ys) (zip_words k xs zs)
zip_words-crossed f g h k [] xs [] zs each = refl
zip_words-crossed f g h k [] xs (y ∷ ys) zs each = refl
zip_words-crossed f g h k (w ∷ ws) [] [] zs each = refl
zip_words-crossed f g h k (w ∷ ws) [] (y ∷ ys) zs each = refl
zip_words-crossed f g h k (w ∷ ws) (x ∷ xs) [] zs each = refl
zip_words-crossed f g h k (w ∷ ws) (x ∷ xs) (y ∷ ys) [] each = refl
zip_words-crossed f g h k (w ∷ ws) (x ∷ xs) (y ∷ ys) (z ∷ zs) each =
    ap (λ v. v ∷ zip_words f (zip_words g ws xs) (zip_words g ys zs)) (each w x y z)
    ∙ ap (λ vs. h (k w y) (k x z) ∷ vs) (zip_words-crossed f g h k ws xs ys zs each)

-- a function of the words of the second row
pub zip_words-map : (f g : ℕ → ℕ → ℕ) (m : ℕ → ℕ) (xs ys : List ℕ) → ((x y : ℕ) → f x y ≡ g x (m y)) → zip_words f xs ys ≡ zip_words g xs (map m ys)
zip_words-map f g m [] ys each = refl
zip_words-map f g m (x ∷ xs) [] each = refl
zip_words-map f g m (x ∷ xs) (y ∷ ys) each = ap (λ w. w ∷ zip_words f xs ys) (each x y) ∙ ap (λ ws. g x (m y) ∷ ws) (zip_words-map f g m xs ys each)

-- a function of what an operation gives
pub map-zip_words :
    (f g : ℕ → ℕ → ℕ) (m : ℕ → ℕ) (xs ys : List ℕ) → ((x y : ℕ) → m (f x y) ≡ g (m x) (m y))
    → map m (zip_words f xs ys) ≡ zip_words g (map m xs) (map m ys)
map-zip_words f g m [] ys each = refl
map-zip_words f g m (x ∷ xs) [] each = refl
map-zip_words f g m (x ∷ xs) (y ∷ ys) each =
    ap (λ w. w ∷ map m (zip_words f xs ys)) (each x y) ∙ ap (λ ws. g (m x) (m y) ∷ ws) (map-zip_words f g m xs ys each)

pub map-map_is : (f g h : ℕ → ℕ) (xs : List ℕ) → ((x : ℕ) → f (g x) ≡ h x) → map f (map g xs) ≡ map h xs
map-map_is f g h [] each = refl
map-map_is f g h (x ∷ xs) each = ap (λ w. w ∷ map f (map g xs)) (each x) ∙ ap (λ ws. h x ∷ ws) (map-map_is f g h xs each)

-- ---- the ring's laws, row by row

pub word_below : (n : ℕ) → n % 2 ^ 64 < 2 ^ 64
word_below n = mod_below n (2 ^ 64) (pow_pos 64)

pub sum_zero : (xs : List ℕ) → All IsWord xs → row_sum xs (replicate (length xs) 0) ≡ xs
sum_zero [] fit = refl
sum_zero (x ∷ xs) fit =
    let small : x < 2 ^ 64 = All-head IsWord x xs fit in
    let same : (x + 0) % 2 ^ 64 ≡ x = omega arith in
    ap (λ w. w ∷ row_sum xs (replicate (length xs) 0)) same ∙ ap (λ ws. x ∷ ws) (sum_zero xs (All-tail IsWord x xs fit))

difference_zero : (xs : List ℕ) → All IsWord xs → row_difference xs (replicate (length xs) 0) ≡ xs
difference_zero [] fit = refl
difference_zero (x ∷ xs) fit =
    let small : x < 2 ^ 64 = All-head IsWord x xs fit in
    let same : word_difference x 0 ≡ x = omega arith in
    ap (λ w. w ∷ row_difference xs (replicate (length xs) 0)) same ∙ ap (λ ws. x ∷ ws) (difference_zero xs (All-tail IsWord x xs fit))

difference_same : (xs : List ℕ) → row_difference xs xs ≡ replicate (length xs) 0
difference_same [] = refl
difference_same (x ∷ xs) =
    let none : word_difference x x ≡ 0 = omega arith in
    ap (λ w. w ∷ row_difference xs xs) none ∙ ap (λ ws. 0 ∷ ws) (difference_same xs)

sum_difference : (xs ys : List ℕ) → length xs ≡ length ys → All IsWord ys → row_sum xs (row_difference ys xs) ≡ ys
sum_difference [] [] long fit = refl
sum_difference [] (y ∷ ys) long fit = absurd (omega arith)
sum_difference (x ∷ xs) [] long fit = absurd (omega arith)
sum_difference (x ∷ xs) (y ∷ ys) long fit =
    let small : y < 2 ^ 64 = All-head IsWord y ys fit in
    let back : word_sum x (word_difference y x) ≡ y = omega arith in
    ap (λ w. w ∷ row_sum xs (row_difference ys xs)) back ∙ ap (λ ws. y ∷ ws) (sum_difference xs ys (omega arith) (All-tail IsWord y ys fit))

zip_append :
    (f : ℕ → ℕ → ℕ) (xs ys us vs : List ℕ) → length xs ≡ length us → zip_words f (xs ++ ys) (us ++ vs) ≡ zip_words f xs us ++ zip_words f ys vs
zip_append f [] ys [] vs long = refl
zip_append f [] ys (u ∷ us) vs long = absurd (omega arith)
zip_append f (x ∷ xs) ys [] vs long = absurd (omega arith)
zip_append f (x ∷ xs) ys (u ∷ us) vs long = ap (λ ws. f x u ∷ ws) (zip_append f xs ys us vs (omega arith))

-- ---- what the laws say of single words

crossed : (w x y z : ℕ) → word_sum (word_sum w x) (word_sum y z) ≡ word_sum (word_sum w y) (word_sum x z)
crossed w x y z = omega arith

crossed_difference : (w x y z : ℕ) → word_difference (word_sum w x) (word_sum y z) ≡ word_sum (word_difference w y) (word_difference x z)
crossed_difference w x y z = omega arith

with_scaled : (factor x y : ℕ) → word_sum x (factor * y) ≡ word_sum x (word_product factor y)
with_scaled factor x y = omega arith

product_difference : (factor x y : ℕ) → word_product factor (word_difference x y) ≡ word_difference (word_product factor x) (word_product factor y)
product_difference factor x y =
    let c = ring.product_commutative in
    ap (word_product factor) (ring.difference_is x y)
    ∙ ring.product_sum factor x (word_negation y)
    ∙ ap (word_sum (word_product factor x)) (c factor (word_negation y) ∙ ring.negation_product y factor ∙ ap word_negation (c y factor))
    ∙ sym (ring.difference_is (word_product factor x) (word_product factor y))

subtracted_twice : (x y z : ℕ) → word_difference (word_difference x y) z ≡ word_difference x (word_sum y z)
subtracted_twice x y z = omega arith

pub row_ring : RowRingLaws
row_ring = record {
  zip_are_words = λ f xs ys each. zip_words-all IsWord f xs ys each;
  scaled_are_words = λ factor xs. map-all IsWord (word_product factor) xs (λ x. word_below (factor * x));
  sum_associative = λ xs ys zs. zip_words-regroup word_sum word_sum word_sum word_sum xs ys zs ring.sum_associative;
  sum_commutative = λ xs ys. zip_words-turned word_sum word_sum xs ys ring.sum_commutative;
  sum_zero = sum_zero;
  difference_is = λ xs ys. zip_words-map word_difference word_sum word_negation xs ys ring.difference_is;
  difference_same = difference_same;
  sum_difference = sum_difference;
  difference_zero = difference_zero;
  difference_difference = λ xs ys zs. zip_words-regroup word_difference word_difference word_difference word_sum xs ys zs subtracted_twice;
  sums_of_sums = λ ws xs ys zs. zip_words-crossed word_sum word_sum word_sum word_sum ws xs ys zs crossed;
  difference_of_sums = λ ws xs ys zs. zip_words-crossed word_difference word_sum word_sum word_difference ws xs ys zs crossed_difference;
  with_scaled_is = λ xs factor ys. zip_words-map (λ x y. word_sum x (factor * y)) word_sum (word_product factor) xs ys (with_scaled factor);
  scaled_sum = λ factor xs ys. map-zip_words word_sum word_sum (word_product factor) xs ys (ring.product_sum factor);
  scaled_difference = λ factor xs ys. map-zip_words word_difference word_difference (word_product factor) xs ys (product_difference factor);
  scaled_scaled = λ factor other xs. map-map_is (word_product factor) (word_product other) (word_product (word_product factor other)) xs (λ x. sym (ring.product_associative factor other x));
  scaled_negation = λ factor xs. sym (map-map_is word_negation (word_product factor) (word_product (word_negation factor)) xs (λ x. sym (ring.negation_product factor x)));
  zip_append = zip_append;
}
