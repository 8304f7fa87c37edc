-- Rows that a loop has written, as operations on rows.
use Rattle.std.proofs.Common.{◌≡◌, ℕ, ◌<◌, List, ◌++◌, length, get_or, arith, ap, sym, ◌∙◌}
use Rattle.std.proofs.lemmas.List.{ext_get_or}
use Rattle.word_ring.specs.Words.{word_sum, word_difference}
use Rattle.word_ring.specs.Rows.{zip_words, row_sum, row_difference, RowLaws}
use Rattle.negacyclic.specs.FullProduct.{second_quarter, third_quarter}

-- an operation at every place of two rows
pub is_zip_words : RowLaws → (f : ℕ → ℕ → ℕ) (new xs ys : List ℕ) → length new ≡ length xs → length xs ≡ length ys → ((k : ℕ) → k < length xs → get_or new k 0 ≡ f (get_or xs k 0) (get_or ys k 0)) → new ≡ zip_words f xs ys
is_zip_words rows f new xs ys long same each =
    ext_get_or 0 new (zip_words f xs ys) (long ∙ sym (rows.zip_length f xs ys ∙ omega arith))
    (λ k h. let inside : k < length xs = omega arith in each k inside ∙ sym (rows.zip_word f xs ys k inside (omega arith)))

-- four rows of one length
pub record OneLength (n : ℕ) (xs ys us vs : List ℕ) : Type 0 where
  pub first : length xs ≡ n
  pub second : length ys ≡ n
  pub third : length us ≡ n
  pub fourth : length vs ≡ n

-- a word of the second quarter
pub get_or-second_quarter : RowLaws → (n : ℕ) (first second third mid : List ℕ) (k : ℕ) → OneLength n first second third mid → k < n → get_or (second_quarter first second third mid) k 0 ≡ word_difference (word_sum (word_difference (get_or second k 0) (get_or third k 0)) (get_or mid k 0)) (get_or first k 0)
get_or-second_quarter rows n first second third mid k long inside =
    let d : List ℕ = row_difference second third in
    let d_long : length d ≡ n = rows.zip_length word_difference second third ∙ omega (arith, long.second, long.third) in
    let s : List ℕ = row_sum d mid in
    let s_long : length s ≡ n = rows.zip_length word_sum d mid ∙ omega (arith, long.fourth) in
    rows.zip_word word_difference s first k (omega arith) (omega (arith, long.first))
    ∙ ap (λ t. word_difference t (get_or first k 0)) (rows.zip_word word_sum d mid k (omega arith) (omega (arith, long.fourth)))
    ∙ ap (λ t. word_difference (word_sum t (get_or mid k 0)) (get_or first k 0)) (rows.zip_word word_difference second third k (omega (arith, long.second)) (omega (arith, long.third)))

-- a word of the third
pub get_or-third_quarter : RowLaws → (n : ℕ) (second third fourth mid : List ℕ) (k : ℕ) → OneLength n second third fourth mid → k < n → get_or (third_quarter second third fourth mid) k 0 ≡ word_difference (word_difference (get_or mid k 0) (word_difference (get_or second k 0) (get_or third k 0))) (get_or fourth k 0)
get_or-third_quarter rows n second third fourth mid k long inside =
    let d : List ℕ = row_difference second third in
    let d_long : length d ≡ n = rows.zip_length word_difference second third ∙ omega (arith, long.first, long.second) in
    let s : List ℕ = row_difference mid d in
    let s_long : length s ≡ n = rows.zip_length word_difference mid d ∙ omega (arith, long.fourth) in
    rows.zip_word word_difference s fourth k (omega arith) (omega (arith, long.third))
    ∙ ap (λ t. word_difference t (get_or fourth k 0)) (rows.zip_word word_difference mid d k (omega (arith, long.fourth)) (omega arith))
    ∙ ap (λ t. word_difference (word_difference (get_or mid k 0) t) (get_or fourth k 0)) (rows.zip_word word_difference second third k (omega (arith, long.first)) (omega (arith, long.second)))

pub second_length : RowLaws → (n : ℕ) (first second third mid : List ℕ) → OneLength n first second third mid → length (second_quarter first second third mid) ≡ n
second_length rows n first second third mid long =
    rows.zip_length word_difference (row_sum (row_difference second third) mid) first
    ∙ omega (arith, rows.zip_length word_sum (row_difference second third) mid, rows.zip_length word_difference second third, long.first, long.second, long.third, long.fourth)

pub third_length : RowLaws → (n : ℕ) (second third fourth mid : List ℕ) → OneLength n second third fourth mid → length (third_quarter second third fourth mid) ≡ n
third_length rows n second third fourth mid long =
    rows.zip_length word_difference (row_difference mid (row_difference second third)) fourth
    ∙ omega (arith, rows.zip_length word_difference mid (row_difference second third), rows.zip_length word_difference second third, long.first, long.second, long.third, long.fourth)

pub is_second : RowLaws → (n : ℕ) (new first second third mid : List ℕ) → OneLength n first second third mid → length new ≡ n → ((k : ℕ) → k < n → get_or new k 0 ≡ word_difference (word_sum (word_difference (get_or second k 0) (get_or third k 0)) (get_or mid k 0)) (get_or first k 0)) → new ≡ second_quarter first second third mid
is_second rows n new first second third mid long whole each =
    ext_get_or 0 new (second_quarter first second third mid) (whole ∙ sym (second_length rows n first second third mid long))
    (λ k h. let inside : k < n = omega arith in each k inside ∙ sym (get_or-second_quarter rows n first second third mid k long inside))

pub is_third : RowLaws → (n : ℕ) (new second third fourth mid : List ℕ) → OneLength n second third fourth mid → length new ≡ n → ((k : ℕ) → k < n → get_or new k 0 ≡ word_difference (word_difference (get_or mid k 0) (word_difference (get_or second k 0) (get_or third k 0))) (get_or fourth k 0)) → new ≡ third_quarter second third fourth mid
is_third rows n new second third fourth mid long whole each =
    ext_get_or 0 new (third_quarter second third fourth mid) (whole ∙ sym (third_length rows n second third fourth mid long))
    (λ k h. let inside : k < n = omega arith in each k inside ∙ sym (get_or-third_quarter rows n second third fourth mid k long inside))

-- four rows end to end
pub four_rows : (a b c d p q r s : List ℕ) → a ≡ p → b ≡ q → c ≡ r → d ≡ s → a ++ (b ++ (c ++ d)) ≡ p ++ (q ++ (r ++ s))
four_rows a b c d p q r s e f g h = ap (λ t. t ++ (b ++ (c ++ d))) e ∙ ap (λ t. p ++ (t ++ (c ++ d))) f ∙ ap (λ t. p ++ (q ++ (t ++ d))) g ∙ ap (λ t. p ++ (q ++ (r ++ t))) h
