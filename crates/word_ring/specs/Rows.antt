-- Rows: lists of words, on which the ring's operations go word by word.
use Rattle.std.specs.Prelude.{◌≡◌, ℕ, ◌+◌, ◌*◌, ◌%◌, ◌^◌, ◌<◌, min, List, [], ◌∷◌, ◌≤◌, All, length, map, replicate, slice_index}
use Rattle.std.specs.List.{zip, sum_by, enumerate_from, slice_index_or}
use Rattle.word_ring.specs.Words.{IsWord, word_sum, word_difference, word_product, size}

-- an operation at each place of two rows
abbrev pub zip_words : (ℕ → ℕ → ℕ) → List ℕ → List ℕ → List ℕ
zip_words operation xs ys = map (λ p. operation p.0 p.1) (zip xs ys)

-- the sum, word by word
abbrev pub row_sum : List ℕ → List ℕ → List ℕ
row_sum xs ys = zip_words word_sum xs ys

-- the difference, word by word
abbrev pub row_difference : List ℕ → List ℕ → List ℕ
row_difference xs ys = zip_words word_difference xs ys

-- each word times a factor
abbrev pub scaled_row : ℕ → List ℕ → List ℕ
scaled_row factor xs = map (λ x. word_product factor x) xs

-- a row and a factor times another, word by word
abbrev pub sum_with_scaled : List ℕ → ℕ → List ℕ → List ℕ
sum_with_scaled xs factor ys = zip_words (λ x y. word_sum x (factor * y)) xs ys

-- the sum of each weight times the word at place i of its row, in ℕ
abbrev pub weighted_sum : List ℕ → List (List ℕ) → ℕ → ℕ
weighted_sum weights rows i = sum_by (λ p. p.0 * slice_index p.1 i) (zip weights rows)

-- at each place the word of `into` and the weighted sum of the rows, reduced once
abbrev pub combined : List ℕ → List ℕ → List (List ℕ) → List ℕ
combined into weights rows = map (λ p. (p.1 + weighted_sum weights rows p.0) % 2 ^ 64) (enumerate_from 0 into)

-- the sum of rows of `len` words each, word by word; that of no row is 0
abbrev pub sum_of_rows : ℕ → List (List ℕ) → List ℕ
sum_of_rows len [] = replicate len 0
sum_of_rows len (row ∷ rows) = row_sum row (sum_of_rows len rows)

-- the rows, each times its weight
abbrev pub scaled_rows : List ℕ → List (List ℕ) → List (List ℕ)
scaled_rows weights rows = map (λ p. scaled_row p.0 p.1) (zip weights rows)

-- an operation on rows, pair by pair
abbrev pub zip_rows : (List ℕ → List ℕ → List ℕ) → List (List ℕ) → List (List ℕ) → List (List ℕ)
zip_rows operation rows others = map (λ p. operation p.0 p.1) (zip rows others)

-- a function from rows of `len` words to rows of `other` words that keeps 0 and sums
pub record IsAdditive (len other : ℕ) (f : List ℕ → List ℕ) : Type 0 where
  pub keeps_zero : f (replicate len 0) ≡ replicate other 0
  pub keeps_sums : (xs ys : List ℕ) → length xs ≡ len → length ys ≡ len → f (row_sum xs ys) ≡ row_sum (f xs) (f ys)

-- the rows have `len` words each
abbrev pub AllOfLength : ℕ → List (List ℕ) → Type 0
AllOfLength len rows = All (λ row. length row ≡ len) rows

-- a row whose words are no larger than a bound
abbrev pub RowWithin : ℕ → List ℕ → Type 0
RowWithin bound row = All (λ w. size w ≤ bound) row

-- the words of the values at these places
abbrev pub rows_at : {T : Type 0} → (T → List ℕ) → List T → List ℕ → List (List ℕ)
rows_at words values places = map (λ place. slice_index_or (map words values) place []) places

-- rows word by word, and weighted sums term by term
pub record RowLaws : Type 0 where
  -- an operation on two rows has as many words as the shorter
  pub zip_length :
      (operation : ℕ → ℕ → ℕ) (xs ys : List ℕ)
      → length (zip_words operation xs ys) ≡ min (length xs) (length ys)
  -- and goes place by place
  pub zip_word :
      (operation : ℕ → ℕ → ℕ) (xs ys : List ℕ) (i : ℕ) → i < length xs → i < length ys
      → slice_index (zip_words operation xs ys) i ≡ operation (slice_index xs i) (slice_index ys i)
  -- a weighted sum keeps the number of words
  pub combined_length :
      (into weights : List ℕ) (rows : List (List ℕ))
      → length (combined into weights rows) ≡ length into
  -- without a term it leaves a row of words as it is
  pub combined_none : (into : List ℕ) → All IsWord into → combined into [] [] ≡ into
  -- and a first term is the sum of the others with its multiple
  pub combined_first :
      (into weights : List ℕ) (rows : List (List ℕ)) (weight : ℕ) (row : List ℕ) → length row ≡ length into
      → combined into (weight ∷ weights) (row ∷ rows) ≡ sum_with_scaled (combined into weights rows) weight row
