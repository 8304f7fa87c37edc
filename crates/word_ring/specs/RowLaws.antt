-- What holds of rows: a module over the words, the sums of many rows, and the sizes of their words.
use Rattle.std.specs.Prelude.{◌≡◌, ℕ, ◌+◌, ◌*◌, ◌%◌, ◌^◌, ◌<◌, ◌≤◌, List, [], ◌∷◌, ◌++◌, All, length, map, replicate, take, slice_index}
use Rattle.std.specs.List.{zip, sum_by, slice_index_or}
use Rattle.word_ring.specs.Words.{IsWord, word_sum, word_product, word_negation, size}
use Rattle.word_ring.specs.Rows.{zip_words, row_sum, row_difference, scaled_row, scaled_rows, sum_with_scaled, weighted_sum, combined, sum_of_rows, zip_rows, IsAdditive, AllOfLength, RowWithin}

-- rows of words are a module over the words
pub record RowRingLaws : Type 0 where
  -- what an operation with words as results gives is a row of words
  pub zip_are_words :
      (operation : ℕ → ℕ → ℕ) (xs ys : List ℕ) → ((x y : ℕ) → IsWord (operation x y))
      → All IsWord (zip_words operation xs ys)
  -- a multiple is one too
  pub scaled_are_words : (factor : ℕ) (xs : List ℕ) → All IsWord (scaled_row factor xs)
  -- a sum may be taken in any grouping
  pub sum_associative : (xs ys zs : List ℕ) → row_sum (row_sum xs ys) zs ≡ row_sum xs (row_sum ys zs)
  -- and in any order
  pub sum_commutative : (xs ys : List ℕ) → row_sum xs ys ≡ row_sum ys xs
  -- 0 changes no row of words
  pub sum_zero : (xs : List ℕ) → All IsWord xs → row_sum xs (replicate (length xs) 0) ≡ xs
  -- a difference is the sum with the negation
  pub difference_is : (xs ys : List ℕ) → row_difference xs ys ≡ row_sum xs (map word_negation ys)
  -- a row minus itself is 0
  pub difference_same : (xs : List ℕ) → row_difference xs xs ≡ replicate (length xs) 0
  -- a row and what another has more make the other
  pub sum_difference :
      (xs ys : List ℕ) → length xs ≡ length ys → All IsWord ys
      → row_sum xs (row_difference ys xs) ≡ ys
  -- minus 0 it is itself
  pub difference_zero : (xs : List ℕ) → All IsWord xs → row_difference xs (replicate (length xs) 0) ≡ xs
  -- two rows subtracted in turn are their sum subtracted
  pub difference_difference :
      (xs ys zs : List ℕ)
      → row_difference (row_difference xs ys) zs ≡ row_difference xs (row_sum ys zs)
  -- the sum of two sums goes pair by pair
  pub sums_of_sums :
      (ws xs ys zs : List ℕ)
      → row_sum (row_sum ws xs) (row_sum ys zs) ≡ row_sum (row_sum ws ys) (row_sum xs zs)
  -- and so does their difference
  pub difference_of_sums :
      (ws xs ys zs : List ℕ)
      → row_difference (row_sum ws xs) (row_sum ys zs) ≡ row_sum (row_difference ws ys) (row_difference xs zs)
  -- a sum with a multiple is the sum with the scaled row
  pub with_scaled_is :
      (xs : List ℕ) (factor : ℕ) (ys : List ℕ)
      → sum_with_scaled xs factor ys ≡ row_sum xs (scaled_row factor ys)
  -- a factor goes into a sum
  pub scaled_sum :
      (factor : ℕ) (xs ys : List ℕ)
      → scaled_row factor (row_sum xs ys) ≡ row_sum (scaled_row factor xs) (scaled_row factor ys)
  -- and into a difference
  pub scaled_difference :
      (factor : ℕ) (xs ys : List ℕ)
      → scaled_row factor (row_difference xs ys) ≡ row_difference (scaled_row factor xs) (scaled_row factor ys)
  -- two factors are their product
  pub scaled_scaled :
      (factor other : ℕ) (xs : List ℕ)
      → scaled_row factor (scaled_row other xs) ≡ scaled_row (word_product factor other) xs
  -- the negation of a factor negates the row
  pub scaled_negation :
      (factor : ℕ) (xs : List ℕ)
      → scaled_row (word_negation factor) xs ≡ map word_negation (scaled_row factor xs)
  -- an operation on rows end to end goes part by part
  pub zip_append :
      (operation : ℕ → ℕ → ℕ) (xs ys us vs : List ℕ) → length xs ≡ length us
      → zip_words operation (xs ++ ys) (us ++ vs) ≡ zip_words operation xs us ++ zip_words operation ys vs

-- how large the words of a row are
pub record RowSizeLaws : Type 0 where
  -- the size sees a number modulo 2^64
  pub residue_size : (w : ℕ) → size (w % 2 ^ 64) ≡ size w
  -- the words of a sum are no larger than both bounds together
  pub sum_within :
      (bound more : ℕ) (xs ys : List ℕ) → RowWithin bound xs → RowWithin more ys
      → RowWithin (bound + more) (row_sum xs ys)
  -- nor are those of a difference
  pub difference_within :
      (bound more : ℕ) (xs ys : List ℕ) → RowWithin bound xs → RowWithin more ys
      → RowWithin (bound + more) (row_difference xs ys)
  -- those of a multiple are no larger than the size of the factor times the bound
  pub scaled_within :
      (factor bound : ℕ) (xs : List ℕ) → RowWithin bound xs
      → RowWithin (size factor * bound) (scaled_row factor xs)
  -- a weighted sum of words is no larger than their number times the product of the bounds
  pub weighted_size :
      (most bound : ℕ) (weights words : List ℕ) → RowWithin most weights → RowWithin bound words
      → size (sum_by (λ p. p.0 * p.1) (zip weights words)) ≤ length weights * (most * bound)
  -- the sizes of a row's words together are no larger than their number times the bound
  pub total_size : (bound : ℕ) (xs : List ℕ) → RowWithin bound xs → sum_by size xs ≤ length xs * bound

-- sums of many rows
pub record RowTotalLaws : Type 0 where
  -- scaled rows are as long as the rows
  pub scaled_lengths :
      (len : ℕ) (weights : List ℕ) (rows : List (List ℕ)) → AllOfLength len rows
      → AllOfLength len (scaled_rows weights rows)
  -- the sum of rows of one length has that length
  pub total_length : (len : ℕ) (rows : List (List ℕ)) → AllOfLength len rows → length (sum_of_rows len rows) ≡ len
  -- it is a row of words
  pub total_words : (len : ℕ) (rows : List (List ℕ)) → All IsWord (sum_of_rows len rows)
  -- each of them is the sum of the words at its place
  pub total_word :
      (len : ℕ) (rows : List (List ℕ)) (i : ℕ) → AllOfLength len rows → i < len
      → slice_index (sum_of_rows len rows) i ≡ sum_by (λ row. slice_index row i) rows % 2 ^ 64
  -- the sum of one row of words is that row
  pub total_one : (len : ℕ) (row : List ℕ) → length row ≡ len → All IsWord row → sum_of_rows len (row ∷ []) ≡ row
  -- the sum of two lists of rows end to end is the sum of their sums
  pub total_append :
      (len : ℕ) (rows others : List (List ℕ)) → AllOfLength len others
      → sum_of_rows len (rows ++ others) ≡ row_sum (sum_of_rows len rows) (sum_of_rows len others)
  -- so more weighted rows are added to the sum of the first ones
  pub total_scaled_append :
      (len : ℕ) (weights others : List ℕ) (rows further : List (List ℕ))
      → length weights ≡ length rows → AllOfLength len further
      → sum_of_rows len (scaled_rows (weights ++ others) (rows ++ further))
      ≡ row_sum (sum_of_rows len (scaled_rows weights rows)) (sum_of_rows len (scaled_rows others further))
  -- one more than the first k is added to their sum
  pub total_scaled_more :
      (len : ℕ) (weights : List ℕ) (rows : List (List ℕ)) (k : ℕ)
      → k < length weights → k < length rows → AllOfLength len rows
      → sum_of_rows len (scaled_rows (take (k + 1) weights) (take (k + 1) rows))
      ≡ row_sum (sum_of_rows len (scaled_rows (take k weights) (take k rows)))
      (scaled_row (slice_index weights k) (slice_index_or rows k []))
  -- the sum of sums, pair by pair, is the sum of both sums
  pub total_sums :
      (len : ℕ) (rows others : List (List ℕ)) → length rows ≡ length others
      → sum_of_rows len (zip_rows row_sum rows others) ≡ row_sum (sum_of_rows len rows) (sum_of_rows len others)
  -- that of differences is the difference of both sums
  pub total_differences :
      (len : ℕ) (rows others : List (List ℕ)) → length rows ≡ length others
      → sum_of_rows len (zip_rows row_difference rows others)
      ≡ row_difference (sum_of_rows len rows) (sum_of_rows len others)
  -- a factor goes into a sum
  pub total_scaled :
      (len factor : ℕ) (rows : List (List ℕ))
      → scaled_row factor (sum_of_rows len rows) ≡ sum_of_rows len (map (scaled_row factor) rows)
  -- and so does whatever keeps 0 and sums of two rows, whatever length it gives
  pub total_mapped :
      (len other : ℕ) (f : List ℕ → List ℕ) (rows : List (List ℕ)) → AllOfLength len rows → IsAdditive len other f
      → f (sum_of_rows len rows) ≡ sum_of_rows other (map f rows)
  -- no word of a sum is larger than the number of rows times the bound on theirs
  pub total_within :
      (len bound : ℕ) (rows : List (List ℕ)) → All (RowWithin bound) rows
      → RowWithin (length rows * bound) (sum_of_rows len rows)

-- weighted sums
pub record CombinedLaws : Type 0 where
  -- a weighted sum is a row of words
  pub combined_words : (into weights : List ℕ) (rows : List (List ℕ)) → All IsWord (combined into weights rows)
  -- more terms are added to what the first ones give
  pub combined_append :
      (into weights others : List ℕ) (rows further : List (List ℕ)) → length weights ≡ length rows
      → combined into (weights ++ others) (rows ++ further) ≡ combined (combined into weights rows) others further
  -- each of its words is that of the row that it starts from and the weighted sum at its place
  pub combined_word :
      (into weights : List ℕ) (rows : List (List ℕ)) (i : ℕ) → i < length into
      → slice_index (combined into weights rows) i ≡ word_sum (slice_index into i) (weighted_sum weights rows i)
  -- it is the row that it starts from and the sum of the scaled rows
  pub combined_is :
      (into weights : List ℕ) (rows : List (List ℕ)) → AllOfLength (length into) rows
      → combined into weights rows ≡ row_sum into (sum_of_rows (length into) (scaled_rows weights rows))
  -- so from 0 it is that sum
  pub combined_from_zero :
      (len : ℕ) (weights : List ℕ) (rows : List (List ℕ)) → AllOfLength len rows
      → combined (replicate len 0) weights rows ≡ sum_of_rows len (scaled_rows weights rows)
