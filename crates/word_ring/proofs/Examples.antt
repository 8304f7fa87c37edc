-- The definitions on small rows.
use Rattle.std.proofs.Common.{◌≡◌, [], ◌∷◌, refl}
use Rattle.word_ring.specs.Rows.{row_sum, row_difference, scaled_rows, combined, sum_of_rows, zip_rows}
use Rattle.word_ring.specs.Rounding.{rounded, mod_switched}

sum_of_two_rows : sum_of_rows 2 ((1 ∷ 18446744073709551615 ∷ []) ∷ (2 ∷ 3 ∷ []) ∷ []) ≡ 3 ∷ 2 ∷ []
sum_of_two_rows = refl

sum_of_no_row : sum_of_rows 3 [] ≡ 0 ∷ 0 ∷ 0 ∷ []
sum_of_no_row = refl

weighted_rows : sum_of_rows 2 (scaled_rows (2 ∷ 18446744073709551615 ∷ []) ((1 ∷ 5 ∷ []) ∷ (2 ∷ 3 ∷ []) ∷ [])) ≡ 0 ∷ 7 ∷ []
weighted_rows = refl

weighted_rows_added : combined (10 ∷ 20 ∷ []) (2 ∷ 18446744073709551615 ∷ []) ((1 ∷ 5 ∷ []) ∷ (2 ∷ 3 ∷ []) ∷ []) ≡ 10 ∷ 27 ∷ []
weighted_rows_added = refl

differences_of_pairs : zip_rows row_difference ((1 ∷ []) ∷ (5 ∷ []) ∷ []) ((2 ∷ []) ∷ (3 ∷ []) ∷ []) ≡ (18446744073709551615 ∷ []) ∷ (2 ∷ []) ∷ []
differences_of_pairs = refl

-- a tie goes up
rounded_tie : rounded 576460752303423488 4 1 ≡ 1152921504606846976
rounded_tie = refl

switched_to_the_last_place : mod_switched 18392700878181105664 8 ≡ 511
switched_to_the_last_place = refl
