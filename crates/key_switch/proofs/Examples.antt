-- The definitions on the worked switch: the big key (1), the small key (0), one digit of 4 bits, and one row.
use Rattle.std.proofs.Common.{◌≡◌, ◌≤◌, ℕ, [], ◌∷◌, true, false, refl, subst, arith}
use Rattle.std.proofs.lemmas.List.Elements.{All-nil, All-cons}
use Rattle.word_ring.specs.Words.{word_difference, size}
use Rattle.lwe_core.specs.Phase.{FitsKey, phase_of}
use Rattle.key_switch.specs.Key.{SwitchRows, SwitchRowsFit, row_of, message_of, place_of, with_row, zero_key}
use Rattle.key_switch.specs.Switching.{mask_digits, switched, switch_noise}

abbrev one_row : SwitchRows
one_row = with_row (zero_key 1 1 4 1) 0 1 (7 ∷ 1152921504606846976 ∷ [])

words_of_the_row : row_of 1 one_row.rows 0 1 ≡ 7 ∷ 1152921504606846976 ∷ []
words_of_the_row = refl

message_of_the_row : message_of 4 (true ∷ []) 0 1 ≡ phase_of (false ∷ []) (row_of 1 one_row.rows 0 1)
message_of_the_row = refl

-- so the row fits the two keys without an error
the_row_fits : SwitchRowsFit 4 1 0 (true ∷ []) (false ∷ []) one_row.rows
the_row_fits = record {
  count = refl;
  long = All-cons (FitsKey (false ∷ [])) (7 ∷ 1152921504606846976 ∷ []) [] refl (All-nil (FitsKey (false ∷ [])));
  near =
      λ i t inside least most.
      let bit : 0 ≡ i = omega arith in
      let place : 1 ≡ t = omega arith in
      let error : ℕ → ℕ → ℕ = λ j u. size (word_difference (phase_of (false ∷ []) (row_of 1 one_row.rows j u)) (message_of 4 (true ∷ []) j u)) in
      let none : error 0 1 ≤ 0 = omega arith in
      subst (λ j. error j t ≤ 0) bit (subst (λ u. error 0 u ≤ 0) place none);
}

digit_of_the_mask : mask_digits 4 1 (2305843009213693952 ∷ []) ≡ 2 ∷ []
digit_of_the_mask = refl

words_switched : switched one_row (2305843009213693952 ∷ 5 ∷ []) ≡ 18446744073709551602 ∷ 16140901064495857669 ∷ []
words_switched = refl

-- 5 - 2^61 before and after
phase_before : phase_of (true ∷ []) (2305843009213693952 ∷ 5 ∷ []) ≡ 16140901064495857669
phase_before = refl

phase_after : phase_of (false ∷ []) (switched one_row (2305843009213693952 ∷ 5 ∷ [])) ≡ 16140901064495857669
phase_after = refl

-- the rows of a bit stand together
place_of_a_row : place_of 4 2 3 ≡ 10
place_of_a_row = refl

-- 4 words of 3 digits of at most 8 times 1000, and 4 times half of the last place
noise_of_a_switch : switch_noise 4 4 3 4 1000 ≡ 9007199254836992
noise_of_a_switch = refl
