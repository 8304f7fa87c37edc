-- The definitions on the worked sum: 3 with an error of 1, at width 2 under the key (1, 0).
use Rattle.std.proofs.Common.{◌≡◌, pos, [], ◌∷◌, true, false, refl}
use Rattle.lwe_core.specs.Secret.{bit_words, ones_of}
use Rattle.lwe_core.specs.Phase.{phase_of, sealed, trivial}
use Rattle.lwe_core.specs.Decoding.{encoded, decoded}
use Rattle.lwe_core.specs.Encrypts.{centred_error}

phase_of_the_sum : phase_of (true ∷ false ∷ []) (4 ∷ 7 ∷ 6917529027641081861 ∷ []) ≡ 6917529027641081857
phase_of_the_sum = refl

place_of_three : encoded 2 (pos 3) ≡ 6917529027641081856
place_of_three = refl

error_of_the_sum : centred_error 6917529027641081857 (pos 3) 2 ≡ pos 1
error_of_the_sum = refl

value_of_the_sum : decoded 6917529027641081857 2 (pos 0) ≡ 3
value_of_the_sum = refl

sealed_with_the_error : sealed (true ∷ false ∷ []) (5 ∷ 7 ∷ 9 ∷ []) 6917529027641081857 ≡ 5 ∷ 7 ∷ 6917529027641081862 ∷ []
sealed_with_the_error = refl

phase_of_the_trivial : phase_of (true ∷ true ∷ []) (trivial 2 9) ≡ 9
phase_of_the_trivial = refl

bits_of_a_key : bit_words (true ∷ false ∷ true ∷ []) ≡ 1 ∷ 0 ∷ 1 ∷ []
bits_of_a_key = refl

ones_of_a_key : ones_of (true ∷ false ∷ true ∷ []) ≡ 2
ones_of_a_key = refl
