-- The definitions on worked words.
use Rattle.std.proofs.Common.{◌≡◌, [], ◌∷◌, refl}
use Rattle.std.specs.Prelude.{pos, negsuc}
use Rattle.gadget_decomp.specs.Decomposition.{gadget, weighed_from, digits_of, digits_as_words, digit_polynomials, rounded_polynomial}

-- half of the circle is the least digit
least_digit : digits_of 9223372036854775808 4 1 ≡ negsuc 7 ∷ []
least_digit = refl

-- a tie goes up
tie_up : digits_of 576460752303423488 4 1 ≡ pos 1 ∷ []
tie_up = refl

two_digits : digits_of 1729382256910270464 4 2 ≡ pos 2 ∷ negsuc 7 ∷ []
two_digits = refl

two_digits_weighed : weighed_from 4 1 (pos 2 ∷ negsuc 7 ∷ []) ≡ pos 1729382256910270464
two_digits_weighed = refl

two_digits_as_words : digits_as_words 1729382256910270464 4 2 ≡ 2 ∷ 18446744073709551608 ∷ []
two_digits_as_words = refl

two_weights : gadget 4 2 ≡ 1152921504606846976 ∷ 72057594037927936 ∷ []
two_weights = refl

digits_of_two_coefficients : digit_polynomials 4 2 (1729382256910270464 ∷ 9223372036854775808 ∷ []) ≡ (2 ∷ 18446744073709551608 ∷ []) ∷ (18446744073709551608 ∷ 0 ∷ []) ∷ []
digits_of_two_coefficients = refl

two_rounded : rounded_polynomial 4 1 (576460752303423487 ∷ 576460752303423488 ∷ []) ≡ 0 ∷ 1152921504606846976 ∷ []
two_rounded = refl
