-- The balanced digits of a word: the gadget decomposition of Chillotti et al. 2020.
use Rattle.std.specs.Prelude.{◌≡◌, ℕ, ℤ, pos, neg_ℤ, ◌+◌, ◌-◌, ◌*◌, ◌/◌, ◌%◌, ◌^◌, ◌≤◌, ◌<ℤ◌, ◌≤ℤ◌, ◌+ℤ◌, ◌-ℤ◌, ◌*ℤ◌, List, [], ◌∷◌, length, map, All}
use Rattle.std.specs.List.{sum, range_with_len}
use Rattle.word_ring.specs.Words.{word_sum}
use Rattle.word_ring.specs.Rounding.{rounded}
use Rattle.word_ring.specs.Signed.{word_of}

-- how words are taken to digits: at least one bit a digit, at least one digit, and the digits leave a bit of the word
pub record IsGadget (base level : ℕ) : Type 0 where
  pub some_bits : 1 ≤ base
  pub some_digits : 1 ≤ level
  pub fits : base * level ≤ 63

-- a digit of `base` bits: a number in [-2^(base-1), 2^(base-1))
pub record IsDigit (base : ℕ) (digit : ℤ) : Type 0 where
  pub least : neg_ℤ (pos (2 ^ (base - 1))) ≤ℤ digit
  pub most : digit <ℤ pos (2 ^ (base - 1))

-- what a digit at place t counts; place 1 is the highest
abbrev pub place_weight : ℕ → ℕ → ℕ
place_weight base t = 2 ^ (64 - base * t)

-- the weights of the places from 1 to the last
abbrev pub gadget : ℕ → ℕ → List ℕ
gadget base level = map (place_weight base) (range_with_len 1 level)

-- the sum of the digits times the weights of their places, the first digit at place t
abbrev pub weighed_from : ℕ → ℕ → List ℤ → ℤ
weighed_from base t [] = pos 0
weighed_from base t (digit ∷ digits) = (digit *ℤ pos (place_weight base t)) +ℤ weighed_from base (t + 1) digits

-- the digits of a word: `level` of them, whose weighed sum is congruent to the rounded word
pub record IsDecomposition (word base level : ℕ) (digits : List ℤ) : Type 0 where
  pub count : length digits ≡ level
  pub range : All (IsDigit base) digits
  pub sum : word_of (weighed_from base 1 digits) ≡ rounded word base level

-- half of each weight from the word's own, at place 0, to the last place's
abbrev pub half_weights : ℕ → ℕ → ℕ
half_weights base level = sum (map (λ t. 2 ^ (63 - base * t)) (range_with_len 0 (level + 1)))

-- digit t by itself: with the half weights added, the digits are those of plain positional notation, each 2^(base-1)
-- more
abbrev pub digit_of : ℕ → ℕ → ℕ → ℕ → ℤ
digit_of word base level t =
    pos (word_sum word (half_weights base level) / place_weight base t % 2 ^ base) -ℤ pos (2 ^ (base - 1))

-- the digits from place 1 to the last
abbrev pub digits_of : ℕ → ℕ → ℕ → List ℤ
digits_of word base level = map (digit_of word base level) (range_with_len 1 level)

-- and as words
abbrev pub digits_as_words : ℕ → ℕ → ℕ → List ℕ
digits_as_words word base level = map word_of (digits_of word base level)

-- digit t of each coefficient, as a word
abbrev pub digit_polynomial : ℕ → ℕ → ℕ → List ℕ → List ℕ
digit_polynomial base level t p = map (λ word. word_of (digit_of word base level t)) p

-- the digit polynomials from place 1 to the last
abbrev pub digit_polynomials : ℕ → ℕ → List ℕ → List (List ℕ)
digit_polynomials base level p = map (λ t. digit_polynomial base level t p) (range_with_len 1 level)

-- each coefficient rounded
abbrev pub rounded_polynomial : ℕ → ℕ → List ℕ → List ℕ
rounded_polynomial base level p = map (λ word. rounded word base level) p
