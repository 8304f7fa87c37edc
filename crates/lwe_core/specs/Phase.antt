-- Phases: what a secret key reads in a ciphertext, the message with its error.
use Rattle.std.specs.Prelude.{◌≡◌, ℕ, ◌+◌, ◌++◌, [], ◌∷◌, Bool, cond, List, length, replicate, slice_index, slice_set}
use Rattle.std.specs.List.{zip, sum_by}
use Rattle.word_ring.specs.Words.{word_sum, word_difference}

-- a ciphertext of the key's dimension: a mask word for each bit, and the body
abbrev pub FitsKey : List Bool → List ℕ → Type 0
FitsKey bits words = length words ≡ length bits + 1

-- the sum of the mask words whose bit of the key is 1, in ℕ
abbrev pub masked_sum : List Bool → List ℕ → ℕ
masked_sum bits words = sum_by (λ p. cond p.0 p.1 0) (zip bits words)

-- the body minus the mask words whose bit is 1, modulo 2^64; the body stands after the mask
abbrev pub phase_of : List Bool → List ℕ → ℕ
phase_of bits words = word_difference (slice_index words (length bits)) (masked_sum bits words)

-- the ciphertext of a phase under the mask of these words: only the body is new
abbrev pub sealed : List Bool → List ℕ → ℕ → List ℕ
sealed bits words phase = slice_set words (length bits) (word_sum phase (masked_sum bits words))

-- the ciphertext whose mask of so many words is 0
abbrev pub trivial : ℕ → ℕ → List ℕ
trivial dim body = replicate dim 0 ++ body ∷ []

-- the ciphertext with a word added to its body, which stands behind so many mask words
abbrev pub with_message : ℕ → List ℕ → ℕ → List ℕ
with_message dim words message = slice_set words dim (word_sum (slice_index words dim) message)
