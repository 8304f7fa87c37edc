-- Secret keys: what they have to be for the parameters.
use Rattle.std.specs.Prelude.{◌≡◌, ℕ, ◌≤◌, Bool, List, length, map, if◌then◌else◌}
use Rattle.std.specs.List.{count_by}

-- a bit of a key as a word
abbrev pub bit_word : Bool → ℕ
bit_word bit = if bit then 1 else 0

-- the bits of a key as words
abbrev pub bit_words : List Bool → List ℕ
bit_words bits = map bit_word bits

-- how many bits of a key are 1
abbrev pub ones_of : List Bool → ℕ
ones_of bits = count_by (λ bit. bit) bits

-- a secret key, the big one and the small one, has these dimensions; its bits are 0 or 1, as they are truth values
pub record HasDimensions (big_dim small_dim : ℕ) (big small : List Bool) : Type 0 where
  pub big_length : length big ≡ big_dim
  pub small_length : length small ≡ small_dim

-- the part of the fitting keys on the secret: its dimensions, and at most so many ones in each of the two
pub record SecretFits (big_dim big_ones small_dim small_ones : ℕ) (big small : List Bool) : Type 0 where
  pub dimensions : HasDimensions big_dim small_dim big small
  pub few_in_big : ones_of big ≤ big_ones
  pub few_in_small : ones_of small ≤ small_ones
