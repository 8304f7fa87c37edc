-- Rounding: a word by its highest bits alone, a tie going up.
use Rattle.std.specs.Prelude.{◌≡◌, ℕ, ◌+◌, ◌-◌, ◌*◌, ◌/◌, ◌%◌, ◌^◌, ◌<◌, ◌≤◌}
use Rattle.word_ring.specs.Words.{IsWord, word_difference, size}

-- the distance between the words that `level` digits of `base` bits can stand for
abbrev pub rounding_step : ℕ → ℕ → ℕ
rounding_step base level = 2 ^ (64 - base * level)

-- the multiple of the step nearest to w, a tie going up, modulo 2^64
abbrev pub rounded : ℕ → ℕ → ℕ → ℕ
rounded w base level = (w + rounding_step base level / 2) / rounding_step base level * rounding_step base level % 2 ^ 64

-- the nearest of 2N places, N = 2^log_n, that stand 2^(63-log_n) apart, a tie going up, modulo 2N
abbrev pub mod_switched : ℕ → ℕ → ℕ
mod_switched w log_n = (w + 2 ^ (62 - log_n)) / 2 ^ (63 - log_n) % (2 * 2 ^ log_n)

-- what rounding does to a word
pub record RoundingLaws : Type 0 where
  -- it moves no word by more than half a step
  pub rounding_error :
      (w base level : ℕ) → 1 ≤ base → 1 ≤ level → base * level ≤ 63
      → size (word_difference (rounded w base level) w) ≤ 2 ^ (63 - base * level)
  -- and a tie goes up: half a step past w lies at the rounded word or less than a step above it
  pub rounding_window :
      (w base level : ℕ) → 1 ≤ base → 1 ≤ level → base * level ≤ 63
      → word_difference (w + 2 ^ (63 - base * level)) (rounded w base level) < rounding_step base level
  -- it gives a multiple of the step
  pub rounded_multiple :
      (w base level : ℕ) → 1 ≤ base → 1 ≤ level → base * level ≤ 63
      → rounded w base level % rounding_step base level ≡ 0
  -- that is a word
  pub rounded_word : (w base level : ℕ) → IsWord (rounded w base level)
  -- it sees w modulo 2^64
  pub rounded_residue :
      (w base level : ℕ) → 1 ≤ base → 1 ≤ level → base * level ≤ 63
      → rounded (w % 2 ^ 64) base level ≡ rounded w base level

-- what switching to 2N places does to a word
pub record SwitchingLaws : Type 0 where
  -- the place, taken back to a word, is no more than half a distance away
  pub switching_error :
      (w log_n : ℕ) → log_n ≤ 13
      → size (word_difference (mod_switched w log_n * 2 ^ (63 - log_n)) w) ≤ 2 ^ (62 - log_n)
  -- it is one of the 2N places
  pub switched_below : (w log_n : ℕ) → mod_switched w log_n < 2 * 2 ^ log_n
