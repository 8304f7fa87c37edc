-- The limits of patterns, beside those that patterns share with circuits.
use Rattle.std.specs.Prelude.{ℕ}

-- the look-ups
abbrev pub most_looks : ℕ
most_looks = 1024
