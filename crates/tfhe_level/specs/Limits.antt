-- The limits of circuits, beside those that circuits share with patterns.
use Rattle.std.specs.Prelude.{ℕ}

-- the weighted sums
abbrev pub most_lins : ℕ
most_lins = 1088

-- the key switches
abbrev pub most_switches : ℕ
most_switches = 1024

-- the bootstraps
abbrev pub most_boots : ℕ
most_boots = 1024
