-- Counts of faults.
use Rattle.std.specs.Prelude.{ℕ, ◌+◌, ◌-◌, ◌^◌, ◌≤◌, min}

-- the count rose; one that stands at the end of its type is taken as risen
abbrev pub Rises : ℕ → ℕ → Type 0
Rises before now = min (before + 1) (2 ^ 64 - 1) ≤ now

-- the two counts of a store that tells nothing else: of the calls that read a file, and of those that write to one
pub record FaultCounts : Type 0 where
  pub reads : ℕ
  pub writes : ℕ

-- no fault so far
abbrev pub no_faults : FaultCounts
no_faults = record { reads = 0; writes = 0 }
