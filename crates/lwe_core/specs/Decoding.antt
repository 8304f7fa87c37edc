-- Values in phases: from a value to the place it stands at, and back.
use Rattle.std.specs.Prelude.{ℕ, ℤ, pos, ◌+ℤ◌, ◌-ℤ◌, ◌*ℤ◌, ◌-◌, ◌/◌, ◌^◌}
use Rattle.word_ring.specs.Words.{word_product}
use Rattle.word_ring.specs.Signed.{word_of}

-- the distance between the phases of neighbouring values at a width: v stands at v*2^(63-P)
abbrev pub value_step : ℕ → ℕ
value_step width = 2 ^ (63 - width)

-- the place of a value: v*2^(63-P) modulo 2^64
abbrev pub encoded : ℕ → ℤ → ℕ
encoded width value = word_product (word_of value) (value_step width)

-- the offset over lo of the value nearest to a phase, a tie going up: floor(((w - lo*2^(63-P) + 2^(62-P)) mod 2^64) / 2^(63-P))
abbrev pub decoded : ℕ → ℕ → ℤ → ℕ
decoded phase width lo = word_of ((pos phase -ℤ lo *ℤ pos (value_step width)) +ℤ pos (2 ^ (62 - width))) / value_step width
