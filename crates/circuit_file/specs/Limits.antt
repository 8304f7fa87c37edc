-- The limits of circuit texts.
use Rattle.std.specs.Prelude.{ℕ, ◌^◌}

-- the bytes of a circuit text
abbrev pub circuit_limit : ℕ
circuit_limit = 2 ^ 27
