-- The limits of patterns and of circuits, as far as they are the same.
use Rattle.std.specs.Prelude.{ℕ, ◌-◌, ◌^◌, ℤ, pos, neg_ℤ}

-- the arguments of a program, and the inputs of a circuit
abbrev pub most_inputs : ℕ
most_inputs = 64

-- the results, and the outs
abbrev pub most_outs : ℕ
most_outs = 64

-- the size of a weight
abbrev pub most_weight : ℕ
most_weight = 2 ^ 40

-- the size of the constant of a form
abbrev pub most_constant : ℕ
most_constant = 2 ^ 41

-- the least number of an argument, of a table's entry and of a result
abbrev pub least_number : ℤ
least_number = neg_ℤ (pos (2 ^ 15))

-- the greatest such number
abbrev pub most_number : ℤ
most_number = pos (2 ^ 16 - 1)

-- the bits of a message
abbrev pub most_width : ℕ
most_width = 16
