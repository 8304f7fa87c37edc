-- The limits of parameters and of tables.
use Rattle.std.specs.Prelude.{ℕ, ◌*◌, ◌^◌}

-- the mask polynomials of a ciphertext of the ring
abbrev pub most_polynomials : ℕ
most_polynomials = 3

-- the logarithm of the number of their coefficients
abbrev pub most_log_n : ℕ
most_log_n = 13

-- the dimension of big ciphertexts: 24,576
abbrev pub most_dimension : ℕ
most_dimension = most_polynomials * 2 ^ most_log_n

-- the dimension of small ciphertexts
abbrev pub most_small_dimension : ℕ
most_small_dimension = 1024

-- errors of fresh ciphertexts are below it
abbrev pub error_limit : ℕ
error_limit = 2 ^ 62

-- the bits of a digit
abbrev pub most_base : ℕ
most_base = 31

-- the bits of all digits of a word
abbrev pub most_digit_bits : ℕ
most_digit_bits = 63

-- the weights of a cost
abbrev pub most_weight : ℕ
most_weight = 2 ^ 20

-- the entries of a list of a table
abbrev pub most_entries : ℕ
most_entries = 12
