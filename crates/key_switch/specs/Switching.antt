-- Switching a ciphertext from the big key to the small one (Chillotti et al. 2020, key switching).
use Rattle.std.specs.Prelude.{ℕ, ◌+◌, ◌-◌, ◌*◌, ◌^◌, List, take, slice_index}
use Rattle.std.specs.List.{flat_map}
use Rattle.word_ring.specs.Rows.{row_difference, sum_of_rows, scaled_rows}
use Rattle.lwe_core.specs.Phase.{trivial}
use Rattle.gadget_decomp.specs.Decomposition.{digits_as_words}
use Rattle.key_switch.specs.Key.{SwitchRows}

-- the digits of each word of a mask in order: digit t of word i stands where row (i, t) of a key does
abbrev pub mask_digits : ℕ → ℕ → List ℕ → List ℕ
mask_digits base level mask = flat_map (λ word. digits_as_words word base level) mask

-- (0, .., 0, b) minus the sum of the rows, each times its digit of the mask
abbrev pub switched : SwitchRows → List ℕ → List ℕ
switched key words =
    row_difference (trivial key.small_dim (slice_index words key.big_dim))
    (sum_of_rows (key.small_dim + 1) (scaled_rows (mask_digits key.base key.level (take key.big_dim words)) key.rows))

-- by how much a switch moves a phase at most: for each row the greatest digit times the error, and for each one of the
-- big key half the weight of the last place, which rounding may leave
abbrev pub switch_noise : ℕ → ℕ → ℕ → ℕ → ℕ → ℕ
switch_noise big_dim base level big_ones error =
    big_dim * level * 2 ^ (base - 1) * error + big_ones * 2 ^ (63 - base * level)
