-- Test polynomials: a table of values, laid out so that a rotation brings the encoding of the looked-up entry to
-- coefficient 0 (Chillotti et al. 2020, programmable bootstrapping).
use Rattle.std.specs.Prelude.{ℕ, ℤ, pos, ◌+◌, ◌-◌, ◌/◌, ◌^◌, nat_lt, List, map, if◌then◌else◌}
use Rattle.std.specs.List.{range_with_len, slice_index_or}
use Rattle.word_ring.specs.Words.{word_negation}
use Rattle.lwe_core.specs.Decoding.{encoded}

-- the box: how many coefficients of n stand for one of 2^width values
abbrev pub box_of : ℕ → ℕ → ℕ
box_of n width = n / 2 ^ width

-- half of it
abbrev pub half_box : ℕ → ℕ → ℕ
half_box n width = box_of n width / 2

-- entry v of a table, which is 0 past its end
abbrev pub entry_at : List ℤ → ℕ → ℤ
entry_at entries v = slice_index_or entries v (pos 0)

-- coefficient j of n: the encoding of the entry in whose box it stands, where the boxes begin half a box early; from the
-- last half box on it is minus that of entry 0
abbrev pub test_coefficient : List ℤ → ℕ → ℕ → ℕ → ℕ
test_coefficient entries n width j =
    if nat_lt j (n - half_box n width) then encoded width (entry_at entries ((j + half_box n width) / box_of n width))
    else word_negation (encoded width (entry_at entries 0))

-- the test polynomial of n coefficients for a table of values of so many bits
abbrev pub test_polynomial : List ℤ → ℕ → ℕ → List ℕ
test_polynomial entries n width = map (test_coefficient entries n width) (range_with_len 0 n)
