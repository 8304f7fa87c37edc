-- The rules of the operations of a circuit as tests, each given the operations before it.
use Rattle.std.specs.Prelude.{ℕ, ◌+◌, ◌-◌, ◌^◌, ◌==◌, nat_lt, nat_le, not, ◌&&◌, ◌||◌, Bool, true, false, List, [], ◌∷◌, length, count_by, Option, Some, None, slice_get, ℤ, pos, ◌+ℤ◌, int_le, int_lt, unsigned_abs}
use Rattle.std.specs.List.{list_all}
use Rattle.std.specs.Ordering.{int_eq}
use Rattle.forms.specs.Limits.{most_inputs, most_outs, most_weight, most_constant, least_number, most_number, most_width}
use Rattle.forms.specs.Forms.{span_of}
use Rattle.tfhe_level.specs.declared.level.TfheOp.{TfheOp}
use Rattle.tfhe_level.specs.declared.level.TfheOp.TheVariants.{Input, Lin, Switch, Boot, Out}
use Rattle.tfhe_level.specs.Limits.{most_lins, most_switches, most_boots}
use Rattle.tfhe_level.specs.Operations.{is_input, is_lin, is_switch, is_boot, is_out, is_leaf, is_big_node}
use Rattle.tfhe_level.specs.Rules.{range_on}

-- a kind has the operation, where there is one
abbrev pub some_is : (TfheOp → Bool) → Option TfheOp → Bool
some_is kind None = false
some_is kind (Some op) = kind op

-- an operation of a kind stands at a place
abbrev pub stands : (TfheOp → Bool) → List TfheOp → ℕ → Bool
stands kind operations place = some_is kind (slice_get operations place)

-- a number that an input, an entry or an out may have
abbrev pub is_number : ℤ → Bool
is_number z = int_le least_number z && int_le z most_number

-- at least one number, and each of those
abbrev pub is_number_range : ℤ → ℤ → Bool
is_number_range lo hi = int_le least_number lo && (int_le lo hi && int_le hi most_number)

-- two ranges are one
abbrev pub is_same_range : ℤ × ℤ → ℤ × ℤ → Bool
is_same_range a b = int_eq a.0 b.0 && int_eq a.1 b.1

-- a term of a weighted sum
abbrev pub is_term : List TfheOp → ℕ × ℤ → Bool
is_term earlier t = stands is_leaf earlier t.0 && (not (int_eq t.1 (pos 0)) && nat_le (unsigned_abs t.1) most_weight)

-- terms rise in their operands, from this number on
unfoldable pub are_rising : ℕ → List (ℕ × ℤ) → Bool
are_rising low [] = true
are_rising low (t ∷ terms) = nat_le low t.0 && are_rising (t.0 + 1) terms

-- an input: only inputs stand before it
abbrev pub keeps_input : List TfheOp → ℤ → ℤ → Bool
keeps_input earlier lo hi =
    (count_by is_input earlier == length earlier) && (is_number_range lo hi && nat_lt (count_by is_input earlier) most_inputs)

-- a weighted sum
abbrev pub keeps_lin : List TfheOp → ℤ → List (ℕ × ℤ) → Bool
keeps_lin earlier constant terms =
    nat_le (unsigned_abs constant) most_constant
    && (list_all (is_term earlier) terms && (are_rising 0 terms && nat_lt (count_by is_lin earlier) most_lins))

-- a key switch: that a bootstrap is on it is not tested here
abbrev pub keeps_switch : List TfheOp → ℕ → Bool
keeps_switch earlier source =
    stands is_big_node earlier source
    && (int_eq (range_on earlier source).0 (pos 0) && nat_lt (count_by is_switch earlier) most_switches)

-- a bootstrap
abbrev pub keeps_boot : List TfheOp → ℕ → List ℤ → Bool
keeps_boot earlier source entries =
    stands is_switch earlier source
    && (int_eq (pos (length entries)) (span_of (range_on earlier source) +ℤ pos 1)
    && (list_all is_number entries && nat_lt (count_by is_boot earlier) most_boots))

-- an out
abbrev pub keeps_out : List TfheOp → ℕ → ℤ → ℤ → Bool
keeps_out earlier source lo hi =
    stands is_big_node earlier source
    && (is_same_range (lo, hi) (range_on earlier source)
    && (is_number_range lo hi && nat_lt (count_by is_out earlier) most_outs))

-- an operation keeps its rule, as far as the operations before it tell
abbrev pub keeps_alone : List TfheOp → TfheOp → Bool
keeps_alone earlier (Input lo hi) = keeps_input earlier lo hi
keeps_alone earlier (Lin constant terms) = keeps_lin earlier constant terms
keeps_alone earlier (Switch source) = keeps_switch earlier source
keeps_alone earlier (Boot source entries) = keeps_boot earlier source entries
keeps_alone earlier (Out source lo hi) = keeps_out earlier source lo hi

-- ---- the width

-- a width holds a range: the greatest number less the least one is below 2^width
abbrev pub holds_range : ℕ → ℤ × ℤ → Bool
holds_range width range = int_lt (span_of range) (pos (2 ^ width))

-- the least width from 1, and at most 16, that holds these ranges
abbrev pub is_least_width : List (ℤ × ℤ) → ℕ → Bool
is_least_width ranges width =
    (nat_le 1 width && nat_le width most_width)
    && (list_all (holds_range width) ranges && (width == 1 || not (list_all (holds_range (width - 1)) ranges)))
