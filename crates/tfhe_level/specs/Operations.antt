-- The operands of an operation, and the kinds of operations.
use Rattle.std.specs.Prelude.{ℕ, Bool, true, false, List, [], ◌∷◌}
use Rattle.std.specs.List.{slice_index_or}
use Rattle.forms.specs.Terms.{leaves_of, terms_on}
use Rattle.tfhe_level.specs.declared.level.Held.{Held}
use Rattle.tfhe_level.specs.declared.level.Held.TheVariants.{Big, Small}
use Rattle.tfhe_level.specs.declared.level.TfheOp.{TfheOp}
use Rattle.tfhe_level.specs.declared.level.TfheOp.TheVariants.{Input, Lin, Switch, Boot, Out}

-- ---- operands

-- the numbers of the operands, in order
abbrev pub operands_of : TfheOp → List ℕ
operands_of (Input lo hi) = []
operands_of (Lin constant terms) = leaves_of terms
operands_of (Switch source) = source ∷ []
operands_of (Boot source entries) = source ∷ []
operands_of (Out source lo hi) = source ∷ []

-- the first of these operands, where there is one
abbrev pub first_of : List ℕ → ℕ → ℕ
first_of operands other = slice_index_or operands 0 other

-- the operation on these operands, all else as it is
abbrev pub with_operands : TfheOp → List ℕ → TfheOp
with_operands (Input lo hi) operands = Input lo hi
with_operands (Lin constant terms) operands = Lin constant (terms_on terms operands)
with_operands (Switch source) operands = Switch (first_of operands source)
with_operands (Boot source entries) operands = Boot (first_of operands source) entries
with_operands (Out source lo hi) operands = Out (first_of operands source) lo hi

-- the key that the ciphertext of its value is under
abbrev pub held_of : TfheOp → Held
held_of (Input lo hi) = Big
held_of (Lin constant terms) = Big
held_of (Switch source) = Small
held_of (Boot source entries) = Big
held_of (Out source lo hi) = Big

-- ---- kinds

-- an input
abbrev pub is_input : TfheOp → Bool
is_input (Input lo hi) = true
is_input _ = false

-- a weighted sum
abbrev pub is_lin : TfheOp → Bool
is_lin (Lin constant terms) = true
is_lin _ = false

-- a key switch
abbrev pub is_switch : TfheOp → Bool
is_switch (Switch source) = true
is_switch _ = false

-- a bootstrap
abbrev pub is_boot : TfheOp → Bool
is_boot (Boot source entries) = true
is_boot _ = false

-- an out
abbrev pub is_out : TfheOp → Bool
is_out (Out source lo hi) = true
is_out _ = false

-- what a term of a weighted sum may stand on: an input or a bootstrap
abbrev pub is_leaf : TfheOp → Bool
is_leaf (Input lo hi) = true
is_leaf (Boot source entries) = true
is_leaf _ = false

-- what a key switch or an out may stand on: an input, a weighted sum or a bootstrap
abbrev pub is_big_node : TfheOp → Bool
is_big_node (Switch source) = false
is_big_node (Out source lo hi) = false
is_big_node _ = true
