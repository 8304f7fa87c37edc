-- The rows of the operations: what their operands and their results are.
use Rattle.std.specs.Prelude.{ℕ, ◌^◌, ◌==◌, ◌&&◌, Bool, true, false, List, [], ◌∷◌, length}
use Rattle.std.specs.List.{list_all, zip}
use Rattle.fhe_text.specs.declared.source.WrittenType.{WrittenType}
use Rattle.fhe_text.specs.declared.source.WrittenType.TheVariants as types
use Rattle.fhe_text.specs.declared.source.OpName.{OpName}
use Rattle.fhe_text.specs.declared.source.OpName.TheVariants.{AddEint, AddEintInt, SubEint, SubEintInt, SubIntEint, NegEint, MulEintInt, Zero, ApplyLookupTable}
use Rattle.fhe_level.specs.declared.rows.Slot.{Slot}
use Rattle.fhe_level.specs.declared.rows.Slot.TheVariants.{Same, Constant, Index, Table}
use Rattle.fhe_level.specs.Limits.{width_of}

-- what the operands of an operation are, in order: of the type of the result, a constant, the index of a look-up, or
-- its table
abbrev pub row_of : OpName → List Slot
row_of AddEint = Same ∷ Same ∷ []
row_of AddEintInt = Same ∷ Constant ∷ []
row_of SubEint = Same ∷ Same ∷ []
row_of SubEintInt = Same ∷ Constant ∷ []
row_of SubIntEint = Constant ∷ Same ∷ []
row_of NegEint = Same ∷ []
row_of MulEintInt = Same ∷ Constant ∷ []
row_of Zero = []
row_of ApplyLookupTable = Index ∷ Table ∷ []

-- ---- kinds of types

-- an encrypted type
abbrev pub is_eint : WrittenType → Bool
is_eint (types.Eint width) = true
is_eint _ = false

-- the encrypted type of this width
abbrev pub is_eint_of : ℕ → WrittenType → Bool
is_eint_of width (types.Eint other) = other == width
is_eint_of width _ = false

-- the type of a constant number
abbrev pub is_int : WrittenType → Bool
is_int (types.Int bits) = true
is_int _ = false

-- the type of a table
abbrev pub is_tensor : WrittenType → Bool
is_tensor (types.Tensor count bits) = true
is_tensor _ = false

-- how many entries a table of this type has
abbrev pub tensor_length : WrittenType → ℕ
tensor_length (types.Tensor count bits) = count
tensor_length _ = 0

-- ---- the row and the types

-- the type of an operand, where the result is the encrypted type of this width, is that of its place in the row
abbrev pub fits_slot : ℕ → Slot → WrittenType → Bool
fits_slot width Same ty = is_eint_of width ty
fits_slot width Constant ty = is_int ty
fits_slot width Index ty = is_eint ty
fits_slot width Table ty = is_tensor ty

-- so is each of these types that of its place
abbrev pub fit_slots : ℕ → List Slot → List WrittenType → Bool
fit_slots width row written = list_all (λ p. fits_slot width p.0 p.1) (zip row written)

-- the types are those of the row, the length of a table aside
abbrev pub keeps_row : OpName → List WrittenType → WrittenType → Bool
keeps_row name written result = is_eint result && fit_slots (width_of result) (row_of name) written

-- the table of a look-up has an entry for each number of its index
abbrev pub has_table : List WrittenType → Bool
has_table (index ∷ table ∷ others) = tensor_length table == 2 ^ width_of index
has_table _ = false

-- an operation that looks up has such a table
abbrev pub fits_table : OpName → List WrittenType → Bool
fits_table ApplyLookupTable written = has_table written
fits_table _ written = true
