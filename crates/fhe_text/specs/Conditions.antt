-- What must hold of a token in its role behind those before it, and the kind of the fault where it does not.
use Rattle.std.specs.Prelude.{ℕ, ◌-◌, ◌==◌, nat_lt, not, ◌&&◌, ◌||◌, Bool, true, false, IsTrue, List, [], ◌∷◌, ◌++◌, length, take, map, find, is_some, Option, ℤ, codes, if◌then◌else◌}
use Rattle.std.specs.List.{list_any, list_all, after_last}
use Rattle.std.specs.Str.{bytes_eq}
use Rattle.fhe_text.specs.declared.source.OpName.{OpName}
use Rattle.fhe_text.specs.declared.source.OpName.TheVariants.{AddEint, AddEintInt, SubEint, SubEintInt, SubIntEint, NegEint, MulEintInt, Zero, ApplyLookupTable}
use Rattle.fhe_text.specs.declared.fault.TextKind.{TextKind}
use Rattle.fhe_text.specs.declared.fault.TextKind.TheVariants.{Syntax, Name, Op, Constant, Shape}
use Rattle.fhe_text.specs.Numbers.{number_of, fits_bits, signed_of, length_of, itype_of, xtype_of, or_zero}
use Rattle.fhe_text.specs.Roles.{Spelled, Role, tensor_length, argument, range_word, range_low, range_high, statement, number, number_type, item, splat, dense_length, dense_cell, operation, operand, return_word, returned, fits}

-- a token in its role
abbrev pub Part : Type 0
Part = Role × Spelled

-- ---- the operations

-- the name of an operation
abbrev pub op_text : OpName → List ℕ
op_text AddEint = codes "FHE.add_eint"
op_text AddEintInt = codes "FHE.add_eint_int"
op_text SubEint = codes "FHE.sub_eint"
op_text SubEintInt = codes "FHE.sub_eint_int"
op_text SubIntEint = codes "FHE.sub_int_eint"
op_text NegEint = codes "FHE.neg_eint"
op_text MulEintInt = codes "FHE.mul_eint_int"
op_text Zero = codes "FHE.zero"
op_text ApplyLookupTable = codes "FHE.apply_lookup_table"

-- all of them
abbrev pub op_names : List OpName
op_names = AddEint ∷ AddEintInt ∷ SubEint ∷ SubEintInt ∷ SubIntEint ∷ NegEint ∷ MulEintInt ∷ Zero ∷ ApplyLookupTable ∷ []

-- a text between quotes (34)
abbrev pub quoted : List ℕ → List ℕ
quoted text = 34 ∷ (text ++ 34 ∷ [])

-- the operation that a STRING names
abbrev pub op_of : List ℕ → Option OpName
op_of text = find (λ name. bytes_eq text (quoted (op_text name))) op_names

-- ---- what stands before

-- a name is defined where it stands in the role
abbrev pub defines : Role → Bool
defines argument = true
defines statement = true
defines _ = false

-- the bytes of the tokens whose role passes the test, in order
abbrev pub texts_in : (Role → Bool) → List Part → List (List ℕ)
texts_in test [] = []
texts_in test (part ∷ parts) = if test part.0 then part.1.1 ∷ texts_in test parts else texts_in test parts

-- the names that are defined, in order
abbrev pub names_of : List Part → List (List ℕ)
names_of parts = texts_in defines parts

-- the name is one of them
abbrev pub is_among : List (List ℕ) → List ℕ → Bool
is_among names name = list_any (bytes_eq name) names

-- the role of an argument's name
abbrev pub is_argument : Role → Bool
is_argument argument = true
is_argument _ = false

-- the role of a range's first word
abbrev pub is_range_word : Role → Bool
is_range_word range_word = true
is_range_word _ = false

-- the role of a statement's name
abbrev pub is_statement : Role → Bool
is_statement statement = true
is_statement _ = false

-- the role of an INT of a list
abbrev pub is_item : Role → Bool
is_item item = true
is_item _ = false

-- the role of an INT of a constant
abbrev pub is_number : Role → Bool
is_number number = true
is_number item = true
is_number splat = true
is_number _ = false

-- what stands behind the last token whose role passes the test
abbrev pub behind_last : (Role → Bool) → List Part → List Part
behind_last test parts = after_last (λ part. test part.0) parts

-- the INTs of the constant that is being written
abbrev pub numbers_before : List Part → List ℤ
numbers_before before = map number_of (texts_in is_number (behind_last is_statement before))

-- how many of them stand in a list
abbrev pub items_before : List Part → ℕ
items_before before = length (texts_in is_item (behind_last is_statement before))

-- the numbers that so many bits hold
abbrev pub all_fit : ℕ → List ℤ → Bool
all_fit bits numbers = list_all (fits_bits bits) numbers

-- the length is the list's, where there is a list
abbrev pub is_length_of : ℕ → ℕ → Bool
is_length_of items count = items == 0 || items == count

-- ---- the conditions

-- what must hold of the bytes of a token in its role, behind those before it: a name that is defined is new; an
-- operand is defined before its own statement, whose name is the last; a returned value is defined
abbrev pub meets : List Part → Role → List ℕ → Bool
meets before argument name = not (is_among (names_of before) name)
meets before statement name = not (is_among (names_of before) name)
meets before operand name = is_among (take (length (names_of before) - 1) (names_of before)) name
meets before returned name = is_among (names_of before) name
meets before operation text = is_some (op_of text)
meets before range_word text = not (list_any (λ part. is_range_word part.0) (behind_last is_argument before))
meets before range_low text = is_some (signed_of 128 text)
meets before range_high text = is_some (signed_of 128 text)
meets before (tensor_length place) text = is_some (length_of text)
meets before dense_length text = is_some (length_of text) && is_length_of (items_before before) (or_zero (length_of text))
meets before number_type text = all_fit (or_zero (itype_of text)) (numbers_before before)
meets before dense_cell text = all_fit (or_zero (xtype_of text)) (numbers_before before)
meets before return_word text = nat_lt 0 (length (names_of before))
meets before _ text = true

-- the kind of the fault at a token that may stand in the role, but for its condition
abbrev pub fault_kind : Role → TextKind
fault_kind argument = Name
fault_kind statement = Name
fault_kind operand = Name
fault_kind returned = Name
fault_kind operation = Op
fault_kind number_type = Constant
fault_kind dense_cell = Constant
fault_kind range_low = Constant
fault_kind range_high = Constant
fault_kind (tensor_length place) = Shape
fault_kind dense_length = Shape
fault_kind _ = Syntax

-- each token may stand in its role, and its condition holds behind those before it
abbrev pub MeetConditions : List Part → List Part → Type 0
MeetConditions before [] = Unit {0}
MeetConditions before (part ∷ parts) =
    IsTrue (fits part.0 part.1) × IsTrue (meets before part.0 part.1.1) × MeetConditions (before ++ part ∷ []) parts
