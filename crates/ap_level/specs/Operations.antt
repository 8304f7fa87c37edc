-- The operands of an operation, and the kinds of operations.
use Rattle.std.specs.Prelude.{ℕ, Bool, true, false, List, []}
use Rattle.forms.specs.Terms.{leaves_of, terms_on}
use Rattle.ap_level.specs.declared.level.ApOp.{ApOp}
use Rattle.ap_level.specs.declared.level.ApOp.TheVariants.{Input, Look, Out}

-- the numbers of the operands, in order: the leaves of a form
abbrev pub operands_of : ApOp → List ℕ
operands_of (Input lo hi) = []
operands_of (Look constant terms entries) = leaves_of terms
operands_of (Out constant terms) = leaves_of terms

-- the operation on these operands, all else as it is
abbrev pub with_operands : ApOp → List ℕ → ApOp
with_operands (Input lo hi) operands = Input lo hi
with_operands (Look constant terms entries) operands = Look constant (terms_on terms operands) entries
with_operands (Out constant terms) operands = Out constant (terms_on terms operands)

-- an argument
abbrev pub is_input : ApOp → Bool
is_input (Input lo hi) = true
is_input _ = false

-- a look-up
abbrev pub is_look : ApOp → Bool
is_look (Look constant terms entries) = true
is_look _ = false

-- a result
abbrev pub is_out : ApOp → Bool
is_out (Out constant terms) = true
is_out _ = false

-- a leaf of forms: an argument or a look-up
abbrev pub is_leaf : ApOp → Bool
is_leaf (Out constant terms) = false
is_leaf _ = true
