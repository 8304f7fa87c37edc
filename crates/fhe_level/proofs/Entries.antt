-- What the rows of operations say of the numbers of their operands.
use Rattle.std.proofs.Common.{◌≡◌, ℕ, ◌-◌, ◌^◌, ◌<◌, ◌≤◌, ◌==◌, Bool, true, false, List, [], ◌∷◌, length, map, refl, sym, ap, ◌∙◌, arith, Option, Some, None}
use Rattle.std.specs.Prelude.{ℤ, pos, IsTrue, ◌&&◌, ◌≤ℤ◌, ◌<ℤ◌}
use Rattle.std.proofs.lemmas.Int.{ints}
use Rattle.std.proofs.lemmas.Bool.{false≢true, eqb-true}
use Rattle.std.proofs.Math.Pow.{pow_mono}
use Rattle.fhe_text.specs.declared.source.WrittenType.{WrittenType}
use Rattle.fhe_text.specs.declared.source.WrittenType.TheVariants as types
use Rattle.fhe_text.specs.declared.source.OpName.{OpName}
use Rattle.fhe_text.specs.declared.source.OpName.TheVariants.{AddEint, AddEintInt, SubEint, SubEintInt, SubIntEint, NegEint, MulEintInt, Zero, ApplyLookupTable}
use Rattle.fhe_text.specs.declared.source.Entries.TheVariants as tables
use Rattle.fhe_level.specs.declared.level.FheOp.{FheOp}
use Rattle.fhe_level.specs.declared.level.FheOp.TheVariants as ops
use Rattle.fhe_level.specs.Limits.{width_of}
use Rattle.fhe_level.specs.Rows.{row_of, is_eint, is_tensor, tensor_length, keeps_row, fits_table, fit_slots}
use Rattle.fhe_level.specs.Operations.{type_of}
use Rattle.fhe_level.specs.Programs.{Value, number, table, number_in, operand_at, apply, value_of}
use Rattle.fhe_level.specs.Clearing.{HasWidth, HasEntries, IsNumberOf}
use Rattle.fhe_level.specs.Room.{held, IsIndexIn, CanApply}

-- ---- numbers

-- a number of the type of a result is below 2^16
pub bounded : (name : OpName) (written : List WrittenType) (ty : WrittenType) (z : ℤ) → keeps_row name written ty ≡ true → HasWidth ty
    → IsNumberOf ty z → (pos 0 ≤ℤ z) × (z <ℤ pos (2 ^ 16))
bounded name written (types.Eint width) z keeps wide is =
    let most : 2 ^ width ≤ 2 ^ 16 = pow_mono {i = width} {j = 16} wide.1 in
    (is.0, omega (arith, ints, is.1, most))
bounded name written (types.Int bits) z keeps wide is = absurd (false≢true keeps)
bounded name written (types.Tensor count bits) z keeps wide is = absurd (false≢true keeps)

-- an operation can be applied where what it gives fits, and a look-up where it finds its entry
pub can_apply : (name : OpName) (operands : List Value) → (pos 0 ≤ℤ apply name operands) × (apply name operands <ℤ pos (2 ^ 16))
    → (name ≡ ApplyLookupTable → IsIndexIn (operand_at operands 1) (number_in (operand_at operands 0))) → CanApply name operands
can_apply AddEint operands fits index = fits
can_apply AddEintInt operands fits index = fits
can_apply SubEint operands fits index = fits
can_apply SubEintInt operands fits index = fits
can_apply SubIntEint operands fits index = fits
can_apply NegEint operands fits index = fits
can_apply MulEintInt operands fits index = fits
can_apply Zero operands fits index = fits
can_apply ApplyLookupTable operands fits index = index refl

-- ---- values

-- the value of an operation whose number is known
pub held_is : (op : FheOp) (inputs : List ℤ) (earlier : List (ℕ × Value)) (z : ℤ) → z ≡ number_in (value_of inputs earlier op)
    → held z op ≡ value_of inputs earlier op
held_is (ops.Arg ty) inputs earlier z is = ap number is
held_is (ops.Int value bits) inputs earlier z is = ap number is
held_is (ops.Dense found count bits) inputs earlier z is = refl
held_is (ops.Apply name operands ty) inputs earlier z is = ap number is
