-- Operands that are put in place of others.
use Rattle.std.specs.Prelude.{◌≡◌, ℕ, List, [], ◌∷◌, length, refl}
use Rattle.std.proofs.Common.{arith}
use Rattle.fhe_level.specs.declared.level.FheOp.{FheOp}
use Rattle.fhe_level.specs.declared.level.FheOp.TheVariants.{Arg, Int, Dense, Apply}
use Rattle.fhe_level.specs.Operations.{operands_of, with_operands, type_of}

none_put : (operands : List ℕ) → length operands ≡ 0 → [] ≡ operands
none_put [] same = refl
none_put (operand ∷ operands) same = absurd (omega arith)

-- the operands that are put are those that are read
pub put_is_read : (op : FheOp) (operands : List ℕ) → length operands ≡ length (operands_of op)
    → operands_of (with_operands op operands) ≡ operands
put_is_read (Arg ty) operands same = none_put operands same
put_is_read (Int value bits) operands same = none_put operands same
put_is_read (Dense found count bits) operands same = none_put operands same
put_is_read (Apply name others ty) operands same = refl

-- to put the operands that are there changes nothing
pub own_put_is_same : (op : FheOp) → with_operands op (operands_of op) ≡ op
own_put_is_same (Arg ty) = refl
own_put_is_same (Int value bits) = refl
own_put_is_same (Dense found count bits) = refl
own_put_is_same (Apply name others ty) = refl

-- operands that are put leave nothing of those put before
pub last_put_stays : (op : FheOp) (first last : List ℕ) → length first ≡ length (operands_of op)
    → length last ≡ length (operands_of op) → with_operands (with_operands op first) last ≡ with_operands op last
last_put_stays (Arg ty) first last same_first same_last = refl
last_put_stays (Int value bits) first last same_first same_last = refl
last_put_stays (Dense found count bits) first last same_first same_last = refl
last_put_stays (Apply name others ty) first last same_first same_last = refl

-- the type of what an operation gives does not hang on its operands
pub put_keeps_type : (op : FheOp) (operands : List ℕ) → length operands ≡ length (operands_of op)
    → type_of (with_operands op operands) ≡ type_of op
put_keeps_type (Arg ty) operands same = refl
put_keeps_type (Int value bits) operands same = refl
put_keeps_type (Dense found count bits) operands same = refl
put_keeps_type (Apply name others ty) operands same = refl
