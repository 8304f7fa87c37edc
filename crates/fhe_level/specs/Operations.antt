-- The operations of programs: their operands and the types of what they give.
use Rattle.std.specs.Prelude.{ℕ, List, []}
use Rattle.std.specs.List.{slice_index_or}
use Rattle.fhe_text.specs.declared.source.WrittenType.{WrittenType}
use Rattle.fhe_text.specs.declared.source.WrittenType.TheVariants as types
use Rattle.fhe_level.specs.declared.level.FheOp.{FheOp}
use Rattle.fhe_level.specs.declared.level.FheOp.TheVariants.{Arg, Int, Dense, Apply}

-- the numbers of the operands, in order
abbrev pub operands_of : FheOp → List ℕ
operands_of (Apply name operands ty) = operands
operands_of _ = []

-- the operation on these operands, all else as it is
abbrev pub with_operands : FheOp → List ℕ → FheOp
with_operands (Arg ty) operands = Arg ty
with_operands (Int value bits) operands = Int value bits
with_operands (Dense found count bits) operands = Dense found count bits
with_operands (Apply name others ty) operands = Apply name operands ty

-- the type of what it gives
abbrev pub type_of : FheOp → WrittenType
type_of (Arg ty) = ty
type_of (Int value bits) = types.Int bits
type_of (Dense found count bits) = types.Tensor count bits
type_of (Apply name operands ty) = ty
