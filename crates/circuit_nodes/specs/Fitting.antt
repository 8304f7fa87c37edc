-- Lines whose numbers the fields of an operation hold.
use Rattle.std.specs.Prelude.{ℕ, ◌^◌, ◌-◌, ◌&&◌, Bool, List, Option, Some, None, ℤ, pos, neg_ℤ, int_le, int_lt, if◌then◌else◌}
use Rattle.std.specs.List.{list_all}
use Rattle.circuit_lines.specs.declared.line.Line.{Line}
use Rattle.circuit_lines.specs.declared.line.Line.TheVariants.{Input as InputLine, Lin as LinLine, Switch as SwitchLine, Boot as BootLine, Out as OutLine}
use Rattle.tfhe_level.specs.declared.level.TfheOp.{TfheOp}
use Rattle.circuit_nodes.specs.Lines.{op_of}

-- a number of 32 bits
abbrev pub is_place : ℤ → Bool
is_place z = int_le (pos 0) z && int_lt z (pos (2 ^ 32))

-- a number of 64 bits with a sign
abbrev pub is_narrow : ℤ → Bool
is_narrow z = int_le (neg_ℤ (pos (2 ^ 63))) z && int_lt z (pos (2 ^ 63))

-- both numbers of a term
abbrev pub is_narrow_term : ℤ × ℤ → Bool
is_narrow_term t = is_place t.0 && is_narrow t.1

-- all numbers of a line but its own
abbrev pub fits : Line → Bool
fits (InputLine number lo hi) = is_narrow lo && is_narrow hi
fits (LinLine number constant terms) = is_narrow constant && list_all is_narrow_term terms
fits (SwitchLine number source) = is_place source
fits (BootLine number source entries) = is_place source && list_all is_narrow entries
fits (OutLine source lo hi) = is_place source && (is_narrow lo && is_narrow hi)

-- the operation of a line, where they fit
abbrev pub fitting_op : Line → Option TfheOp
fitting_op line = if fits line then Some (op_of line) else None
