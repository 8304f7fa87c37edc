-- Going over the lines once: what is known of them before all are seen.
use Rattle.std.specs.Prelude.{ℕ, suc, ◌+◌, nat_lt, not, ◌&&◌, ◌||◌, Bool, true, false, List, [], ◌∷◌, ◌++◌, length, replicate, slice_set, Option, Some, None, ℤ, pos, int_le, int_lt, unsigned_abs, if◌then◌else◌}
use Rattle.std.specs.List.{slice_index_or}
use Rattle.circuit_lines.specs.declared.line.Line.{Line}
use Rattle.circuit_lines.specs.declared.line.Line.TheVariants.{Boot as BootLine}
use Rattle.tfhe_level.specs.declared.level.TfheOp.{TfheOp}
use Rattle.tfhe_level.specs.Operations.{is_switch}
use Rattle.circuit_nodes.specs.Tests.{stands}
use Rattle.circuit_nodes.specs.Lines.{op_of, keeps_line}

-- the most operations of a circuit: inputs, weighted sums, key switches, bootstraps and outs
abbrev pub most_operations : ℕ
most_operations = 64 + 1088 + 1024 + 1024 + 64

-- the operations in front whose lines keep their rules as far as those before them tell; whether one line did not; and
-- the numbers that lines of bootstraps name
pub record Walk : Type 0 where
  pub operations : List TfheOp
  pub broken : Bool
  pub named : List Bool

-- before the first line
abbrev pub start : Walk
start = record { operations = []; broken = false; named = replicate most_operations false }

-- the names with that of a line
abbrev pub with_name : List Bool → Line → List Bool
with_name named (BootLine number source entries) =
    if int_le (pos 0) source && int_lt source (pos (length named)) then slice_set named (unsigned_abs source) true else named
with_name named _ = named

-- a line more
abbrev pub step : Walk → Line → Walk
step w line = record {
  operations = if not w.broken && keeps_line w.operations line then w.operations ++ op_of line ∷ [] else w.operations;
  broken = w.broken || not (keeps_line w.operations line);
  named = with_name w.named line;
}

-- all lines, one after the other
abbrev pub walk_from : Walk → List Line → Walk
walk_from w [] = w
walk_from w (line ∷ lines) = walk_from (step w line) lines

-- how many of these operations stand before the first key switch that is not named, from this number on
abbrev pub used_from : List Bool → ℕ → List TfheOp → ℕ
used_from named number [] = 0
used_from named number (op ∷ operations) =
    if is_switch op && not (slice_index_or named number false) then 0 else suc (used_from named (number + 1) operations)

-- a key switch at a place that is not named
abbrev pub is_unused : List Bool → List TfheOp → ℕ → Bool
is_unused named operations place = stands is_switch operations place && not (slice_index_or named place false)

-- the place of the first line that breaks its rule, after all lines
abbrev pub broken_place : Walk → Option ℕ
broken_place w =
    let used : ℕ = used_from w.named 0 w.operations in
    if nat_lt used (length w.operations) || w.broken then Some used else None
