-- The lines of nodes and outs as operations, and the first line that breaks a rule.
use Rattle.std.specs.Prelude.{ℕ, suc, ◌+◌, nat_lt, ◌&&◌, Bool, Option, Some, None, true, false, List, [], ◌∷◌, ◌++◌, length, map, ℤ, pos, int_le, unsigned_abs, if◌then◌else◌}
use Rattle.std.specs.List.{list_all, list_any}
use Rattle.std.specs.Ordering.{int_eq}
use Rattle.circuit_lines.specs.declared.line.Line.{Line}
use Rattle.circuit_lines.specs.declared.line.Line.TheVariants.{Input as InputLine, Lin as LinLine, Switch as SwitchLine, Boot as BootLine, Out as OutLine}
use Rattle.tfhe_level.specs.declared.level.TfheOp.{TfheOp}
use Rattle.tfhe_level.specs.declared.level.TfheOp.TheVariants.{Input, Lin, Switch, Boot, Out}
use Rattle.tfhe_level.specs.Operations.{is_switch}
use Rattle.circuit_nodes.specs.Tests.{keeps_alone}

-- the operation of a line
abbrev pub op_of : Line → TfheOp
op_of (InputLine number lo hi) = Input lo hi
op_of (LinLine number constant terms) = Lin constant (map (λ t. (unsigned_abs t.0, t.1)) terms)
op_of (SwitchLine number source) = Switch (unsigned_abs source)
op_of (BootLine number source entries) = Boot (unsigned_abs source) entries
op_of (OutLine source lo hi) = Out (unsigned_abs source) lo hi

-- a line has the number of its node; an out has none
abbrev pub is_numbered : ℕ → Line → Bool
is_numbered place (InputLine number lo hi) = int_eq number (pos place)
is_numbered place (LinLine number constant terms) = int_eq number (pos place)
is_numbered place (SwitchLine number source) = int_eq number (pos place)
is_numbered place (BootLine number source entries) = int_eq number (pos place)
is_numbered place (OutLine source lo hi) = true

-- no operand is a number below 0
abbrev pub are_natural : Line → Bool
are_natural (InputLine number lo hi) = true
are_natural (LinLine number constant terms) = list_all (λ t. int_le (pos 0) t.0) terms
are_natural (SwitchLine number source) = int_le (pos 0) source
are_natural (BootLine number source entries) = int_le (pos 0) source
are_natural (OutLine source lo hi) = int_le (pos 0) source

-- a line keeps its rule, as far as the operations before it tell
abbrev pub keeps_line : List TfheOp → Line → Bool
keeps_line earlier line = is_numbered (length earlier) line && (are_natural line && keeps_alone earlier (op_of line))

-- a line of a bootstrap that names a number as its key switch
abbrev pub names : ℕ → Line → Bool
names number (BootLine own source entries) = int_eq source (pos number)
names number _ = false

-- where an operation is a key switch, some line of a bootstrap names it
abbrev pub is_used : List Line → ℕ → TfheOp → Bool
is_used lines number op = if is_switch op then list_any (names number) lines else true

-- a line keeps its whole rule, given all lines and the operations before it
abbrev pub keeps_its_rule : List Line → List TfheOp → Line → Bool
keeps_its_rule lines earlier line = keeps_line earlier line && is_used lines (length earlier) (op_of line)

-- how many lines in front keep their rules, given all lines and the operations before these
abbrev pub kept_from : List Line → List TfheOp → List Line → ℕ
kept_from lines earlier [] = 0
kept_from lines earlier (line ∷ others) =
    if keeps_its_rule lines earlier line then suc (kept_from lines (earlier ++ op_of line ∷ []) others) else 0

-- how many do: where not all of them, the next one is the first line that breaks its rule
abbrev pub kept_count : List Line → ℕ
kept_count lines = kept_from lines [] lines

-- its place, where there is one
abbrev pub broken_line : List Line → Option ℕ
broken_line lines = if nat_lt (kept_count lines) (length lines) then Some (kept_count lines) else None
