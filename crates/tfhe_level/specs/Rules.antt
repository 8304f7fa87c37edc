-- The rules that the nodes, the outs and the width of a circuit keep.
use Rattle.std.specs.Prelude.{◌≡◌, ◌≢◌, ℕ, ◌<◌, ◌≤◌, ◌==◌, Bool, true, false, not, List, [], ◌∷◌, ◌++◌, length, map, filter, count_by, All, IsTrue, IsSomeAnd, slice_get, ℤ, pos, ◌+ℤ◌, unsigned_abs, if◌then◌else◌}
use Rattle.std.specs.List.{zip, list_any}
use Rattle.ir_core.specs.Placed.{IsPlaced}
use Rattle.forms.specs.Forms.{range_at, span_of, AreRising}
use Rattle.forms.specs.Limits.{most_inputs, most_outs, most_weight, most_constant}
use Rattle.forms.specs.Ranges.{IsNumber, IsNumberRange, IsLeastWidth}
use Rattle.tfhe_level.specs.declared.level.TfheOp.{TfheOp}
use Rattle.tfhe_level.specs.declared.level.TfheOp.TheVariants.{Input, Lin, Switch, Boot, Out}
use Rattle.tfhe_level.specs.declared.shape.Shape.{Shape}
use Rattle.tfhe_level.specs.Limits.{most_lins, most_switches, most_boots}
use Rattle.tfhe_level.specs.Operations.{is_input, is_lin, is_switch, is_boot, is_out, is_leaf, is_big_node}
use Rattle.tfhe_level.specs.Nodes.{nodes_of, node_ranges}

-- an operation of a kind stands at a place
abbrev pub Stands : (TfheOp → Bool) → List TfheOp → ℕ → Type 0
Stands kind operations place = IsSomeAnd (slice_get operations place) (λ op. IsTrue (kind op))

-- the range at a place
abbrev pub range_on : List TfheOp → ℕ → ℤ × ℤ
range_on operations place = range_at (node_ranges operations) place

-- ---- one operation, given those before it

-- inputs stand first
pub record IsInputNode (earlier : List TfheOp) (lo hi : ℤ) : Type 0 where
  pub first : All (λ op. IsTrue (is_input op)) earlier
  pub range : IsNumberRange lo hi
  pub few : length earlier < most_inputs

-- a term is on an input or a bootstrap, and its weight is not 0
pub record IsTerm (earlier : List TfheOp) (term : ℕ × ℤ) : Type 0 where
  pub leaf : Stands is_leaf earlier term.0
  pub weight : term.1 ≢ pos 0
  pub size : unsigned_abs term.1 ≤ most_weight

-- a weighted sum has a constant within its limit, and terms that rise in their operands
pub record IsLinNode (earlier : List TfheOp) (constant : ℤ) (terms : List (ℕ × ℤ)) : Type 0 where
  pub size : unsigned_abs constant ≤ most_constant
  pub each : All (IsTerm earlier) terms
  pub rising : AreRising 0 terms
  pub few : count_by is_lin earlier < most_lins

-- a bootstrap on the operation with a number
abbrev pub is_boot_on : ℕ → TfheOp → Bool
is_boot_on number (Boot source entries) = source == number
is_boot_on number _ = false

-- a key switch is on an operation whose range starts at 0, and some bootstrap of the circuit is on it
pub record IsSwitchNode (all earlier : List TfheOp) (source : ℕ) : Type 0 where
  pub operand : Stands is_big_node earlier source
  pub starts : (range_on earlier source).0 ≡ pos 0
  pub used : IsTrue (list_any (is_boot_on (length earlier)) all)
  pub few : count_by is_switch earlier < most_switches

-- a bootstrap is on a key switch, with an entry for each number of its range
pub record IsBootNode (earlier : List TfheOp) (source : ℕ) (entries : List ℤ) : Type 0 where
  pub operand : Stands is_switch earlier source
  pub number : pos (length entries) ≡ span_of (range_on earlier source) +ℤ pos 1
  pub each : All IsNumber entries
  pub few : count_by is_boot earlier < most_boots

-- an out has the range of its operand
pub record IsOutNode (earlier : List TfheOp) (source : ℕ) (lo hi : ℤ) : Type 0 where
  pub operand : Stands is_big_node earlier source
  pub exact : (lo, hi) ≡ range_on earlier source
  pub range : IsNumberRange lo hi
  pub few : count_by is_out earlier < most_outs

-- an operation of a circuit keeps its rule, given those before it
abbrev pub KeepsRule : List TfheOp → List TfheOp → TfheOp → Type 0
KeepsRule all earlier (Input lo hi) = IsInputNode earlier lo hi
KeepsRule all earlier (Lin constant terms) = IsLinNode earlier constant terms
KeepsRule all earlier (Switch source) = IsSwitchNode all earlier source
KeepsRule all earlier (Boot source entries) = IsBootNode earlier source entries
KeepsRule all earlier (Out source lo hi) = IsOutNode earlier source lo hi

-- so does each of these, one after the other
abbrev pub KeepRules : List TfheOp → List TfheOp → List TfheOp → Type 0
KeepRules all earlier [] = Unit {0}
KeepRules all earlier (op ∷ operations) = KeepsRule all earlier op × KeepRules all (earlier ++ op ∷ []) operations

-- ---- the whole

-- the operations whose range the width must hold: key switches and outs
abbrev pub is_message : TfheOp → Bool
is_message op = if is_switch op then true else is_out op

-- their ranges
abbrev pub message_ranges : List TfheOp → List (ℤ × ℤ)
message_ranges operations =
    map (λ node. node.1) (filter (λ node. is_message node.0) (zip operations (node_ranges operations)))

-- the operations of a circuit keep the rules, and the outs stand last, at least one
pub record AreNodes (operations : List TfheOp) : Type 0 where
  pub rules : KeepRules operations [] operations
  pub outs_last : operations ≡ filter (λ op. not (is_out op)) operations ++ filter is_out operations
  pub some_out : 1 ≤ count_by is_out operations

-- a shape keeps the rules of a circuit, the constraints on its noise aside
pub record IsShape (shape : Shape) : Type 0 where
  pub placed : IsPlaced shape.graph
  pub nodes : AreNodes (nodes_of shape)
  pub width : IsLeastWidth (message_ranges (nodes_of shape)) shape.width
