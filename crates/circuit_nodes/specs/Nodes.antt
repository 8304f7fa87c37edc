-- What is kept of the operations so far: their ranges, and how many there are of each kind.
use Rattle.std.specs.Prelude.{◌≡◌, ℕ, ◌+◌, ◌≤◌, Bool, not, ◌||◌, List, length, All, count_by, ℤ, pos, if◌then◌else◌}
use Rattle.ir_core.specs.Placed.{IsPlaced}
use Rattle.forms.specs.Forms.{range_at}
use Rattle.forms.specs.Limits.{most_inputs, most_outs}
use Rattle.forms.specs.Ranges.{range_of_entries}
use Rattle.range_pass.specs.Bounds.{IsSmallRange, IsWide}
use Rattle.tfhe_level.specs.declared.level.TfheOp.{TfheOp}
use Rattle.tfhe_level.specs.declared.level.TfheOp.TheVariants.{Input, Boot}
use Rattle.tfhe_level.specs.declared.shape.Shape.{Shape}
use Rattle.tfhe_level.specs.Limits.{most_lins, most_switches, most_boots}
use Rattle.tfhe_level.specs.Operations.{is_input, is_lin, is_switch, is_boot, is_out, is_leaf}
use Rattle.tfhe_level.specs.Nodes.{nodes_of, node_ranges}
use Rattle.tfhe_level.specs.Rules.{Stands, range_on, is_message}
use Rattle.circuit_nodes.specs.Tests.{stands, holds_range}
use Rattle.circuit_nodes.specs.declared.kinds.Kinds.{Kinds}

-- how many operations there are of each kind
abbrev pub kinds_of : List TfheOp → Kinds
kinds_of operations = record {
  inputs = count_by is_input operations;
  lins = count_by is_lin operations;
  switches = count_by is_switch operations;
  boots = count_by is_boot operations;
  outs = count_by is_out operations;
}

-- within their limits
pub record AreFew (kinds : Kinds) : Type 0 where
  pub inputs : kinds.inputs ≤ most_inputs
  pub lins : kinds.lins ≤ most_lins
  pub switches : kinds.switches ≤ most_switches
  pub boots : kinds.boots ≤ most_boots
  pub outs : kinds.outs ≤ most_outs

-- the range of an input or of a bootstrap, and only 0 for what is no leaf
abbrev pub leaf_range : TfheOp → ℤ × ℤ
leaf_range (Input lo hi) = (lo, hi)
leaf_range (Boot source entries) = range_of_entries entries
leaf_range _ = (pos 0, pos 0)

-- ranges that tell those of inputs and bootstraps: at the places of other operations something small stands
pub record TellLeaves (operations : List TfheOp) (leaves : List (ℤ × ℤ)) : Type 0 where
  pub number : length leaves ≡ length operations
  pub small : All IsSmallRange leaves
  pub agree : (place : ℕ) → Stands is_leaf operations place → range_at leaves place ≡ range_at (node_ranges operations) place

-- what is kept of a shape
pub record AreKept (shape : Shape) (ranges leaves : List (ℤ × ℤ)) (kinds : Kinds) : Type 0 where
  pub placed : IsPlaced shape.graph
  pub known : ranges ≡ node_ranges (nodes_of shape)
  pub wide : All IsWide ranges
  pub tell : TellLeaves (nodes_of shape) leaves
  pub counted : kinds ≡ kinds_of (nodes_of shape)
  pub few : AreFew kinds

-- the counts with an operation more
abbrev pub with_kind : Kinds → TfheOp → Kinds
with_kind kinds op = record {
  inputs = kinds.inputs + (if is_input op then 1 else 0);
  lins = kinds.lins + (if is_lin op then 1 else 0);
  switches = kinds.switches + (if is_switch op then 1 else 0);
  boots = kinds.boots + (if is_boot op then 1 else 0);
  outs = kinds.outs + (if is_out op then 1 else 0);
}

-- a width holds the range of the operation at a place, where it is a key switch or an out
abbrev pub is_held_at : List TfheOp → ℕ → ℕ → Bool
is_held_at operations width place = not (stands is_message operations place) || holds_range width (range_on operations place)
