-- The circuit of nodes: its graph and its least width.
use Rattle.std.specs.Prelude.{ℕ, zero, suc, ◌+◌, ◌^◌, Bool, List, length, ℤ, pos, int_lt, if◌then◌else◌}
use Rattle.std.specs.List.{list_all, enumerate_from}
use Rattle.forms.specs.Forms.{span_of}
use Rattle.forms.specs.Limits.{most_width}
use Rattle.ir_core.specs.Graph.{Operations}
use Rattle.tfhe_level.specs.declared.level.TfheOp.{TfheOp}
use Rattle.tfhe_level.specs.declared.shape.Shape.{Shape}
use Rattle.tfhe_level.specs.Rules.{message_ranges}

-- a width holds these ranges: the greatest number of each less the least one is below 2^width
abbrev pub holds_ranges : ℕ → List (ℤ × ℤ) → Bool
holds_ranges width ranges = list_all (λ range. int_lt (span_of range) (pos (2 ^ width))) ranges

-- the least width from this one on that holds these ranges, and behind so many the last
abbrev pub width_from : ℕ → ℕ → List (ℤ × ℤ) → ℕ
width_from zero width ranges = width
width_from (suc more) width ranges =
    if holds_ranges width ranges then width else width_from more (width + 1) ranges

-- the least width from 1 on that holds these ranges, and 16 where no lower one does
abbrev pub least_width : List (ℤ × ℤ) → ℕ
least_width ranges = width_from 15 1 ranges

-- the graph of nodes, each with its place as its number
abbrev pub graph_of : List TfheOp → Operations TfheOp
graph_of nodes = record { list = enumerate_from 0 nodes; made = length nodes }

-- the circuit of nodes, without parameters
abbrev pub shape_of : List TfheOp → Shape
shape_of nodes = record { graph = graph_of nodes; width = least_width (message_ranges nodes) }
