use Rattle.std.proofs.Common.{◌≡◌, take}
use Rattle.tfhe_level.specs.Nodes.{nodes_of}
use Rattle.tfhe_level.specs.Laws.{input_ranges}
use Rattle.circuit_heads.proofs.ranges.input_ranges.Given as goal

-- those of the operations so far
abbrev pub invariant-loop-number : goal.invariant-loop-number
invariant-loop-number l = l.ranges.items ≡ input_ranges (take l.number (nodes_of l.shape))
