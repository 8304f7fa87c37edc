use Rattle.std.proofs.Common.{◌≡◌, ◌≤◌, length, take}
use Rattle.tfhe_level.specs.Nodes.{nodes_of}
use Rattle.tfhe_level.specs.Laws.{input_ranges}
use Rattle.circuit_run.proofs.run.input_count.Given as goal

-- the inputs so far are counted
abbrev pub invariant-loop-number : goal.invariant-loop-number
invariant-loop-number l = record {
  number : l.count ≡ length (input_ranges (take l.number (nodes_of l.circuit.shape)));
  most : l.count ≤ l.number;
}
