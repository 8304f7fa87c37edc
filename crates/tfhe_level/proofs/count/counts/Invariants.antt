use Rattle.std.proofs.Common.{◌≡◌, ◌≤◌, ◌*◌, ◌-◌, ◌^◌, take}
use Rattle.std.specs.Prelude.{count_by}
use Rattle.std.specs.List.{sum_by}
use Rattle.tfhe_level.specs.Operations.{is_switch, is_boot}
use Rattle.tfhe_level.specs.Nodes.{nodes_of}
use Rattle.tfhe_level.specs.Counts.{weight_count}
use Rattle.tfhe_level.proofs.count.counts.Given as goal

-- the operations so far are counted
abbrev pub invariant-loop-number : goal.invariant-loop-number
invariant-loop-number l = record {
  switches : l.counts.switches ≡ count_by is_switch (take l.number (nodes_of l.shape));
  boots : l.counts.boots ≡ count_by is_boot (take l.number (nodes_of l.shape));
  weights : l.counts.weights ≡ sum_by weight_count (take l.number (nodes_of l.shape));
  most : l.counts.weights ≤ l.number * (2 ^ 32 - 1);
}
