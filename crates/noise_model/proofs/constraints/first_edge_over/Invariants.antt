use Rattle.std.proofs.Common.{◌≤◌}
use Rattle.noise_model.proofs.FirstEdges.{NoneYet}
use Rattle.noise_model.proofs.constraints.first_edge_over.Given as goal

-- at no edge so far is the constraint broken
abbrev pub invariant-loop-number : goal.invariant-loop-number
invariant-loop-number l = record {
  yet : NoneYet l.edge l.params l.shape l.number l.count;
  few : l.count ≤ l.number;
}
