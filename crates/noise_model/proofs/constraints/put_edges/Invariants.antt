use Rattle.std.proofs.Common.{◌≤◌}
use Rattle.noise_model.proofs.FirstEdges.{AllYet}
use Rattle.noise_model.proofs.constraints.put_edges.Given as goal

-- the constraints so far stand behind what was there
abbrev pub invariant-loop-number : goal.invariant-loop-number
invariant-loop-number l = record {
  yet : AllYet l.edge l.params l.shape l.initial.into.items l.into.items l.number l.count;
  few : l.count ≤ l.number;
}
