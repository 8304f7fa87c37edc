use Rattle.std.proofs.Common.{◌≡◌, length, map, take}
use Rattle.tfhe_level.specs.Nodes.{nodes_of}
use Rattle.noise_model.specs.Bounds.{noise_bounds, capped}
use Rattle.noise_model.proofs.bounds.edge_bounds.Given as goal

-- the operations so far have their bounds
abbrev pub invariant-loop-number : goal.invariant-loop-number
invariant-loop-number l = record {
  number : length l.room ≡ length (nodes_of l.shape);
  so_far : take l.number l.room ≡ map capped (noise_bounds l.params (take l.number (nodes_of l.shape)));
}
