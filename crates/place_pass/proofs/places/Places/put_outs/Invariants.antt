use Rattle.std.proofs.Common.{◌≡◌, ◌++◌, take, map}
use Rattle.ir_core.specs.Placed.{IsPlaced}
use Rattle.tfhe_level.specs.Nodes.{nodes_of}
use Rattle.place_pass.specs.Placing.{outlet_op}
use Rattle.place_pass.proofs.places.Places.put_outs.Given as goal

-- the outs so far stand behind the nodes
abbrev pub invariant-loop-out : goal.invariant-loop-out
invariant-loop-out l = record {
  graph : IsPlaced l.shape.graph;
  width : l.shape.width ≡ l.initial.shape.width;
  nodes : nodes_of l.shape ≡ nodes_of l.initial.shape ++ map outlet_op (take l.out-index l.fn.self.outs.items);
}
