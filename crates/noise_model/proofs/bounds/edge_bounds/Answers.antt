use Rattle.std.proofs.Common.{◌∙◌, ◌<◌, length, ap, arith}
use Rattle.std.proofs.lemmas.List.{length-set}
use Rattle.tfhe_level.specs.Nodes.{nodes_of}
use Rattle.noise_model.proofs.NodeBounds.{bounds_more}
use Rattle.noise_model.proofs.bounds.edge_bounds.Goals as goal

pub loop-number-preserved : goal.loop-number-preserved
loop-number-preserved c =
    let nodes = nodes_of c.args.shape.now in
    let room = c.loop-number.room in
    let number = c.loop-number.number in
    let within : number < length room = omega (arith, c.loop-number.invariant.number, c.node_count-number-end.ensures, c.loop-number-test.true) in
    let value = rw c.as_slice.ensures.list at c.node_bound-bound.ensures.value in
    record {
      number = ap length c.set.ensures ∙ length-set room number c.node_bound-bound.result ∙ c.loop-number.invariant.number;
      so_far = rw c.set.ensures (bounds_more c.args.params.now nodes room number c.node.result.now c.node_bound-bound.result within c.loop-number.invariant.so_far c.node.ensures.node c.node.ensures.earlier value);
    }
