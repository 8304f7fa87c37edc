use Rattle.std.proofs.Common.{◌∙◌, cond, arith}
use Rattle.tfhe_level.specs.Operations.{is_switch, is_boot}
use Rattle.tfhe_level.specs.Nodes.{nodes_of}
use Rattle.tfhe_level.specs.Counts.{weight_count}
use Rattle.tfhe_level.proofs.Counting.{counted_more, weight_count_most}
use Rattle.tfhe_level.proofs.count.counts.Goals as goal

pub loop-number-preserved : goal.loop-number-preserved
loop-number-preserved c =
    let nodes = nodes_of c.args.shape.now in
    let so_far = c.loop-number.invariant in
    let op = c.node.result.now in
    let number = c.loop-number.number in
    record {
      switches = c.with_node-counts.ensures.switches ∙ counted_more (λ o. cond (is_switch o) 1 0) nodes number c.loop-number.counts.switches op c.node.ensures.node so_far.switches;
      boots = c.with_node-counts.ensures.boots ∙ counted_more (λ o. cond (is_boot o) 1 0) nodes number c.loop-number.counts.boots op c.node.ensures.node so_far.boots;
      weights = c.with_node-counts.ensures.weights ∙ counted_more weight_count nodes number c.loop-number.counts.weights op c.node.ensures.node so_far.weights;
      most = omega (arith, weight_count_most op);
    }
