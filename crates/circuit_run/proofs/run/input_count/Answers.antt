use Rattle.std.proofs.Common.{◌≡◌, ◌+◌, ◌∙◌, length, take, ap, sym, arith}
use Rattle.tfhe_level.specs.Nodes.{nodes_of}
use Rattle.tfhe_level.specs.Laws.{input_ranges}
use Rattle.circuit_run.proofs.Ranges.{inputs_more}
use Rattle.circuit_run.proofs.run.input_count.Goals as goal

pub loop-number-preserved : goal.loop-number-preserved
loop-number-preserved c =
    let nodes = nodes_of c.args.circuit.now.shape in
    let number = c.loop-number.number in
    record {
      number =
          ap (λ n. n + c.inputs_in-count.result) c.loop-number.invariant.number
          ∙ ap (λ n. length (input_ranges (take number nodes)) + n) c.inputs_in-count.ensures.number
          ∙ sym (inputs_more nodes number c.node.result.now c.node.ensures.node);
      most = omega (arith, c.inputs_in-count.ensures.most, c.loop-number.invariant.most);
    }
