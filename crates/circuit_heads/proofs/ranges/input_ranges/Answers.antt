use Rattle.std.proofs.Common.{◌∷◌, [], ◌++◌, ◌∙◌, ap, sym}
use Rattle.tfhe_level.specs.Nodes.{nodes_of}
use Rattle.tfhe_level.specs.Laws.{input_range, input_ranges}
use Rattle.circuit_heads.proofs.RangesMore.{found_more}
use Rattle.circuit_heads.proofs.ranges.input_ranges.Goals as goal

pub loop-number-preserved : goal.loop-number-preserved
loop-number-preserved c =
    c.in_ok-put_input.ensures ∙ ap (λ ranges. ranges ++ input_ranges (c.node.result.now ∷ [])) c.loop-number.invariant
    ∙ sym (found_more input_range (nodes_of c.args.shape.now) c.loop-number.number c.node.result.now c.node.ensures.node)
