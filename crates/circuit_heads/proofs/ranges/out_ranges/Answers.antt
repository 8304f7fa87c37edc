use Rattle.std.proofs.Common.{◌∷◌, [], ◌++◌, ◌∙◌, ap, sym}
use Rattle.tfhe_level.specs.Nodes.{nodes_of}
use Rattle.circuit_heads.specs.Heads.{out_range, out_ranges}
use Rattle.circuit_heads.proofs.RangesMore.{found_more}
use Rattle.circuit_heads.proofs.ranges.out_ranges.Goals as goal

pub loop-number-preserved : goal.loop-number-preserved
loop-number-preserved c =
    c.in_ok-put_out.ensures ∙ ap (λ ranges. ranges ++ out_ranges (c.node.result.now ∷ [])) c.loop-number.invariant
    ∙ sym (found_more out_range (nodes_of c.args.shape.now) c.loop-number.number c.node.result.now c.node.ensures.node)
