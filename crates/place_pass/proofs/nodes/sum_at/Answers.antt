use Rattle.std.proofs.Common.{sym, ◌∙◌}
use mir.Syntax.{w64}
use mir.Val.{SFits}
use Rattle.std.proofs.lemmas.Int.{to_z-of_z}
use Rattle.tfhe_level.specs.Nodes.{nodes_of}
use Rattle.place_pass.specs.Placing.{is_sum}
use Rattle.place_pass.proofs.Finding.{found_here, none_more}
use Rattle.place_pass.proofs.nodes.sum_at.Goals as goal

pub returns-then-is_sum-clause-place : goal.returns-then-is_sum-clause-place
returns-then-is_sum-clause-place c =
    let fits : SFits w64 c.args.constant = c.ranges.constant in
    let none = simp to_z-of_z at c.loop-number.invariant in
    let is = simp to_z-of_z at (sym c.is_sum.ensures ∙ c.if-is_sum.true) in
    sym (found_here (is_sum c.args.constant c.args.terms.now) (nodes_of c.args.shape.now) c.loop-number.number c.node.result.now none c.node.ensures.node is)

pub loop-number-preserved : goal.loop-number-preserved
loop-number-preserved c = none_more _ _ c.loop-number.number c.node.result.now c.loop-number.invariant c.node.ensures.node (sym c.is_sum.ensures ∙ c.if-is_sum.false)
