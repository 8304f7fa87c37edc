use Rattle.std.proofs.Common.{sym, ◌∙◌}
use Rattle.place_pass.proofs.Finding.{found_here, none_more}
use Rattle.place_pass.proofs.nodes.switch_at.Goals as goal

pub returns-then-is_switch_of-clause-place : goal.returns-then-is_switch_of-clause-place
returns-then-is_switch_of-clause-place c = sym (found_here _ _ c.loop-number.number c.node.result.now c.loop-number.invariant c.node.ensures.node (sym c.is_switch_of.ensures ∙ c.if-is_switch_of.true))

pub loop-number-preserved : goal.loop-number-preserved
loop-number-preserved c = none_more _ _ c.loop-number.number c.node.result.now c.loop-number.invariant c.node.ensures.node (sym c.is_switch_of.ensures ∙ c.if-is_switch_of.false)
