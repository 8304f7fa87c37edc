use Rattle.std.proofs.Common.{◌<◌, length, arith, sym, ◌∙◌}
use Rattle.ir_core.proofs.Renaming.{renamed_hit, renamed_miss}
use Rattle.ir_core.proofs.walks.rename_in.Goals as goal
use Rattle.ir_core.proofs.walks.rename_in.Goals.{then-operand-from, else-operand-from}

pub loop-at-preserved : goal.loop-at-preserved
loop-at-preserved g c =
    let level = g.L.Level in
    let laws = g.met.L.Level in
    let within : c.loop-at.at < length (level.operands c.args.op.now) = omega (arith, c.arity-at-end.ensures) in
    elim c.if-operand-from.branch [
      | then-operand-from w ↦ renamed_hit level.operands level.with_operands laws.put_is_read laws.last_put_stays c.args.from c.args.to c.loop-at.at c.args.op.now c.loop-at.op c.if-operand-from.op within c.loop-at.invariant (sym c.operand.ensures ∙ w.if-operand-from.true) (w.op-is ∙ w.set_operand.ensures)
      | else-operand-from w ↦ rw w.op-is (renamed_miss level.operands level.with_operands laws.put_is_read c.args.from c.args.to c.loop-at.at c.args.op.now c.loop-at.op within c.loop-at.invariant (λ same. w.if-operand-from.false (c.operand.ensures ∙ same)))
    ]
