use Rattle.ir_core.proofs.Kept.{none_kept}
use Rattle.ir_core.proofs.Graph.new.Goals as goal

pub invariant_of-result : goal.invariant_of-result
invariant_of-result g c = rw c.new.ensures.items (none_kept g.L.Level.operands)
