use Rattle.std.proofs.Common.{◌≡◌, ◌++◌, drop}
use Rattle.ir_core.specs.Graph.{uses_from}
use Rattle.ir_core.proofs.walks.collect_in.Given as goal

-- the uses so far and those in the rest are all
abbrev pub invariant-loop-at : goal.invariant-loop-at
invariant-loop-at g l =
    let operands = g.L.Level.operands l.op in
    l.uses.items ++ uses_from l.at l.user (drop l.at operands) l.value ≡ l.fn.uses.items ++ uses_from 0 l.user operands l.value
