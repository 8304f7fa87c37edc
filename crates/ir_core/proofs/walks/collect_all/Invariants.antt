use Rattle.std.proofs.Common.{◌≡◌, ◌++◌, drop}
use Rattle.ir_core.specs.Graph.{uses_of}
use Rattle.ir_core.proofs.walks.collect_all.Given as goal

-- the uses so far and those in the rest are all
abbrev pub invariant-loop-entry : goal.invariant-loop-entry
invariant-loop-entry g l =
    let operands = g.L.Level.operands in
    l.uses.items ++ uses_of operands (drop l.entry-index l.entries) l.value ≡ uses_of operands l.entries l.value
