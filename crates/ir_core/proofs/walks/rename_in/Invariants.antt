use Rattle.std.proofs.Common.{◌≡◌, ◌++◌, drop, take, map}
use Rattle.ir_core.specs.Graph.{renamed}
use Rattle.ir_core.proofs.walks.rename_in.Given as goal

-- the operands so far are renamed, and all else is as it was
abbrev pub invariant-loop-at : goal.invariant-loop-at
invariant-loop-at g l =
    let operands = g.L.Level.operands l.fn.op in
    l.op ≡ g.L.Level.with_operands l.fn.op (map (renamed l.from l.to) (take l.at operands) ++ drop l.at operands)
