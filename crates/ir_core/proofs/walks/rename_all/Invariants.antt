use Rattle.std.proofs.Common.{◌≡◌, ◌++◌, drop, take}
use Rattle.ir_core.specs.Graph.{renamed_list}
use Rattle.ir_core.proofs.walks.rename_all.Given as goal

-- the operations so far are renamed, and the others are as they were
abbrev pub invariant-loop-entry : goal.invariant-loop-entry
invariant-loop-entry g l =
    l.entries ≡ renamed_list g.L.Level.operands g.L.Level.with_operands l.from l.to (take l.entry-index l.fn.entries) ++ drop l.entry-index l.fn.entries
