use Rattle.std.proofs.Common.{◌≡◌, ◌≤◌, ◌+◌, drop, length}
use Rattle.ir_core.specs.Graph.{uses_from}
use Rattle.ir_core.proofs.walks.count_in.Given as goal

-- those counted and those in the rest are all
abbrev pub invariant-loop-at : goal.invariant-loop-at
invariant-loop-at g l =
    let operands = g.L.Level.operands l.op in
    record {
      counted : l.count + length (uses_from l.at 0 (drop l.at operands) l.value) ≡ length (uses_from 0 0 operands l.value);
      within : l.count ≤ l.at;
    }
