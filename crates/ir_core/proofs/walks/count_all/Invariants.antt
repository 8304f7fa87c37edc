use Rattle.std.proofs.Common.{◌≡◌, ◌≤◌, ◌+◌, ◌*◌, ◌^◌, drop, length}
use Rattle.ir_core.specs.Graph.{uses_of}
use Rattle.ir_core.proofs.walks.count_all.Given as goal

-- those counted and those in the rest are all
abbrev pub invariant-loop-entry : goal.invariant-loop-entry
invariant-loop-entry g l =
    let operands = g.L.Level.operands in
    record {
      counted : l.count + length (uses_of operands (drop l.entry-index l.entries) l.value) ≡ length (uses_of operands l.entries l.value);
      within : l.count ≤ l.entry-index * 2 ^ 32;
    }
