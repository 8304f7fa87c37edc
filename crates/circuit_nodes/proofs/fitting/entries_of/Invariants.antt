use Rattle.std.proofs.Common.{◌≡◌, take}
use Rattle.circuit_nodes.proofs.fitting.entries_of.Given as goal

-- the entries so far
abbrev pub invariant-loop-entry : goal.invariant-loop-entry
invariant-loop-entry l = l.made.items ≡ take l.entry-index l.entries
