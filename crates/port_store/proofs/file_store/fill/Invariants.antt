use Rattle.std.proofs.Common.{◌≤◌, length}
use Rattle.port_store.proofs.file_store.fill.Given as goal

abbrev pub invariant-loop : goal.invariant-loop
invariant-loop g l = l.filled ≤ length l.buffer
