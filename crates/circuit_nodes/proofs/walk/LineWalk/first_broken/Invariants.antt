use Rattle.std.proofs.Common.{◌≡◌, ◌+◌, drop}
use Rattle.circuit_nodes.specs.Walk.{used_from}
use Rattle.circuit_nodes.proofs.walk.LineWalk.first_broken.Given as goal

-- no key switch so far is unused
abbrev pub invariant-loop-place : goal.invariant-loop-place
invariant-loop-place l = used_from l.self.named 0 l.self.operations ≡ l.place + used_from l.self.named l.place (drop l.place l.self.operations)
