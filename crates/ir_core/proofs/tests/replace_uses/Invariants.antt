use Rattle.std.proofs.Common.{take, All}
use Rattle.ir_core.specs.Graph.{StandsBefore}
use Rattle.ir_core.proofs.tests.replace_uses.Given as goal

-- the value that is put stands before the users so far
abbrev pub invariant-loop-user : goal.invariant-loop-user
invariant-loop-user g l = All (λ use_. StandsBefore l.graph.list l.to use_.0) (take l.user-index l.user-items)
