use Rattle.std.proofs.Common.{take, All}
use Rattle.ir_core.specs.Graph.{Holds}
use Rattle.ir_core.proofs.tests.push.Given as goal

-- the operands so far are there
abbrev pub invariant-loop-operand : goal.invariant-loop-operand
invariant-loop-operand g l = All (Holds l.graph.list) (take l.operand-index l.operands)
