use Rattle.std.proofs.Common.{take, All}
use Rattle.ir_core.specs.Graph.{StandsBefore}
use Rattle.ir_core.proofs.tests.insert_before.Given as goal

-- the operands so far stand before the place
abbrev pub invariant-loop-operand : goal.invariant-loop-operand
invariant-loop-operand g l = All (λ value. StandsBefore l.graph.list value l.place) (take l.operand-index l.operands)
