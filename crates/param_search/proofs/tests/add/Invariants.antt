use Rattle.std.proofs.Common.{◌<◌, take, All}
use Rattle.tfhe_level.specs.Operations.{operands_of}
use Rattle.param_search.proofs.tests.add.Given as goal

-- the operands so far are there
abbrev pub invariant-loop-at : goal.invariant-loop-at
invariant-loop-at g l = All (λ operand. operand < l.count) (take l.at (operands_of l.op))
