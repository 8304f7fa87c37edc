use Rattle.std.proofs.Common.{rules}
use Rattle.std.proofs.lemmas.List.{take_all}
use Rattle.std.proofs.lemmas.List.Elements.{All-more}
use Rattle.ir_core.specs.Graph.{Holds}
use Rattle.ir_core.proofs.tests.push.Goals as goal

pub loop-operand-preserved : goal.loop-operand-preserved
loop-operand-preserved g c =
    All-more (Holds c.args.graph.now.list) c.args.operands.now c.loop-operand.operand-index 0 c.loop-operand-test.true c.loop-operand.invariant (c.holds.ensures.0 (search rules))

pub push-requires-clause-there : goal.push-requires-clause-there
push-requires-clause-there g c =
    rw (c.in_ok-operands.ensures, ← take_all c.loop-operand.operand-index c.args.operands.now c.loop-operand-test.false) c.loop-operand.invariant
