use Rattle.std.proofs.Common.{rules}
use Rattle.std.proofs.lemmas.List.{take_all}
use Rattle.std.proofs.lemmas.List.Elements.{All-more}
use Rattle.ir_core.specs.Graph.{StandsBefore}
use Rattle.ir_core.proofs.tests.insert_before.Goals as goal

pub loop-operand-preserved : goal.loop-operand-preserved
loop-operand-preserved g c =
    All-more (λ value. StandsBefore c.args.graph.now.list value c.args.place) c.args.operands.now c.loop-operand.operand-index 0 c.loop-operand-test.true c.loop-operand.invariant (c.stands_before.ensures.0 (search rules))

pub insert_before-requires-clause-earlier : goal.insert_before-requires-clause-earlier
insert_before-requires-clause-earlier g c =
    rw (c.in_ok-operands.ensures, ← take_all c.loop-operand.operand-index c.args.operands.now c.loop-operand-test.false) c.loop-operand.invariant
