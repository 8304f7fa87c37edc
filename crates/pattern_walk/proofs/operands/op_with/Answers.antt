use Rattle.fhe_level.specs.Standing.{op_with-place}
use Rattle.pattern_walk.proofs.operands.op_with.Goals as goal

pub returns : goal.returns
returns c = op_with-place c.args.program.now.graph.list c.args.number c.op.result.now c.op.ensures
