use Rattle.std.proofs.Common.{arith}
use Rattle.std.proofs.lemmas.List.{length-map}
use Rattle.ir_core.proofs.PlacedGraphs.{placed_place, placed_earlier}
use Rattle.ir_core.proofs.OperationAt.{op_there, op_few}
use Rattle.ir_core.proofs.Graph.op_at.Goals as goal

pub returns-clause-earlier : goal.returns-clause-earlier
returns-clause-earlier g c =
    let graph = c.args.self.now in
    let place = placed_place graph c.args.place c.requires.placed (omega (arith, c.requires.there, length-map graph.list (λ entry. entry.1))) in
    placed_earlier g.L.Level.operands graph c.args.place c.op.result.now c.known.ensures c.requires.placed (op_there graph c.args.place c.op.result.now place c.op.ensures)

pub returns-clause-few : goal.returns-clause-few
returns-clause-few g c =
    let graph = c.args.self.now in
    let place = placed_place graph c.args.place c.requires.placed (omega (arith, c.requires.there, length-map graph.list (λ entry. entry.1))) in
    op_few graph c.args.place c.op.result.now place c.op.ensures g.L.Level.operands c.known.ensures.few
