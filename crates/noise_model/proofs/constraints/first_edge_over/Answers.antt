use Rattle.std.proofs.Common.{◌∙◌, sym, arith}
use Rattle.noise_model.proofs.FirstEdges.{edge_found, none_yet_skip, none_yet_more}
use Rattle.noise_model.proofs.Comparisons.{edge_kept, edge_broken}
use Rattle.noise_model.proofs.constraints.first_edge_over.Goals as goal
use Rattle.noise_model.proofs.constraints.first_edge_over.Goals.{in-Some+else-compared, in_default}

pub returns-then-compared : goal.returns-then-compared
returns-then-compared c =
    let p = c.args.params.now in
    let shape = c.args.shape.now in
    let e = c.edge_constraint-compared in
    edge_found c.args.edge p shape c.loop-number.number c.loop-number.count c.in-Some.source c.node.result.now e.result c.loop-number.invariant.yet c.node.ensures.node (sym c.in-Some.ensures.value) e.ensures.constraint
    (edge_broken c.args.edge p shape c.loop-number.count c.in-Some.source e.result.bound e.result.limit e.ensures.limit e.ensures.small e.ensures.bound c.if-compared.true)

pub loop-number-preserved : goal.loop-number-preserved
loop-number-preserved c =
    let p = c.args.params.now in
    let shape = c.args.shape.now in
    elim c.match-source_of.branch [
      | in-Some+else-compared w ↦
          let e = w.edge_constraint-compared in
          let kept = edge_kept c.args.edge p shape c.loop-number.count w.in-Some.source e.result.bound e.result.limit e.ensures.limit e.ensures.small e.ensures.bound w.if-compared.false in
          rw w.count-is (record { yet = none_yet_more c.args.edge p shape c.loop-number.number c.loop-number.count w.in-Some.source c.node.result.now c.loop-number.invariant.yet c.node.ensures.node (sym w.in-Some.ensures.value) kept; few = omega (arith, c.loop-number.invariant.few) })
      | in_default w ↦ rw w.count-is (record { yet = none_yet_skip c.args.edge p shape c.loop-number.number c.loop-number.count c.node.result.now c.loop-number.invariant.yet c.node.ensures.node (sym c.source_of.ensures.value ∙ w.in_default.is); few = omega (arith, c.loop-number.invariant.few) })
    ]
