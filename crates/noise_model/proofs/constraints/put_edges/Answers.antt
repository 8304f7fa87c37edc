use Rattle.std.proofs.Common.{◌∙◌, sym, arith}
use Rattle.noise_model.proofs.FirstEdges.{all_yet_skip, all_yet_more}
use Rattle.noise_model.proofs.constraints.put_edges.Goals as goal
use Rattle.noise_model.proofs.constraints.put_edges.Goals.{in-Some+in_ok-push, in_default}

pub loop-number-preserved : goal.loop-number-preserved
loop-number-preserved c =
    let p = c.args.params.now in
    let shape = c.args.shape.now in
    let start = c.args.into.now.items in
    elim c.match-source_of.branch [
      | in-Some+in_ok-push w ↦
          rw (w.into-is, w.count-is) (record {
            yet = all_yet_more c.args.edge p shape start c.loop-number.into.items w.push.new.self.items c.loop-number.number c.loop-number.count w.in-Some.source c.node.result.now w.edge_constraint.result c.loop-number.invariant.yet c.node.ensures.node (sym c.source_of.ensures.value ∙ w.in-Some.is) w.edge_constraint.ensures.constraint w.in_ok-push.ensures.items;
            few = omega (arith, c.loop-number.invariant.few);
          })
      | in_default w ↦
          rw (w.into-is, w.count-is) (record {
            yet = all_yet_skip c.args.edge p shape start c.loop-number.into.items c.loop-number.number c.loop-number.count c.node.result.now c.loop-number.invariant.yet c.node.ensures.node (sym c.source_of.ensures.value ∙ w.in_default.is);
            few = omega (arith, c.loop-number.invariant.few);
          })
    ]
