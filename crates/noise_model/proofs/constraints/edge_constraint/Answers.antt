use Rattle.std.proofs.Common.{length, ap, arith}
use Rattle.tfhe_level.specs.Nodes.{nodes_of}
use Rattle.noise_model.proofs.NodeBounds.{length-bounds}
use Rattle.noise_model.proofs.FirstEdges.{edge_bound, compared_is}
use Rattle.noise_model.proofs.constraints.edge_constraint.Goals as goal

pub bound-requires : goal.bound-requires
bound-requires c = omega (arith, c.requires.there, length-bounds c.args.params.now (nodes_of c.args.shape.now), ap length c.requires.room)

pub returns-clause-bound : goal.returns-clause-bound
returns-clause-bound c = edge_bound c.args.edge c.args.params.now c.args.shape.now c.args.source c.args.room.now c.bound.result c.added_at.result c.cap_add.result c.requires.room c.bound.ensures.value c.added_at.ensures.value c.cap_add.ensures.value

pub returns-clause-constraint : goal.returns-clause-constraint
returns-clause-constraint c =
    compared_is c.args.edge c.args.params.now c.args.shape.now c.args.count c.args.source c.constraint_at.result c.cap_add.result c.half_step.result c.constraint_at.ensures
    (edge_bound c.args.edge c.args.params.now c.args.shape.now c.args.source c.args.room.now c.bound.result c.added_at.result c.cap_add.result c.requires.room c.bound.ensures.value c.added_at.ensures.value c.cap_add.ensures.value)
    c.half_step.ensures.value
