use Rattle.noise_model.specs.declared.constraints.Edge.TheVariants.{IntoBoot, OutOfCircuit}
use Rattle.tfhe_level.specs.Nodes.{nodes_of}
use Rattle.noise_model.specs.Edges.{edge_constraints}
use Rattle.noise_model.proofs.Comparisons.{found_in_first, found_in_last}
use Rattle.noise_model.proofs.constraints.edge_over.Goals as goal

pub returns-in-Some : goal.returns-in-Some
returns-in-Some c =
    let p = c.args.params.now in
    let shape = c.args.shape.now in
    found_in_first (edge_constraints IntoBoot p shape (nodes_of shape)) (edge_constraints OutOfCircuit p shape (nodes_of shape)) c.in-Some.broken c.in-Some.ensures

pub returns-in-None : goal.returns-in-None
returns-in-None c =
    let p = c.args.params.now in
    let shape = c.args.shape.now in
    found_in_last (edge_constraints IntoBoot p shape (nodes_of shape)) (edge_constraints OutOfCircuit p shape (nodes_of shape)) c.first_edge_over-in-None.result c.in-None.ensures c.first_edge_over-in-None.ensures
