use Rattle.ap_level.specs.Patterns.{patterns_of}
use Rattle.place_pass.specs.Placing.{placed_nodes}
use Rattle.compile_pipe.proofs.Shapes.{shape_is}
use Rattle.compile_pipe.proofs.programs.shape_in.Goals as goal

pub returns-clause-exact : goal.returns-clause-exact
returns-clause-exact c =
    shape_is c.in_ok-shape.shape (placed_nodes (patterns_of c.args.patterns.now)) c.in_ok-shape.ensures.shape c.in_ok-shape.ensures.nodes
