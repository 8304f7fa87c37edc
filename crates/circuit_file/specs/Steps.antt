-- Reading a circuit in the steps of its reader, behind the walk over the lines.
use Rattle.std.specs.Prelude.{ℕ, ◌+◌, nat_lt, List, Ok, ℤ, unsigned_abs}
use Rattle.refusals.specs.Reading.{◌>>=◌, unless}
use Rattle.fhe_params.specs.declared.params.Params.{Params}
use Rattle.tfhe_level.specs.declared.level.TfheOp.{TfheOp}
use Rattle.tfhe_level.specs.declared.shape.Shape.{Shape}
use Rattle.tfhe_level.specs.declared.shape.Circuit.{Circuit}
use Rattle.tfhe_level.specs.Nodes.{nodes_of}
use Rattle.noise_model.specs.Constraints.{first_broken_of}
use Rattle.circuit_nodes.specs.Walk.{broken_place}
use Rattle.circuit_file.specs.declared.fault.CircuitKind.TheVariants.{Node, Width}
use Rattle.circuit_file.specs.declared.walks.WalkedLines.{WalkedLines}
use Rattle.circuit_file.specs.Faults.{Read, fault_at}
use Rattle.circuit_file.specs.Params.{params_of}
use Rattle.circuit_file.specs.Circuit.{first_node, no_broken_line, is_width, no_constraint, graph_of}
use Rattle.circuit_file.specs.Walks.{walked_text}

-- the operations of lines that all keep their rules, with an out among them
unfoldable pub kept_nodes : WalkedLines → Read (List TfheOp)
kept_nodes lines = do
  kept ← no_broken_line (broken_place lines.walk)
  some ← unless (nat_lt 0 lines.outs) (fault_at (first_node + lines.nodes) Node)
  Ok lines.walk.operations

-- the shape of operations, whose width must be the least
unfoldable pub shape_of : List TfheOp → ℤ → Read Shape
shape_of operations width = do
  least ← unless (is_width operations width) (fault_at 2 Width)
  Ok (record { graph = graph_of operations; width = unsigned_abs width })

-- the shape of the lines
unfoldable pub shape_after : WalkedLines → Read Shape
shape_after lines = do
  operations ← kept_nodes lines
  shape_of operations lines.head.width

-- the parameters meet all constraints of a shape
unfoldable pub met_by : Params → Shape → Read (Unit {0})
met_by params shape = no_constraint (nodes_of shape) (first_broken_of params shape)

-- the circuit of a shape whose constraints are met
unfoldable pub circuit_with : Params → Shape → Read Circuit
circuit_with params shape = do
  met ← met_by params shape
  Ok (record { shape = shape; params = params })

-- the circuit of a text
unfoldable pub circuit_by_walk : List ℕ → Read Circuit
circuit_by_walk bytes = do
  lines ← walked_text bytes
  params ← params_of lines.head
  shape ← shape_after lines
  circuit_with params shape
