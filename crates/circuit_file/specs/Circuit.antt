-- The whole text: its circuit, or the first fault in the order of the kinds.
use Rattle.std.specs.Prelude.{ℕ, zero, suc, ◌+◌, nat_lt, ◌&&◌, Bool, false, List, [], ◌∷◌, ◌++◌, length, map, Option, Some, None, Ok, Err, ℤ, unsigned_abs, if◌then◌else◌}
use Rattle.std.specs.List.{enumerate_from}
use Rattle.refusals.specs.Reading.{◌>>=◌, unless}
use Rattle.ir_core.specs.Graph.{Operations}
use Rattle.fhe_params.specs.declared.params.Params.{Params}
use Rattle.tfhe_level.specs.declared.level.TfheOp.{TfheOp}
use Rattle.tfhe_level.specs.declared.shape.Shape.{Shape}
use Rattle.tfhe_level.specs.declared.shape.Circuit.{Circuit}
use Rattle.tfhe_level.specs.Operations.{is_boot, is_out}
use Rattle.tfhe_level.specs.Nodes.{nodes_of}
use Rattle.tfhe_level.specs.Rules.{message_ranges}
use Rattle.noise_model.specs.declared.constraints.Constraint.{Constraint}
use Rattle.noise_model.specs.declared.constraints.Constraint.TheVariants.{Size, Boot as AtBoot, Result as AtResult}
use Rattle.noise_model.specs.declared.constraints.Broken.{Broken}
use Rattle.noise_model.specs.Constraints.{first_broken_of}
use Rattle.circuit_lines.specs.Lines.{Lines}
use Rattle.circuit_lines.specs.Reading.{lines_of}
use Rattle.circuit_nodes.specs.Tests.{is_least_width}
use Rattle.circuit_nodes.specs.Lines.{op_of, broken_line}
use Rattle.circuit_file.specs.declared.fault.CircuitKind.TheVariants.{Node, Width, Constraint as ConstraintKind}
use Rattle.circuit_file.specs.Faults.{Read, fault_at, as_spelling}
use Rattle.circuit_file.specs.Params.{is_natural, params_of}

-- ---- nodes and outs

-- the line of the first node
abbrev pub first_node : ℕ
first_node = 7

-- all is kept, or the fault of the first line that is not
abbrev pub no_broken_line : Option ℕ → Read (Unit {0})
no_broken_line None = Ok tt
no_broken_line (Some place) = Err (fault_at (first_node + place) Node)

-- the operations of the lines, which keep their rules, with an out: else the fault at the first line that breaks one,
-- or at that of the end
unfoldable pub operations_of : Lines → Read (List TfheOp)
operations_of lines = do
  kept ← no_broken_line (broken_line (lines.nodes ++ lines.outs))
  some ← unless (nat_lt 0 (length lines.outs)) (fault_at (first_node + length lines.nodes) Node)
  Ok (map op_of (lines.nodes ++ lines.outs))

-- ---- the width

-- a width as it is written is the least that holds these operations
abbrev pub is_width : List TfheOp → ℤ → Bool
is_width operations width = is_natural width && is_least_width (message_ranges operations) (unsigned_abs width)

-- ---- the constraints

-- an operation of the kind that a constraint is on
abbrev pub is_on : Constraint → TfheOp → Bool
is_on Size op = false
is_on (AtBoot count) op = is_boot op
is_on (AtResult count) op = is_out op

-- the place of the operation with a number, counted over those of a kind from 0
abbrev pub place_among : (TfheOp → Bool) → List TfheOp → ℕ → ℕ
place_among kind [] count = 0
place_among kind (op ∷ operations) zero = if kind op then 0 else suc (place_among kind operations zero)
place_among kind (op ∷ operations) (suc count) =
    if kind op then suc (place_among kind operations count) else suc (place_among kind operations (suc count))

-- the line of a constraint: the ring's parameters for the size of keys, and else that of the bootstrap or the out
abbrev pub line_of : List TfheOp → Constraint → ℕ
line_of operations Size = 3
line_of operations (AtBoot count) = first_node + place_among is_boot operations count
line_of operations (AtResult count) = first_node + place_among is_out operations count

-- all constraints are met, or the fault of the first that is not
abbrev pub no_constraint : List TfheOp → Option Broken → Read (Unit {0})
no_constraint operations None = Ok tt
no_constraint operations (Some broken) =
    Err (fault_at (line_of operations broken.at) (ConstraintKind broken.bound broken.limit))

-- ---- the whole

-- the graph of operations whose numbers are their places
abbrev pub graph_of : List TfheOp → Operations TfheOp
graph_of operations = record { list = enumerate_from 0 operations; made = length operations }

-- the circuit of operations, a width and parameters
abbrev pub made : List TfheOp → ℕ → Params → Circuit
made operations width params = record { shape = record { graph = graph_of operations; width = width }; params = params }

-- the circuit that a text spells, or its first fault: spelling goes before parameters, then nodes, the width, and the
-- constraints
unfoldable pub circuit_of : List ℕ → Read Circuit
circuit_of bytes = do
  lines ← as_spelling (lines_of bytes)
  params ← params_of lines.head
  operations ← operations_of lines
  width ← unless (is_width operations lines.head.width) (fault_at 2 Width)
  let circuit : Circuit = made operations (unsigned_abs lines.head.width) params in
      no_constraint operations (first_broken_of params circuit.shape) >>= λ met. Ok circuit
