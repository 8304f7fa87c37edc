-- The one text of a circuit.
use Rattle.std.specs.Prelude.{ℕ, ◌+◌, List, [], ◌∷◌, ◌++◌, codes, map, pos}
use Rattle.std.specs.List.{flat_map}
use Rattle.circuit_lines.specs.declared.head.GlweNumbers.{GlweNumbers}
use Rattle.circuit_lines.specs.declared.head.LweNumbers.{LweNumbers}
use Rattle.circuit_lines.specs.declared.head.GadgetNumbers.{GadgetNumbers}
use Rattle.circuit_lines.specs.declared.head.Head.{Head}
use Rattle.circuit_lines.specs.declared.line.Line.{Line}
use Rattle.circuit_lines.specs.declared.line.Line.TheVariants.{Input as InputLine, Lin as LinLine, Switch as SwitchLine, Boot as BootLine, Out as OutLine}
use Rattle.circuit_lines.specs.Lines.{line_feed, params_lines, head_text, line_text}
use Rattle.fhe_params.specs.declared.params.GlweChoice.{GlweChoice}
use Rattle.fhe_params.specs.declared.params.LweChoice.{LweChoice}
use Rattle.fhe_params.specs.declared.params.Gadget.{Gadget}
use Rattle.fhe_params.specs.declared.params.Params.{Params}
use Rattle.tfhe_level.specs.declared.level.TfheOp.{TfheOp}
use Rattle.tfhe_level.specs.declared.level.TfheOp.TheVariants.{Input, Lin, Switch, Boot, Out}
use Rattle.tfhe_level.specs.declared.shape.Circuit.{Circuit}
use Rattle.tfhe_level.specs.Nodes.{nodes_of}

-- the numbers of the parameter lines
abbrev pub glwe_numbers : GlweChoice → GlweNumbers
glwe_numbers g = record { k = pos g.k; log_n = pos g.log_n; ones = pos g.ones; error = pos g.error }

abbrev pub lwe_numbers : LweChoice → LweNumbers
lwe_numbers l = record { n = pos l.n; ones = pos l.ones; error = pos l.error }

abbrev pub gadget_numbers : Gadget → GadgetNumbers
gadget_numbers g = record { base = pos g.base; level = pos g.level }

-- the numbers of the lines before the nodes
abbrev pub head_of : ℕ → Params → Head
head_of width p = record {
  width = pos width;
  glwe = glwe_numbers p.glwe;
  lwe = lwe_numbers p.lwe;
  boot = gadget_numbers p.boot;
  switch = gadget_numbers p.switch;
}

-- the four parameter lines, whose SHA-256 ties a file to its parameters
unfoldable pub params_text : Params → List ℕ
params_text p = params_lines (head_of 0 p)

-- the line of an operation with this number
abbrev pub line_of_op : ℕ → TfheOp → Line
line_of_op number (Input lo hi) = InputLine (pos number) lo hi
line_of_op number (Lin constant terms) = LinLine (pos number) constant (map (λ t. (pos t.0, t.1)) terms)
line_of_op number (Switch source) = SwitchLine (pos number) (pos source)
line_of_op number (Boot source entries) = BootLine (pos number) (pos source) entries
line_of_op number (Out source lo hi) = OutLine (pos source) lo hi

-- the lines of operations, whose numbers count up from this one
abbrev pub op_lines : ℕ → List TfheOp → List Line
op_lines number [] = []
op_lines number (op ∷ operations) = line_of_op number op ∷ op_lines (number + 1) operations

-- the texts of these lines
unfoldable pub ops_text : ℕ → List TfheOp → List ℕ
ops_text number operations = flat_map line_text (op_lines number operations)

-- the whole text: the parameters, a line for each operation, and the line of `end`
unfoldable pub circuit_text : Circuit → List ℕ
circuit_text circuit =
    head_text (head_of circuit.shape.width circuit.params)
    ++ (ops_text 0 (nodes_of circuit.shape) ++ (codes "end" ++ line_feed))
