-- What a circuit computes on whole numbers, node by node. Nothing here speaks of a ciphertext.
use Rattle.std.specs.Prelude.{List, [], length, map, filter, ℤ, unsigned_abs}
use Rattle.std.specs.List.{zip}
use Rattle.ir_core.specs.Placed.{operations_of}
use Rattle.forms.specs.Forms.{number_at, range_at, form_value, form_range}
use Rattle.forms.specs.Ranges.{range_of_entries}
use Rattle.forms.specs.FromEarlier.{from_earlier}
use Rattle.tfhe_level.specs.declared.level.TfheOp.{TfheOp}
use Rattle.tfhe_level.specs.declared.level.TfheOp.TheVariants.{Input, Lin, Switch, Boot, Out}
use Rattle.tfhe_level.specs.declared.shape.Shape.{Shape}
use Rattle.tfhe_level.specs.Operations.{is_out}

-- the nodes of a shape, and then its outs: the operations in order
abbrev pub nodes_of : Shape → List TfheOp
nodes_of shape = operations_of shape.graph

-- ---- values

-- the value of an operation, from the values of the inputs and of the operations before it: a bootstrap gives the entry
-- at its operand's value
abbrev pub value_of : List ℤ → List ℤ → TfheOp → ℤ
value_of inputs earlier (Input lo hi) = number_at inputs (length earlier)
value_of inputs earlier (Lin constant terms) = form_value constant terms earlier
value_of inputs earlier (Switch source) = number_at earlier source
value_of inputs earlier (Boot source entries) = number_at entries (unsigned_abs (number_at earlier source))
value_of inputs earlier (Out source lo hi) = number_at earlier source

-- the values of all operations
abbrev pub node_values : List TfheOp → List ℤ → List ℤ
node_values nodes inputs = from_earlier (value_of inputs) [] nodes

-- what the outs have
abbrev pub at_outs : {A : Type 0} → List TfheOp → List A → List A
at_outs nodes results = map (λ node. node.1) (filter (λ node. is_out node.0) (zip nodes results))

-- the values of the outs, in order, where the inputs have these values
abbrev pub clear_values : List TfheOp → List ℤ → List ℤ
clear_values nodes inputs = at_outs nodes (node_values nodes inputs)

-- ---- ranges

-- the range of an operation, from those of the operations before it
abbrev pub range_of : List (ℤ × ℤ) → TfheOp → ℤ × ℤ
range_of earlier (Input lo hi) = (lo, hi)
range_of earlier (Lin constant terms) = form_range constant terms earlier
range_of earlier (Switch source) = range_at earlier source
range_of earlier (Boot source entries) = range_of_entries entries
range_of earlier (Out source lo hi) = (lo, hi)

-- the ranges of all operations
abbrev pub node_ranges : List TfheOp → List (ℤ × ℤ)
node_ranges nodes = from_earlier range_of [] nodes
