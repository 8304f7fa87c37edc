-- The one text of a certificate: what was searched, what was refused, and what was chosen with all its bounds.
use Rattle.std.specs.Prelude.{ℕ, List, [], ◌∷◌, ◌++◌, codes, map, Option, Some, None, if◌then◌else◌, slice_index}
use Rattle.std.specs.List.{flat_map, enumerate_from}
use Rattle.std.specs.Fmt.{decimal}
use Rattle.fhe_params.specs.declared.params.Params.{Params}
use Rattle.fhe_params.specs.declared.table.CostWeights.{CostWeights}
use Rattle.fhe_params.specs.declared.table.Counts.{Counts}
use Rattle.fhe_params.specs.declared.table.Table.{Table}
use Rattle.fhe_params.specs.declared.table.Choice.{Choice}
use Rattle.fhe_params.specs.Table.{params_of}
use Rattle.fhe_params.specs.Cost.{cost_of}
use Rattle.tfhe_level.specs.declared.level.TfheOp.{TfheOp}
use Rattle.tfhe_level.specs.declared.shape.Shape.{Shape}
use Rattle.tfhe_level.specs.Operations.{is_out}
use Rattle.tfhe_level.specs.Nodes.{nodes_of}
use Rattle.tfhe_level.specs.Counts.{counts_of}
use Rattle.noise_model.specs.declared.constraints.Constraint.{Constraint}
use Rattle.noise_model.specs.declared.constraints.Constraint.TheVariants.{Size, Boot, Result}
use Rattle.noise_model.specs.declared.constraints.Broken.{Broken}
use Rattle.noise_model.specs.Bounds.{noise_bounds, capped}
use Rattle.noise_model.specs.Constraints.{as_broken, size_constraint, noise_constraints}
use Rattle.param_search.specs.declared.least.Refused.{Refused}
use Rattle.param_search.specs.declared.least.Found.{Found}
use Rattle.param_search.specs.Search.{found_of}

-- a line feed
abbrev pub line_feed : List ℕ
line_feed = 10 ∷ []

-- a number behind these words
abbrev pub field : List ℕ → ℕ → List ℕ
field words number = words ++ decimal number

-- the last number of a line
abbrev pub last_field : List ℕ → ℕ → List ℕ
last_field words number = words ++ (decimal number ++ line_feed)

-- ---- the head

-- the title
abbrev pub title : List ℕ
title = codes "fhec certificate 1" ++ line_feed

-- what weighs how much in a cost
abbrev pub weights_line : CostWeights → List ℕ
weights_line w = field (codes "weights ") w.switch ++ (field (codes " ") w.boot ++ last_field (codes " ") w.lin)

-- how much the circuit does: its key switches, bootstraps and weights
abbrev pub counts_line : Counts → List ℕ
counts_line c = field (codes "shape ") c.switches ++ (field (codes " ") c.boots ++ last_field (codes " ") c.weights)

-- the width of its messages
abbrev pub width_line : ℕ → List ℕ
width_line width = last_field (codes "width ") width

-- ---- choices and constraints

-- the places of a choice, and what the circuit costs with it
abbrev pub choice_text : Choice → ℕ → List ℕ
choice_text c cost =
    field [] c.glwe
    ++ (field (codes " ") c.lwe
    ++ (field (codes " ") c.boot ++ (field (codes " ") c.switch ++ field (codes " cost ") cost)))

-- what a constraint is on
abbrev pub place_text : Constraint → List ℕ
place_text Size = codes "size"
place_text (Boot count) = field (codes "boot ") count
place_text (Result count) = field (codes "result ") count

-- a constraint with its bound and its limit
abbrev pub constraint_line : Broken → List ℕ
constraint_line b = place_text b.at ++ (field (codes " ") b.bound ++ last_field (codes " ") b.limit)

-- a refused choice, with the first constraint that it breaks
abbrev pub refused_line : Refused → List ℕ
refused_line r = codes "refused " ++ (choice_text r.choice r.cost ++ (codes " " ++ constraint_line r.broken))

-- ---- the chosen one

-- the bound of a node, which the certificate tells of all operations but outs
abbrev pub node_line : List ℕ → ℕ × TfheOp → List ℕ
node_line bounds node =
    if is_out node.1 then [] else field (codes "node ") node.0 ++ last_field (codes " ") (slice_index bounds node.0)

-- those of all nodes
abbrev pub nodes_text : List ℕ → List TfheOp → List ℕ
nodes_text bounds operations = flat_map (node_line bounds) (enumerate_from 0 operations)

-- the size of the keys where there is a bootstrap, the bounds of the nodes, and the constraints on bootstraps and outs
unfoldable pub bounds_text : Params → Shape → List ℕ
bounds_text p shape =
    flat_map constraint_line (map as_broken (size_constraint p (nodes_of shape)))
    ++ (nodes_text (map capped (noise_bounds p (nodes_of shape))) (nodes_of shape)
    ++ flat_map constraint_line (map as_broken (noise_constraints p shape)))

-- the chosen choice with its cost
abbrev pub chosen_line : Table → Counts → Choice → List ℕ
chosen_line table counts choice =
    codes "chosen " ++ (choice_text choice (cost_of (params_of table choice) table.weights counts) ++ line_feed)

-- the chosen one with its bounds, or that there is none
abbrev pub chosen_text : Table → Shape → Option Choice → List ℕ
chosen_text table shape None = codes "none" ++ line_feed
chosen_text table shape (Some choice) =
    chosen_line table (counts_of (nodes_of shape)) choice ++ bounds_text (params_of table choice) shape

-- ---- the whole

-- the certificate of what a search found
unfoldable pub certificate_of : Table → Shape → Found → List ℕ
certificate_of table shape found =
    title
    ++ (weights_line table.weights
    ++ (counts_line (counts_of (nodes_of shape))
    ++ (width_line shape.width
    ++ (flat_map refused_line found.refused
    ++ (chosen_text table shape found.chosen ++ (codes "end" ++ line_feed))))))

-- the one certificate of a shape and a table
abbrev pub certificate_text : Table → Shape → List ℕ
certificate_text table shape = certificate_of table shape (found_of table shape)
