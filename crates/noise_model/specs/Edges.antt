-- Bootstraps and outs alike: where the noise of an operation is compared with half a step.
use Rattle.std.specs.Prelude.{ℕ, List, map, filter_map, Option}
use Rattle.std.specs.List.{enumerate_from}
use Rattle.fhe_params.specs.declared.params.Params.{Params}
use Rattle.tfhe_level.specs.declared.level.TfheOp.{TfheOp}
use Rattle.tfhe_level.specs.declared.shape.Shape.{Shape}
use Rattle.noise_model.specs.declared.constraints.Constraint.{Constraint}
use Rattle.noise_model.specs.declared.constraints.Constraint.TheVariants.{Boot as AtBoot, Result as AtResult}
use Rattle.noise_model.specs.declared.constraints.Edge.{Edge}
use Rattle.noise_model.specs.declared.constraints.Edge.TheVariants.{IntoBoot, OutOfCircuit}
use Rattle.noise_model.specs.Constraints.{Comparison, modulus_noise, boot_source, out_source, boot_constraint, out_constraint}

-- the operation whose noise is compared
abbrev pub source_of : Edge → TfheOp → Option ℕ
source_of IntoBoot op = boot_source op
source_of OutOfCircuit op = out_source op

-- what is added to its bound
abbrev pub added_at : Edge → Params → ℕ
added_at IntoBoot p = modulus_noise p
added_at OutOfCircuit p = 0

-- the constraint on the edge with a number
abbrev pub constraint_at : Edge → ℕ → Constraint
constraint_at IntoBoot count = AtBoot count
constraint_at OutOfCircuit count = AtResult count

-- the constraint on an edge, counted from 0, of an operation
abbrev pub edge_constraint : Edge → Params → Shape → ℕ × ℕ → Comparison
edge_constraint IntoBoot p shape edge = boot_constraint p shape edge
edge_constraint OutOfCircuit p shape edge = out_constraint p shape edge

-- those on all edges of a kind among these operations
abbrev pub edge_constraints : Edge → Params → Shape → List TfheOp → List Comparison
edge_constraints edge p shape operations =
    map (edge_constraint edge p shape) (enumerate_from 0 (filter_map (source_of edge) operations))
