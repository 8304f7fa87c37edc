-- What holds of the constraints on parameters.
use Rattle.std.specs.Prelude.{◌↔◌, IsNone}
use Rattle.fhe_params.specs.declared.params.Params.{Params}
use Rattle.tfhe_level.specs.declared.shape.Shape.{Shape}
use Rattle.noise_model.specs.Constraints.{first_broken_of, MeetsAll}

-- the first broken constraint and the constraints that are met
pub record ConstraintLaws : Type 0 where
  -- there is no broken one exactly where all are met
  pub none : (p : Params) (shape : Shape) → IsNone (first_broken_of p shape) ↔ MeetsAll p shape
