-- The rules that a circuit keeps.
use Rattle.fhe_params.specs.Params.{IsParams}
use Rattle.tfhe_level.specs.declared.shape.Circuit.{Circuit}
use Rattle.tfhe_level.specs.Rules.{IsShape}
use Rattle.noise_model.specs.Constraints.{MeetsAll}

-- a circuit: its shape keeps the rules, its parameters their limits, and all constraints on noise are met
pub record IsCircuit (circuit : Circuit) : Type 0 where
  pub shape : IsShape circuit.shape
  pub params : IsParams circuit.params
  pub meets : MeetsAll circuit.params circuit.shape
