-- What holds of the heads of files of ciphertexts.
use Rattle.std.specs.Prelude.{◌≡◌, List}
use Rattle.tfhe_level.specs.declared.level.TfheOp.{TfheOp}
use Rattle.tfhe_level.specs.declared.shape.Circuit.{Circuit}
use Rattle.tfhe_level.specs.Nodes.{node_ranges, at_outs}
use Rattle.noise_model.specs.Circuits.{IsCircuit}
use Rattle.circuit_heads.specs.Heads.{out_ranges, input_head, output_head, HasHeadLimits}

-- heads of circuits that keep the rules
pub record HeadLaws : Type 0 where
  -- the ranges that outs are written with are theirs among the ranges of all operations
  pub outs : (operations : List TfheOp) → out_ranges operations ≡ at_outs operations (node_ranges operations)
  -- the files of inputs and of outputs keep their limits
  pub input_limits : (circuit : Circuit) → IsCircuit circuit → HasHeadLimits (input_head circuit)
  pub output_limits : (circuit : Circuit) → IsCircuit circuit → HasHeadLimits (output_head circuit)
