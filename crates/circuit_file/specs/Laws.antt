-- What holds of circuits and of their texts.
use Rattle.std.specs.Prelude.{◌≡◌, ℕ, ◌≤◌, List, length, Ok}
use Rattle.tfhe_level.specs.declared.shape.Circuit.{Circuit}
use Rattle.circuit_file.specs.Limits.{circuit_limit}
use Rattle.noise_model.specs.Circuits.{IsCircuit}
use Rattle.circuit_file.specs.Circuit.{circuit_of}
use Rattle.circuit_file.specs.Text.{circuit_text}

-- reading a circuit's text and spelling a circuit are inverse to each other, and the text is short
pub record CircuitTextLaws : Type 0 where
  -- what is read is a circuit that keeps the rules, and is spelled so, each byte of it
  pub read : (bytes : List ℕ) (circuit : Circuit) → circuit_of bytes ≡ Ok circuit
      → IsCircuit circuit × (bytes ≡ circuit_text circuit)
  -- a circuit that keeps the rules is read from its text
  pub spelled : (circuit : Circuit) → IsCircuit circuit → circuit_of (circuit_text circuit) ≡ Ok circuit
  -- which keeps the limit of the texts that are read
  pub size : (circuit : Circuit) → IsCircuit circuit → length (circuit_text circuit) ≤ circuit_limit
