-- What a run that gave an output has read.
use Rattle.std.specs.Prelude.{◌≡◌, ℕ, ◌≤◌, true, List, length, Ok}
use Rattle.port_store.specs.Files.{Bytes, Files}
use Rattle.tfhe_level.specs.declared.shape.Circuit.{Circuit}
use Rattle.noise_model.specs.Circuits.{IsCircuit}
use Rattle.sealed_files.specs.Limits.{file_limit}
use Rattle.cipher_files.specs.CipherFile.{IsCipherFile, cipher_bytes}
use Rattle.circuit_run.specs.Running.{EvalKeys}
use Rattle.command_files.specs.Files.{fits_eval, circuit_from}
use Rattle.run_command.specs.Words.{RunWords}
use Rattle.run_command.specs.Run.{keys_from, inputs_from, output_file}

-- the circuit, its keys and its inputs out of the files, and bytes that spell the file of its outputs
pub record GaveOutput (words : RunWords) (files : Files) (output : Bytes) : Type 0 where
  pub circuit : Circuit
  pub rules : IsCircuit circuit
  pub circuit_read : circuit_from words.circuit files ≡ Ok circuit
  pub needs : fits_eval circuit words.eval ≡ true
  pub keys : EvalKeys
  pub keys_read : keys_from circuit words.eval files ≡ Ok keys
  pub inputs : List (List ℕ)
  pub inputs_read : inputs_from circuit words.cipher files ≡ Ok inputs
  pub is_file : IsCipherFile (output_file circuit keys inputs)
  pub spelled : output ≡ cipher_bytes (output_file circuit keys inputs)
  pub within : length output ≤ file_limit
