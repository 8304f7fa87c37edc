-- What a command on keys that gave its files has read.
use Rattle.std.specs.Prelude.{◌≡◌, ℕ, true, List, Ok, ℤ}
use Rattle.port_store.specs.Files.{Files}
use Rattle.forms.specs.Forms.{AreIn}
use Rattle.tfhe_level.specs.declared.shape.Circuit.{Circuit}
use Rattle.tfhe_level.specs.Nodes.{nodes_of}
use Rattle.tfhe_level.specs.Laws.{input_ranges}
use Rattle.noise_model.specs.Circuits.{IsCircuit}
use Rattle.circuit_digest.specs.ParamsDigest.{params_digest}
use Rattle.cipher_files.specs.SecretFile.{SecretFile, IsSecretFile, secret_fits}
use Rattle.cipher_files.specs.CipherFile.{IsCipherFile}
use Rattle.cipher_files.specs.EvalFile.{IsEvalFile}
use Rattle.command_files.specs.Files.{has_boot, fits_eval, circuit_from, secret_from, values_from}
use Rattle.key_commands.specs.Words.{KeygenWords, EncryptWords}
use Rattle.key_commands.specs.Keygen.{secret_of_seed, eval_keys_of_seed}
use Rattle.key_commands.specs.Encrypt.{input_file}

-- the keys of a seed have spellings: the secret ones, and the evaluation keys where the circuit has a bootstrap
pub record AreKeyFiles (circuit : Circuit) (seed : List ℕ) : Type 0 where
  pub secret : IsSecretFile (secret_of_seed circuit seed)
  pub eval : has_boot circuit ≡ true → IsEvalFile circuit.params (eval_keys_of_seed circuit seed)

-- the circuit out of the files, and keys of it that have spellings
pub record GaveKeys (words : KeygenWords) (files : Files) : Type 0 where
  pub circuit : Circuit
  pub rules : IsCircuit circuit
  pub circuit_read : circuit_from words.circuit files ≡ Ok circuit
  pub needs : fits_eval circuit words.eval ≡ true
  pub are_files : AreKeyFiles circuit words.seed

-- the circuit, secret keys that fit it and values out of the files, and inputs of these that have a spelling
pub record GaveInputs (words : EncryptWords) (files : Files) : Type 0 where
  pub circuit : Circuit
  pub rules : IsCircuit circuit
  pub circuit_read : circuit_from words.circuit files ≡ Ok circuit
  pub keys : SecretFile
  pub keys_read : secret_from words.secret files ≡ Ok keys
  pub fitting : secret_fits (params_digest circuit.params) circuit.params keys ≡ Ok tt
  pub numbers : List ℤ
  pub numbers_read : values_from (input_ranges (nodes_of circuit.shape)) words.values files ≡ Ok numbers
  pub within : AreIn (input_ranges (nodes_of circuit.shape)) numbers
  pub is_file : IsCipherFile (input_file circuit words.seed keys.big numbers)
