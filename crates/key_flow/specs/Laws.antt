-- What the commands on keys are for: keys fit, inputs stand for their values, and right outputs are decrypted.
use Rattle.std.specs.Prelude.{◌≡◌, ℕ, Bool, List, Ok, ℤ, if◌then◌else◌}
use Rattle.lwe_core.specs.Secret.{HasDimensions}
use Rattle.blind_rotate.specs.Fits.{KeysFit}
use Rattle.fhe_params.specs.Params.{IsParams, big_dimension}
use Rattle.tfhe_level.specs.declared.shape.Circuit.{Circuit}
use Rattle.tfhe_level.specs.Nodes.{nodes_of, node_ranges, at_outs, clear_values}
use Rattle.tfhe_level.specs.Laws.{input_ranges}
use Rattle.forms.specs.Forms.{AreIn}
use Rattle.noise_model.specs.Circuits.{IsCircuit}
use Rattle.seed_stream.specs.Draws.{stream_key}
use Rattle.key_gen.specs.Seeds.{key_numbers, input_label}
use Rattle.circuit_digest.specs.ParamsDigest.{params_digest}
use Rattle.cipher_files.specs.SecretFile.{secret_file}
use Rattle.value_files.specs.Values.{values_text}
use Rattle.circuit_run.specs.Running.{EvalKeys, output_words}
use Rattle.circuit_run.specs.Noise.{StandFor, AreGood, AreRight}
use Rattle.key_commands.specs.Encrypt.{drawn_inputs}
use Rattle.key_commands.specs.Decrypt.{values_at, decrypted_text}
use Rattle.command_files.specs.Files.{has_boot}
use Rattle.key_commands.specs.Keygen.{secret_of_seed, eval_keys_of_seed}
use Rattle.run_command.specs.Run.{some_keys, no_keys, output_file}

-- the evaluation keys of a run: those of the seed where the circuit has a bootstrap
abbrev pub run_keys : Circuit → List ℕ → EvalKeys
run_keys circuit seed = if has_boot circuit then some_keys (eval_keys_of_seed circuit seed) else no_keys

-- the inputs that a seed gives for values
abbrev pub inputs_of : Circuit → List Bool → List ℕ → List ℤ → List (List ℕ)
inputs_of circuit big seed values =
    drawn_inputs (stream_key seed input_label) big circuit.shape.width circuit.params.glwe.error values

-- from keys and values to values again
pub record KeyCommandLaws : Type 0 where
  -- whatever the seed, the keys that are written for a circuit fit each other within the errors of its parameters
  pub keys_fit : (circuit : Circuit) (seed : List ℕ) → IsParams circuit.params
      → KeysFit (key_numbers circuit.params) (secret_of_seed circuit seed).big (secret_of_seed circuit seed).small
      (eval_keys_of_seed circuit seed).switch.rows (eval_keys_of_seed circuit seed).boot.ggsws
  -- the secret keys have the dimensions of the parameters
  pub dimensions : (circuit : Circuit) (seed : List ℕ) → HasDimensions (big_dimension circuit.params)
      circuit.params.lwe.n (secret_of_seed circuit seed).big (secret_of_seed circuit seed).small
  -- the ciphertexts that are drawn for values stand for them within the bound on errors
  pub fresh : (key : List ℕ) (big : List Bool) (width bound : ℕ) (values : List ℤ)
      → StandFor big width bound (drawn_inputs key big width bound values) values
  -- outputs that are right are decrypted to their values
  pub decrypted : (line width : ℕ) (big : List Bool) (ranges : List (ℤ × ℤ)) (bounds : List ℕ)
      (rows : List (List ℕ)) (values : List ℤ) → AreRight big width ranges bounds rows values
      → values_at line width big ranges rows ≡ Ok values
  -- so what a run gives, in a file, is decrypted to lines of the values of the circuit on whole numbers, whatever the
  -- keys and the inputs are that keep the bounds
  pub printed : (circuit : Circuit) (keys : EvalKeys) (big small : List Bool) (values : List ℤ)
      (inputs : List (List ℕ)) → IsCircuit circuit → AreGood circuit keys big small values inputs
      → decrypted_text (secret_file (params_digest circuit.params) small big) (output_file circuit keys inputs)
      ≡ Ok (values_text (clear_values (nodes_of circuit.shape) values))
  -- and, whatever the seeds: what a run of a circuit gives on the inputs that are drawn for values in their ranges, with
  -- the keys that are drawn, is decrypted to the values of the circuit on whole numbers
  pub whole : (circuit : Circuit) (seed other : List ℕ) (values : List ℤ) → IsCircuit circuit
      → AreIn (input_ranges (nodes_of circuit.shape)) values
      → values_at 1 circuit.shape.width (secret_of_seed circuit seed).big
      (at_outs (nodes_of circuit.shape) (node_ranges (nodes_of circuit.shape)))
      (output_words circuit (run_keys circuit seed) (inputs_of circuit (secret_of_seed circuit seed).big other values))
      ≡ Ok (clear_values (nodes_of circuit.shape) values)
