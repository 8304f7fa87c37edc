-- `run`: the ciphertexts of a circuit's outputs, out of the files of the circuit, its evaluation keys and its inputs.
use Rattle.std.specs.Prelude.{◌≡◌, ℕ, true, false, List, Option, Some, None, Result, Ok, if◌then◌else◌}
use Rattle.refusals.specs.Reading.{◌>>=◌, unless}
use Rattle.port_store.specs.Files.{Bytes, Files}
use Rattle.key_switch.specs.Key.{SwitchRows}
use Rattle.blind_rotate.specs.BootKey.{BootRows}
use Rattle.fhe_params.specs.declared.params.Params.{Params}
use Rattle.tfhe_level.specs.declared.shape.Circuit.{Circuit}
use Rattle.sealed_files.specs.declared.kinds.FileKind.TheVariants as kind
use Rattle.circuit_digest.specs.ParamsDigest.{params_digest}
use Rattle.circuit_heads.specs.Heads.{input_head, output_head}
use Rattle.cipher_files.specs.CipherFile.{CipherFile, cipher_head, file_of, cipher_bytes, head_fits}
use Rattle.cipher_files.specs.EvalFile.{EvalRows, eval_rows, IsEvalFile}
use Rattle.circuit_run.specs.Running.{EvalKeys, eval_keys, output_words}
use Rattle.command_forms.specs.declared.fault.Fault.{Fault}
use Rattle.command_forms.specs.declared.fault.Fault.TheVariants as fault
use Rattle.command_forms.specs.Names.{is_no_eval}
use Rattle.command_forms.specs.Outcome.{Outcome, as_fault, outcome_from, wrote}
use Rattle.command_files.specs.Files.{fits_eval, circuit_from, eval_from, cipher_from}
use Rattle.run_command.specs.Words.{RunWords}

-- ---- evaluation keys

-- these keys for a run
abbrev pub some_keys : EvalRows → EvalKeys
some_keys rows = eval_keys (Some rows.switch) (Some rows.boot)

-- none
abbrev pub no_keys : EvalKeys
no_keys = eval_keys None None

-- what a pair of keys stands for, where there is one
abbrev pub keys_view : Option (SwitchRows × BootRows) → EvalKeys
keys_view (Some keys) = some_keys (eval_rows keys.0 keys.1)
keys_view None = no_keys

-- keys of the parameters are there unless EVAL is the word `-`
abbrev pub AreKeysOf : Params → Bytes → Option (SwitchRows × BootRows) → Type 0
AreKeysOf params eval (Some keys) = (is_no_eval eval ≡ false) × IsEvalFile params (eval_rows keys.0 keys.1)
AreKeysOf params eval None = is_no_eval eval ≡ true

-- the evaluation keys of a circuit: those in the file of EVAL, and none where it is the word `-`
unfoldable pub keys_from : Circuit → Bytes → Files → Result EvalKeys Fault
keys_from circuit eval files =
    if is_no_eval eval then Ok no_keys
    else (eval_from (params_digest circuit.params) circuit.params eval files >>= λ rows. Ok (some_keys rows))

-- ---- inputs and outputs

-- ciphertexts that are made for the inputs of the circuit
abbrev pub fitting_inputs : Circuit → CipherFile → Result CipherFile Fault
fitting_inputs circuit file =
    as_fault (λ f. fault.File kind.Cipher f) (head_fits (input_head circuit) (cipher_head file)) >>= λ fits. Ok file

-- the ciphertexts of the inputs in a file
unfoldable pub inputs_from : Circuit → Bytes → Files → Result (List (List ℕ)) Fault
inputs_from circuit name files = do
  file ← cipher_from name files
  inputs ← fitting_inputs circuit file
  Ok inputs.ciphertexts

-- the file of the outputs
abbrev pub output_file : Circuit → EvalKeys → List (List ℕ) → CipherFile
output_file circuit keys inputs = file_of (output_head circuit) (output_words circuit keys inputs)

-- ---- the command

-- the bytes of the outputs, out of the files
unfoldable pub run_output : RunWords → Files → Result Bytes Fault
run_output words files = do
  circuit ← circuit_from words.circuit files
  fits ← unless (fits_eval circuit words.eval) fault.Usage
  keys ← keys_from circuit words.eval files
  inputs ← inputs_from circuit words.cipher files
  Ok (cipher_bytes (output_file circuit keys inputs))

-- reads CIRCUIT, EVAL where the circuit has a bootstrap, and CIPHER, and writes OUTPUT
abbrev pub run_outcome : RunWords → Files → Outcome
run_outcome words files = outcome_from (wrote words.output) (run_output words files)
