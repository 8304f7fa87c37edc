-- The headline: what `run` writes decrypts to the values of the circuit on whole numbers.
use Rattle.std.specs.Prelude.{◌≡◌, ℕ, Bool, true, List, Some, Ok, ℤ}
use Rattle.std.specs.FinMap.{get, insert}
use Rattle.port_store.specs.Files.{Files}
use Rattle.tfhe_level.specs.declared.shape.Circuit.{Circuit}
use Rattle.tfhe_level.specs.Nodes.{nodes_of, at_outs, clear_values}
use Rattle.noise_model.specs.Bounds.{noise_bounds}
use Rattle.noise_model.specs.Circuits.{IsCircuit}
use Rattle.circuit_file.specs.Text.{circuit_text}
use Rattle.circuit_heads.specs.Heads.{out_ranges, input_head}
use Rattle.cipher_files.specs.CipherFile.{CipherFile, cipher_head, cipher_bytes, head_fits}
use Rattle.circuit_run.specs.Running.{EvalKeys, output_words}
use Rattle.circuit_run.specs.Noise.{AreGood, AreRight}
use Rattle.command_forms.specs.declared.status.Status.{Status}
use Rattle.command_forms.specs.declared.status.Status.TheVariants as status
use Rattle.command_forms.specs.Outside.{Outside}
use Rattle.command_files.specs.Files.{fits_eval, cipher_from}
use Rattle.run_command.specs.Words.{RunWords}
use Rattle.run_command.specs.Run.{keys_from, output_file}

-- for every secret key that the evaluation keys fit, all values in the input ranges, and inputs that stand for them within
-- the error of fresh ciphertexts, each output stands for its value on whole numbers within its bound, lies in its range,
-- and decodes to it over the range's least number
abbrev pub AreRightOutputs : Circuit → EvalKeys → List (List ℕ) → Type 0
AreRightOutputs circuit keys inputs =
    (big small : List Bool) (values : List ℤ) → AreGood circuit keys big small values inputs
    → AreRight big circuit.shape.width (out_ranges (nodes_of circuit.shape))
    (at_outs (nodes_of circuit.shape) (noise_bounds circuit.params (nodes_of circuit.shape)))
    (output_words circuit keys inputs) (clear_values (nodes_of circuit.shape) values)

-- a run over these files did what its circuit says, on whatever its inputs stand for
pub record RunIsRight (words : RunWords) (before after : Files) : Type 0 where
  -- the circuit, its evaluation keys, and the file of its inputs
  pub circuit : Circuit
  pub keys : EvalKeys
  pub inputs : CipherFile
  -- CIRCUIT holds the one text of the circuit, which keeps the rules and meets all constraints
  pub rules : IsCircuit circuit
  pub text : get before words.circuit ≡ Some (circuit_text circuit)
  -- EVAL is read as its evaluation keys, which there are exactly where the circuit has a bootstrap
  pub needs : fits_eval circuit words.eval ≡ true
  pub evaluation : keys_from circuit words.eval before ≡ Ok keys
  -- CIPHER is read as inputs that are made for it
  pub cipher : cipher_from words.cipher before ≡ Ok inputs
  pub fitting : head_fits (input_head circuit) (cipher_head inputs) ≡ Ok tt
  -- OUTPUT is written, and nothing else changes
  pub stored : after ≡ insert before words.output (cipher_bytes (output_file circuit keys inputs.ciphertexts))
  -- it holds the words of the run, under the outputs' own ranges, and is read as them
  pub written : get after words.output ≡ Some (cipher_bytes (output_file circuit keys inputs.ciphertexts))
  pub read_back : cipher_from words.output after ≡ Ok (output_file circuit keys inputs.ciphertexts)
  -- and they are right
  pub right : AreRightOutputs circuit keys inputs.ciphertexts

-- the headline: what the answer Ok promises, over a store that tells its files
abbrev pub RunHeadline : RunWords → Status → Outside → Outside → Type 0
RunHeadline words answer before after =
    answer ≡ status.Ok → (files now : Files) → before.store.files ≡ Some files → after.store.files ≡ Some now
    → RunIsRight words files now
