-- What the files of commands hold: each is read under its limit of bytes, and then as what its bytes spell.
use Rattle.std.specs.Prelude.{ℕ, Bool, not, List, [], ◌∷◌, Result, ℤ, if◌then◌else◌}
use Rattle.std.specs.List.{list_any}
use Rattle.refusals.specs.Reading.{◌>>=◌}
use Rattle.port_store.specs.Files.{Bytes, Files}
use Rattle.fhe_params.specs.declared.params.Params.{Params}
use Rattle.tfhe_level.specs.declared.shape.Circuit.{Circuit}
use Rattle.tfhe_level.specs.Operations.{is_boot}
use Rattle.tfhe_level.specs.Nodes.{nodes_of}
use Rattle.circuit_file.specs.Limits.{circuit_limit}
use Rattle.circuit_file.specs.Circuit.{circuit_of}
use Rattle.sealed_files.specs.Limits.{file_limit}
use Rattle.sealed_files.specs.declared.kinds.FileKind.TheVariants as kind
use Rattle.cipher_files.specs.SecretFile.{SecretFile, secret_of}
use Rattle.cipher_files.specs.CipherFile.{CipherFile, cipher_of}
use Rattle.cipher_files.specs.EvalFile.{EvalRows, eval_of}
use Rattle.value_files.specs.Values.{values_limit, values_of}
use Rattle.command_forms.specs.declared.fault.Fault.{Fault}
use Rattle.command_forms.specs.declared.fault.Fault.TheVariants as fault
use Rattle.command_forms.specs.Names.{is_no_eval}
use Rattle.command_forms.specs.Outcome.{as_fault, reading}

-- the circuit in the bytes of its text, and in a file
abbrev pub circuit_in : Bytes → Result Circuit Fault
circuit_in text = as_fault fault.Circuit (circuit_of text)

unfoldable pub circuit_from : Bytes → Files → Result Circuit Fault
circuit_from name files = do
  text ← reading files name circuit_limit
  circuit_in text

-- a circuit has a bootstrap, and so evaluation keys
abbrev pub has_boot : Circuit → Bool
has_boot circuit = list_any is_boot (nodes_of circuit.shape)

-- EVAL is the word `-` exactly where the circuit has none
abbrev pub fits_eval : Circuit → Bytes → Bool
fits_eval circuit eval = if has_boot circuit then not (is_no_eval eval) else is_no_eval eval

-- the file that EVAL names: none where it is the word `-`
abbrev pub eval_files : Bytes → List Bytes
eval_files eval = if is_no_eval eval then [] else eval ∷ []

-- evaluation keys of these parameters, whose digest this is
abbrev pub eval_in : List ℕ → Params → Bytes → Result EvalRows Fault
eval_in digest params bytes = as_fault (λ f. fault.File kind.Eval f) (eval_of digest params bytes)

unfoldable pub eval_from : List ℕ → Params → Bytes → Files → Result EvalRows Fault
eval_from digest params name files = do
  bytes ← reading files name file_limit
  eval_in digest params bytes

-- secret keys
abbrev pub secret_in : Bytes → Result SecretFile Fault
secret_in bytes = as_fault (λ f. fault.File kind.Secret f) (secret_of bytes)

unfoldable pub secret_from : Bytes → Files → Result SecretFile Fault
secret_from name files = do
  bytes ← reading files name file_limit
  secret_in bytes

-- ciphertexts
abbrev pub cipher_in : Bytes → Result CipherFile Fault
cipher_in bytes = as_fault (λ f. fault.File kind.Cipher f) (cipher_of bytes)

unfoldable pub cipher_from : Bytes → Files → Result CipherFile Fault
cipher_from name files = do
  bytes ← reading files name file_limit
  cipher_in bytes

-- values, one for each of these ranges
abbrev pub values_in : List (ℤ × ℤ) → Bytes → Result (List ℤ) Fault
values_in ranges bytes = as_fault fault.Value (values_of bytes ranges)

unfoldable pub values_from : List (ℤ × ℤ) → Bytes → Files → Result (List ℤ) Fault
values_from ranges name files = do
  bytes ← reading files name values_limit
  values_in ranges bytes
