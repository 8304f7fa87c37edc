-- `keygen`: the keys of a circuit, drawn from a seed.
use Rattle.std.specs.Prelude.{ℕ, List, [], ◌∷◌, Option, Some, None, Result, Ok, if◌then◌else◌}
use Rattle.std.specs.Option.{option_map}
use Rattle.refusals.specs.Reading.{◌>>=◌, unless}
use Rattle.port_store.specs.Files.{Bytes, Files}
use Rattle.tfhe_level.specs.declared.shape.Circuit.{Circuit}
use Rattle.key_gen.specs.Seeds.{key_numbers, big_key_of_seed, small_key_of_seed, switch_key_of_seed, boot_key_of_seed}
use Rattle.circuit_digest.specs.ParamsDigest.{params_digest}
use Rattle.cipher_files.specs.SecretFile.{SecretFile, secret_file, secret_bytes}
use Rattle.cipher_files.specs.EvalFile.{EvalRows, eval_rows, eval_bytes}
use Rattle.command_forms.specs.declared.fault.Fault.{Fault}
use Rattle.command_forms.specs.declared.fault.Fault.TheVariants as fault
use Rattle.command_forms.specs.declared.status.Status.TheVariants as status
use Rattle.command_forms.specs.Outcome.{FileWrite, Outcome, file_write, outcome_from, wrote_all}
use Rattle.command_files.specs.Files.{has_boot, fits_eval, circuit_from}
use Rattle.key_commands.specs.declared.keygen.KeyBytes.{KeyBytes}
use Rattle.key_commands.specs.Words.{KeygenWords}

-- the secret keys of a seed
abbrev pub secret_of_seed : Circuit → List ℕ → SecretFile
secret_of_seed circuit seed =
    let p = key_numbers circuit.params in
    secret_file (params_digest circuit.params) (small_key_of_seed p seed) (big_key_of_seed p seed)

-- its evaluation keys
abbrev pub eval_keys_of_seed : Circuit → List ℕ → EvalRows
eval_keys_of_seed circuit seed =
    let p = key_numbers circuit.params in
    eval_rows (switch_key_of_seed p seed) (boot_key_of_seed p seed)

-- the bytes of the files of keys
pub record KeyFiles : Type 0 where
  pub secret : Bytes
  pub eval : Option Bytes

-- those of a circuit and a seed
abbrev pub key_files_of : Circuit → List ℕ → KeyFiles
key_files_of circuit seed = record {
  secret = secret_bytes (secret_of_seed circuit seed);
  eval =
      if has_boot circuit
      then Some (eval_bytes (params_digest circuit.params) circuit.params (eval_keys_of_seed circuit seed))
      else None;
}

-- what bytes stand for
abbrev pub key_view : KeyBytes → KeyFiles
key_view bytes = record { secret = bytes.secret.items; eval = option_map (λ v. v.items) bytes.eval }

-- the file of evaluation keys, where there are any
abbrev pub eval_writes : Bytes → Option Bytes → List FileWrite
eval_writes name None = []
eval_writes name (Some bytes) = file_write name bytes ∷ []

-- the keys that the files give
unfoldable pub generated : KeygenWords → Files → Result KeyFiles Fault
generated words files = do
  circuit ← circuit_from words.circuit files
  fits ← unless (fits_eval circuit words.eval) fault.Usage
  Ok (key_files_of circuit words.seed)

-- the command was done, and wrote the keys
abbrev pub wrote_keys : KeygenWords → KeyFiles → Outcome
wrote_keys words keys = wrote_all status.Ok (file_write words.secret keys.secret ∷ eval_writes words.eval keys.eval)

-- reads CIRCUIT, and writes SECRET and, where the circuit has a bootstrap, EVAL
abbrev pub keygen_outcome : KeygenWords → Files → Outcome
keygen_outcome words files = outcome_from (wrote_keys words) (generated words files)
