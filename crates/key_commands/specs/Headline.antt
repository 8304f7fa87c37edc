-- The headlines: what is read from the files that `keygen` and `encrypt` write, and that nothing else changes.
use Rattle.std.specs.Prelude.{◌≡◌, true, List, Some, Ok, ℤ}
use Rattle.std.specs.FinMap.{insert}
use Rattle.port_store.specs.Files.{Files}
use Rattle.forms.specs.Forms.{AreIn}
use Rattle.tfhe_level.specs.declared.shape.Circuit.{Circuit}
use Rattle.tfhe_level.specs.Nodes.{nodes_of}
use Rattle.tfhe_level.specs.Laws.{input_ranges}
use Rattle.noise_model.specs.Circuits.{IsCircuit}
use Rattle.circuit_digest.specs.ParamsDigest.{params_digest}
use Rattle.cipher_files.specs.SecretFile.{SecretFile, secret_fits}
use Rattle.cipher_files.specs.CipherFile.{cipher_bytes}
use Rattle.command_forms.specs.declared.status.Status.{Status}
use Rattle.command_forms.specs.declared.status.Status.TheVariants as status
use Rattle.command_forms.specs.Outcome.{written}
use Rattle.command_forms.specs.Outside.{Outside}
use Rattle.command_files.specs.Files.{has_boot, fits_eval, circuit_from, eval_from, secret_from, cipher_from, values_from}
use Rattle.key_commands.specs.Words.{KeygenWords, EncryptWords}
use Rattle.key_commands.specs.Keygen.{secret_of_seed, eval_keys_of_seed, key_files_of, wrote_keys}
use Rattle.key_commands.specs.Encrypt.{input_file}

-- ---- keygen

-- keys were made of the circuit over these files
pub record KeygenIsRight (words : KeygenWords) (before after : Files) : Type 0 where
  -- CIRCUIT holds a circuit, which keeps the rules and meets all constraints
  pub circuit : Circuit
  pub rules : IsCircuit circuit
  pub circuit_read : circuit_from words.circuit before ≡ Ok circuit
  -- EVAL names a file exactly where the circuit has a bootstrap
  pub needs : fits_eval circuit words.eval ≡ true
  -- the files of its keys are written, and nothing else changes
  pub stored : after ≡ written (wrote_keys words (key_files_of circuit words.seed)).writes before
  -- SECRET is read as the secret keys of the seed
  pub secret_back : secret_from words.secret after ≡ Ok (secret_of_seed circuit words.seed)
  -- and EVAL, where there is one, as its evaluation keys
  pub eval_back : has_boot circuit ≡ true
      → eval_from (params_digest circuit.params) circuit.params words.eval after
      ≡ Ok (eval_keys_of_seed circuit words.seed)

-- what the answer Ok promises, over a store that tells its files
abbrev pub KeygenHeadline : KeygenWords → Status → Outside → Outside → Type 0
KeygenHeadline words answer before after =
    answer ≡ status.Ok → (files now : Files) → before.store.files ≡ Some files → after.store.files ≡ Some now
    → KeygenIsRight words files now

-- ---- encrypt

-- inputs were made for the circuit over these files
pub record EncryptIsRight (words : EncryptWords) (before after : Files) : Type 0 where
  -- CIRCUIT holds a circuit, which keeps the rules and meets all constraints
  pub circuit : Circuit
  pub rules : IsCircuit circuit
  pub circuit_read : circuit_from words.circuit before ≡ Ok circuit
  -- SECRET is read as secret keys of its parameters
  pub keys : SecretFile
  pub keys_read : secret_from words.secret before ≡ Ok keys
  pub fitting : secret_fits (params_digest circuit.params) circuit.params keys ≡ Ok tt
  -- VALUES is read as one value in the range of each input
  pub numbers : List ℤ
  pub numbers_read : values_from (input_ranges (nodes_of circuit.shape)) words.values before ≡ Ok numbers
  pub within : AreIn (input_ranges (nodes_of circuit.shape)) numbers
  -- CIPHER is written, and nothing else changes
  pub stored : after ≡ insert before words.cipher (cipher_bytes (input_file circuit words.seed keys.big numbers))
  -- and is read as the ciphertexts of the values under the big key, drawn from the seed
  pub cipher_back : cipher_from words.cipher after ≡ Ok (input_file circuit words.seed keys.big numbers)

-- what the answer Ok promises, over a store that tells its files
abbrev pub EncryptHeadline : EncryptWords → Status → Outside → Outside → Type 0
EncryptHeadline words answer before after =
    answer ≡ status.Ok → (files now : Files) → before.store.files ≡ Some files → after.store.files ≡ Some now
    → EncryptIsRight words files now
