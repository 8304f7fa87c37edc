-- The words of the commands on keys.
use Rattle.std.specs.Prelude.{List, [], ◌∷◌}
use Rattle.port_store.specs.Files.{Bytes}
use Rattle.command_files.specs.Files.{eval_files}
use Rattle.key_commands.specs.declared.decrypt.DecryptNames.{DecryptNames}
use Rattle.key_commands.specs.declared.encrypt.EncryptNames.{EncryptNames}
use Rattle.key_commands.specs.declared.keygen.KeygenNames.{KeygenNames}

-- those of `keygen CIRCUIT SEED SECRET EVAL`; the seed is the 32 bytes of its word
pub record KeygenWords : Type 0 where
  pub circuit : Bytes
  pub seed : Bytes
  pub secret : Bytes
  pub eval : Bytes

-- what names stand for
abbrev pub keygen_view : KeygenNames → KeygenWords
keygen_view names =
    record { circuit = names.circuit.now; seed = names.seed; secret = names.secret.now; eval = names.eval.now }

-- the files that `keygen` names; the word `-` for EVAL is no file
abbrev pub keygen_files : KeygenWords → List Bytes
keygen_files words = words.circuit ∷ words.secret ∷ eval_files words.eval

-- those of `encrypt CIRCUIT SECRET SEED VALUES CIPHER`; the seed is the 32 bytes of its word
pub record EncryptWords : Type 0 where
  pub circuit : Bytes
  pub secret : Bytes
  pub seed : Bytes
  pub values : Bytes
  pub cipher : Bytes

-- what names stand for
abbrev pub encrypt_view : EncryptNames → EncryptWords
encrypt_view names = record {
  circuit = names.circuit.now;
  secret = names.secret.now;
  seed = names.seed;
  values = names.values.now;
  cipher = names.cipher.now;
}

-- the files that `encrypt` names
abbrev pub encrypt_files : EncryptWords → List Bytes
encrypt_files words = words.circuit ∷ words.secret ∷ words.values ∷ words.cipher ∷ []

-- those of `decrypt SECRET OUTPUT`
pub record DecryptWords : Type 0 where
  pub secret : Bytes
  pub output : Bytes

-- what names stand for
abbrev pub decrypt_view : DecryptNames → DecryptWords
decrypt_view names = record { secret = names.secret.now; output = names.output.now }

-- the files that `decrypt` names
abbrev pub decrypt_files : DecryptWords → List Bytes
decrypt_files words = words.secret ∷ words.output ∷ []
