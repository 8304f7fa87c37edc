-- `encrypt`: fresh ciphertexts of values under a secret key, drawn from a seed.
use Rattle.std.specs.Prelude.{ℕ, ◌+◌, ◌*◌, Bool, List, length, map, Result, Ok, ℤ}
use Rattle.std.specs.List.{range_with_len}
use Rattle.refusals.specs.Reading.{◌>>=◌}
use Rattle.port_store.specs.Files.{Bytes, Files}
use Rattle.forms.specs.Forms.{number_at}
use Rattle.lwe_core.specs.Decoding.{encoded}
use Rattle.tfhe_level.specs.declared.shape.Circuit.{Circuit}
use Rattle.tfhe_level.specs.Nodes.{nodes_of}
use Rattle.tfhe_level.specs.Laws.{input_ranges}
use Rattle.seed_stream.specs.Draws.{stream_key}
use Rattle.key_gen.specs.Seeds.{drawn_row, input_label}
use Rattle.sealed_files.specs.declared.kinds.FileKind.TheVariants as kind
use Rattle.circuit_digest.specs.ParamsDigest.{params_digest}
use Rattle.circuit_heads.specs.Heads.{input_head}
use Rattle.cipher_files.specs.SecretFile.{SecretFile, secret_fits}
use Rattle.cipher_files.specs.CipherFile.{CipherFile, file_of, cipher_bytes}
use Rattle.command_forms.specs.declared.fault.Fault.{Fault}
use Rattle.command_forms.specs.declared.fault.Fault.TheVariants as fault
use Rattle.command_forms.specs.Outcome.{Outcome, as_fault, outcome_from, wrote}
use Rattle.command_files.specs.Files.{circuit_from, secret_from, values_from}
use Rattle.key_commands.specs.Words.{EncryptWords}

-- input i of these values out of a stream: the draws of those before it go before its own
abbrev pub drawn_input : List ℕ → List Bool → ℕ → ℕ → List ℤ → ℕ → List ℕ
drawn_input key big width bound values i =
    drawn_row key (i * (length big + 1)) big (encoded width (number_at values i)) bound

-- all inputs, in order
abbrev pub drawn_inputs : List ℕ → List Bool → ℕ → ℕ → List ℤ → List (List ℕ)
drawn_inputs key big width bound values = map (drawn_input key big width bound values) (range_with_len 0 (length values))

-- the file of a circuit's inputs that stand for these values, with the errors of the big key
abbrev pub input_file : Circuit → List ℕ → List Bool → List ℤ → CipherFile
input_file circuit seed big values =
    file_of (input_head circuit)
    (drawn_inputs (stream_key seed input_label) big circuit.shape.width circuit.params.glwe.error values)

-- secret keys that are those of the circuit's parameters
abbrev pub fitting_secret : Circuit → SecretFile → Result SecretFile Fault
fitting_secret circuit secret =
    as_fault (λ f. fault.File kind.Secret f) (secret_fits (params_digest circuit.params) circuit.params secret) >>= λ fits. Ok secret

-- the bytes of the inputs, out of the files
unfoldable pub encrypted : EncryptWords → Files → Result Bytes Fault
encrypted words files = do
  circuit ← circuit_from words.circuit files
  secret ← secret_from words.secret files
  fitting ← fitting_secret circuit secret
  values ← values_from (input_ranges (nodes_of circuit.shape)) words.values files
  Ok (cipher_bytes (input_file circuit words.seed fitting.big values))

-- reads CIRCUIT, SECRET and VALUES, and writes CIPHER
abbrev pub encrypt_outcome : EncryptWords → Files → Outcome
encrypt_outcome words files = outcome_from (wrote words.cipher) (encrypted words files)
