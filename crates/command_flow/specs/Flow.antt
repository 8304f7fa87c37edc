-- The four commands in a row: what `decrypt` puts are the values of the circuit on whole numbers. Nothing is supposed of
-- keys or errors: they are those that `keygen` and `encrypt` draw, whatever the seeds.
use Rattle.std.specs.Prelude.{◌≡◌, true, List, [], ◌∷◌, ◌++◌, Ok, ℤ}
use Rattle.port_store.specs.Files.{Bytes, Files}
use Rattle.forms.specs.Forms.{AreIn}
use Rattle.tfhe_level.specs.declared.shape.Circuit.{Circuit}
use Rattle.tfhe_level.specs.Nodes.{nodes_of, clear_values}
use Rattle.tfhe_level.specs.Laws.{input_ranges}
use Rattle.value_files.specs.Values.{values_text}
use Rattle.command_forms.specs.declared.status.Status.TheVariants as status
use Rattle.command_forms.specs.Names.{are_distinct}
use Rattle.command_forms.specs.Outcome.{putting}
use Rattle.command_files.specs.Files.{fits_eval, eval_files, circuit_from, values_from}
use Rattle.key_commands.specs.Words.{KeygenWords, EncryptWords, DecryptWords}
use Rattle.key_commands.specs.Keygen.{keygen_outcome}
use Rattle.key_commands.specs.Encrypt.{encrypt_outcome}
use Rattle.key_commands.specs.Decrypt.{decrypted, decrypt_outcome}
use Rattle.key_commands.specs.Headline.{KeygenIsRight, EncryptIsRight}
use Rattle.run_command.specs.Words.{RunWords}
use Rattle.run_command.specs.Run.{run_outcome}
use Rattle.run_command.specs.Headline.{RunIsRight}

-- ---- words

-- the names of the files of a flow, and its seeds: the one of the keys, and the one of the inputs
pub record FlowWords : Type 0 where
  pub circuit : Bytes
  pub values : Bytes
  pub secret : Bytes
  pub eval : Bytes
  pub cipher : Bytes
  pub output : Bytes
  pub key_seed : Bytes
  pub input_seed : Bytes

-- the words of each command
abbrev pub keygen_words : FlowWords → KeygenWords
keygen_words words =
    record { circuit = words.circuit; seed = words.key_seed; secret = words.secret; eval = words.eval }

abbrev pub encrypt_words : FlowWords → EncryptWords
encrypt_words words = record {
  circuit = words.circuit;
  secret = words.secret;
  seed = words.input_seed;
  values = words.values;
  cipher = words.cipher;
}

abbrev pub run_words : FlowWords → RunWords
run_words words =
    record { circuit = words.circuit; eval = words.eval; cipher = words.cipher; output = words.output }

abbrev pub decrypt_words : FlowWords → DecryptWords
decrypt_words words = record { secret = words.secret; output = words.output }

-- the files of the flow; the word `-` for EVAL is no file
abbrev pub flow_files : FlowWords → List Bytes
flow_files words =
    words.circuit ∷ words.values ∷ words.secret ∷ (eval_files words.eval ++ words.cipher ∷ words.output ∷ [])

-- ---- the flow

-- at first the files are distinct, and CIRCUIT and VALUES are read as this circuit and these values, one in the range of
-- each of its inputs
pub record FlowBegins (words : FlowWords) (c : Circuit) (numbers : List ℤ) (start : Files) : Type 0 where
  pub distinct : are_distinct (flow_files words) ≡ true
  pub circuit_read : circuit_from words.circuit start ≡ Ok c
  pub numbers_read : values_from (input_ranges (nodes_of c.shape)) words.values start ≡ Ok numbers

pub record FlowLaws : Type 0 where
  -- the values lie in the ranges of the inputs
  pub values_within : (words : FlowWords) (c : Circuit) (numbers : List ℤ) (start : Files)
      → FlowBegins words c numbers start → AreIn (input_ranges (nodes_of c.shape)) numbers
  -- where EVAL is as the circuit needs it, the answer that is defined for `keygen` is Ok
  pub keygen_answers : (words : FlowWords) (c : Circuit) (numbers : List ℤ) (start : Files)
      → FlowBegins words c numbers start → fits_eval c words.eval ≡ true
      → (keygen_outcome (keygen_words words) start).answer ≡ status.Ok
  -- after it that of `encrypt` is
  pub encrypt_answers : (words : FlowWords) (c : Circuit) (numbers : List ℤ) (start keyed : Files)
      → FlowBegins words c numbers start → KeygenIsRight (keygen_words words) start keyed
      → (encrypt_outcome (encrypt_words words) keyed).answer ≡ status.Ok
  -- after both that of `run` is
  pub run_answers : (words : FlowWords) (c : Circuit) (numbers : List ℤ) (start keyed filled : Files)
      → FlowBegins words c numbers start → KeygenIsRight (keygen_words words) start keyed
      → EncryptIsRight (encrypt_words words) keyed filled
      → (run_outcome (run_words words) filled).answer ≡ status.Ok
  -- and after all three `decrypt` finds the values of the circuit on whole numbers
  pub values_come : (words : FlowWords) (c : Circuit) (numbers : List ℤ) (start keyed filled computed : Files)
      → FlowBegins words c numbers start → KeygenIsRight (keygen_words words) start keyed
      → EncryptIsRight (encrypt_words words) keyed filled → RunIsRight (run_words words) filled computed
      → decrypted (decrypt_words words) computed ≡ Ok (values_text (clear_values (nodes_of c.shape) numbers))
  -- so what is defined for it is to put them, a line each
  pub decrypt_puts : (words : FlowWords) (c : Circuit) (numbers : List ℤ) (start keyed filled computed : Files)
      → FlowBegins words c numbers start → KeygenIsRight (keygen_words words) start keyed
      → EncryptIsRight (encrypt_words words) keyed filled → RunIsRight (run_words words) filled computed
      → decrypt_outcome (decrypt_words words) computed
      ≡ putting (values_text (clear_values (nodes_of c.shape) numbers))
