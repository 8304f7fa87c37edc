-- Four calls in a row, each of which is known by its contract alone.
use Rattle.std.specs.Prelude.{◌≡◌, true, List, Some, ℤ, ◌⊎◌}
use Rattle.port_store.specs.Files.{Bytes, Files, Told, IsPut}
use Rattle.port_store.specs.Faults.{Rises}
use Rattle.tfhe_level.specs.declared.shape.Circuit.{Circuit}
use Rattle.tfhe_level.specs.Nodes.{nodes_of, clear_values}
use Rattle.value_files.specs.Values.{values_text}
use Rattle.command_forms.specs.declared.status.Status.{Status}
use Rattle.command_forms.specs.declared.status.Status.TheVariants as status
use Rattle.command_forms.specs.Outcome.{Outcome}
use Rattle.command_forms.specs.Outside.{Outside, MayLeave}
use Rattle.command_files.specs.Files.{fits_eval}
use Rattle.key_commands.specs.Keygen.{keygen_outcome}
use Rattle.key_commands.specs.Encrypt.{encrypt_outcome}
use Rattle.key_commands.specs.Decrypt.{decrypt_outcome}
use Rattle.key_commands.specs.Headline.{KeygenHeadline, EncryptHeadline}
use Rattle.run_command.specs.Run.{run_outcome}
use Rattle.run_command.specs.Headline.{RunHeadline}
use Rattle.command_flow.specs.Flow.{FlowWords, keygen_words, encrypt_words, run_words, decrypt_words, FlowBegins}

-- no count of faults rose
pub record IsFaultless (before after : Outside) : Type 0 where
  pub reads : Rises before.store.read_faults after.store.read_faults → ⊥
  pub writes : Rises before.store.write_faults after.store.write_faults → ⊥
  pub puts : Rises before.put_faults after.put_faults → ⊥

-- the answer is Ok, or memory ran out
abbrev pub IsOkOrMemory : Status → Type 0
IsOkOrMemory answer = (answer ≡ status.Ok) ⊎ (answer ≡ status.Memory)

-- however a command is called over a store that tells these files, where no count of faults rises, it answers Ok or
-- Memory; and where it answers Ok and what a further clause says holds, so does this, over the files that it leaves
abbrev pub Calls : (Files → Outcome) → (Status → Outside → Outside → Type 0) → Files → (Files → Type 0) → Type 0
Calls outcome clause files next =
    (answer : Status) (before after : Outside) → MayLeave outcome answer before after
    → before.store.files ≡ Some files → IsFaultless before after
    → IsOkOrMemory answer × (answer ≡ status.Ok → clause answer before after → (now : Files)
    → after.store.files ≡ Some now → next now)

-- the same of a command that puts: where it answers Ok, these bytes were put
abbrev pub Puts : (Files → Outcome) → Files → Bytes → Type 0
Puts outcome files bytes =
    (answer : Status) (before after : Outside) → MayLeave outcome answer before after
    → before.store.files ≡ Some files → IsFaultless before after
    → IsOkOrMemory answer × (answer ≡ status.Ok → Told (IsPut bytes) before.taken after.taken)

-- `keygen`, then `encrypt`, then `run`, and then `decrypt`, which puts these bytes
abbrev pub FlowPuts : FlowWords → Files → Bytes → Type 0
FlowPuts words start bytes =
    Calls (keygen_outcome (keygen_words words)) (KeygenHeadline (keygen_words words)) start (λ keyed.
    Calls (encrypt_outcome (encrypt_words words)) (EncryptHeadline (encrypt_words words)) keyed (λ filled.
    Calls (run_outcome (run_words words)) (RunHeadline (run_words words)) filled (λ computed.
    Puts (decrypt_outcome (decrypt_words words)) computed bytes)))

-- the composed headline: whatever the seeds, for each circuit and all values in the ranges of its inputs, the four calls
-- answer Ok or Memory, and what is put are the values of the circuit on whole numbers, a line each
abbrev pub FlowHeadline : Type 0
FlowHeadline =
    (words : FlowWords) (c : Circuit) (numbers : List ℤ) (start : Files) → FlowBegins words c numbers start
    → fits_eval c words.eval ≡ true → FlowPuts words start (values_text (clear_values (nodes_of c.shape) numbers))
