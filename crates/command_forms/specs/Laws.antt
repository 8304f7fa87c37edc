-- Why an answer comes: what follows from what a command may leave, said answer by answer.
use Rattle.std.specs.Prelude.{◌≡◌, None, ◌⊎◌}
use Rattle.port_store.specs.Files.{Files}
use Rattle.port_store.specs.Faults.{Rises}
use Rattle.command_forms.specs.declared.status.Status.{Status}
use Rattle.command_forms.specs.declared.status.Status.TheVariants as status
use Rattle.command_forms.specs.Outcome.{Outcome}
use Rattle.command_forms.specs.Outside.{Outside, AreTold, IsSinkUntouched, MayLeave}

-- a call that writes to a file or to the sink failed, which its count tells
abbrev pub WriteFailed : Outside → Outside → Type 0
WriteFailed before after =
    Rises before.store.write_faults after.store.write_faults ⊎ Rises before.put_faults after.put_faults

-- why an answer came: it is the one defined, or a call that reads failed, or one that writes, or memory ran out
abbrev pub CameBy : Status → Status → Outside → Outside → Type 0
CameBy defined answer before after =
    (answer ≡ defined)
    ⊎ (((answer ≡ status.Read) × Rises before.store.read_faults after.store.read_faults)
    ⊎ (((answer ≡ status.Write) × WriteFailed before after) ⊎ (answer ≡ status.Memory)))

-- why each answer of a command came
pub record AnswerLaws : Type 0 where
  -- for every command there are files, those that the store tells, where it does, over which the answer came so
  pub cause : (outcome_of : Files → Outcome) (answer : Status) (before after : Outside)
      → MayLeave outcome_of answer before after
      → (files : Files) × AreTold before.store.files files × CameBy (outcome_of files).answer answer before after
  -- a command that puts nothing leaves the sink as it was
  pub sink_stays : (outcome_of : Files → Outcome) (answer : Status) (before after : Outside)
      → ((files : Files) → (outcome_of files).puts ≡ None) → MayLeave outcome_of answer before after
      → IsSinkUntouched before after
