-- The outside of a command, and what a command may leave, given its outcome: one relation for every command.
use Rattle.std.specs.Prelude.{◌≡◌, ℕ, ◌<◌, List, [], ◌∷◌, ◌++◌, length, take, Option, Some, None, MatchOption, ◌⊎◌}
use Rattle.std.specs.FinMap.{get, insert}
use Rattle.port_store.specs.Files.{Bytes, Files, Told, IsPut, MayBePut, MayBeWritten}
use Rattle.port_store.specs.Faults.{Rises}
use Rattle.port_store.specs.Shown.{Shown, Accounts}
use Rattle.command_forms.specs.declared.status.Status.{Status}
use Rattle.command_forms.specs.declared.status.Status.TheVariants as status
use Rattle.command_forms.specs.Outcome.{FileWrite, Outcome, written}

-- a store at a moment: its files where it tells them, what it has shown where it keeps account, and its counts of
-- faults
pub record StoreAt : Type 0 where
  pub files : Option Files
  pub shown : Option (List Shown)
  pub read_faults : ℕ
  pub write_faults : ℕ

-- a store and a sink at a moment: the bytes that the sink took, where it tells them, and its count of faults
pub record Outside : Type 0 where
  pub store : StoreAt
  pub taken : Option Bytes
  pub put_faults : ℕ

-- a store as its members tell it
abbrev pub store_at : {S : Type 0} → (S → Option Files) → (S → Option (List Shown)) → (S → ℕ) → (S → ℕ) → S → StoreAt
store_at files shown read_faults write_faults store = record {
  files = files store;
  shown = shown store;
  read_faults = read_faults store;
  write_faults = write_faults store;
}

-- a store and a sink as their members tell them
abbrev pub outside : {O : Type 0} → StoreAt → (O → Option Bytes) → (O → ℕ) → O → Outside
outside store taken put_faults sink = record { store = store; taken = taken sink; put_faults = put_faults sink }

-- ---- what a store may hold

-- the file of that name has the length that was shown, and begins with the bytes that were
abbrev pub IsAsShown : Files → Shown → Type 0
IsAsShown files shown = MatchOption (get files shown.name) ⊥
    (λ bytes. (length bytes ≡ shown.size) × (take (length shown.bytes) bytes ≡ shown.bytes))

-- and so has each file that was shown
abbrev pub AreAsShown : Files → List Shown → Type 0
AreAsShown files [] = Unit {0}
AreAsShown files (shown ∷ account) = IsAsShown files shown × AreAsShown files account

-- these are the files that are told, where any are
abbrev pub AreTold : Option Files → Files → Type 0
AreTold told files = MatchOption told (Unit {0}) (λ those. files ≡ those)

-- files that a store may hold: those that it tells, where it does, and such as it has shown
pub record MayHold (told : Option Files) (account : List Shown) (files : Files) : Type 0 where
  pub are_told : AreTold told files
  pub shown : AreAsShown files account

-- what was shown between two moments, where a store keeps account
abbrev pub Showed : List Shown → StoreAt → StoreAt → Type 0
Showed account before after = Accounts (λ earlier. account ++ earlier) before.shown after.shown

-- ---- what was done of an outcome

-- nothing was written or put
pub record IsUntouched (before after : Outside) : Type 0 where
  pub files : after.store.files ≡ before.store.files
  pub taken : after.taken ≡ before.taken
  pub put_faults : after.put_faults ≡ before.put_faults

-- the sink was not touched
abbrev pub IsSinkUntouched : Outside → Outside → Type 0
IsSinkUntouched before after = (after.taken ≡ before.taken) × (after.put_faults ≡ before.put_faults)

-- the files are those after all of the writes
abbrev pub AreWritten : List FileWrite → Outside → Outside → Type 0
AreWritten writes before after = Told (λ files now. now ≡ written writes files) before.store.files after.store.files

-- all was put, where there is something to put; else the sink was not touched
abbrev pub IsAllPut : Option Bytes → Outside → Outside → Type 0
IsAllPut None before after = IsSinkUntouched before after
IsAllPut (Some bytes) before after = Told (IsPut bytes) before.taken after.taken

-- all of it was done
pub record IsDone (outcome : Outcome) (answer : Status) (before after : Outside) : Type 0 where
  pub answered : answer ≡ outcome.answer
  pub files : AreWritten outcome.writes before after
  pub sink : IsAllPut outcome.puts before after

-- a call that writes failed, which its count tells, or memory ran out
abbrev pub Failed : Status → ℕ → ℕ → Type 0
Failed answer before after = ((answer ≡ status.Write) × Rises before after) ⊎ (answer ≡ status.Memory)

-- one of the writes was cut off: those before it are whole, and those after it as they were
abbrev pub IsCut : List FileWrite → Files → Files → Type 0
IsCut [] before after = ⊥
IsCut (write ∷ writes) before after =
    MayBeWritten write.name write.bytes before after ⊎ IsCut writes (insert before write.name write.bytes) after

-- there is something to write
abbrev pub HasWrites : List FileWrite → Type 0
HasWrites writes = 0 < length writes

-- it was cut off in a file, and the sink was not touched
pub record IsCutInFile (outcome : Outcome) (answer : Status) (before after : Outside) : Type 0 where
  pub failed : Failed answer before.store.write_faults after.store.write_faults
  pub writes : HasWrites outcome.writes
  pub files : Told (IsCut outcome.writes) before.store.files after.store.files
  pub sink : IsSinkUntouched before after

-- it was cut off in the put, after all files were written
pub record IsCutInPut (outcome : Outcome) (answer : Status) (before after : Outside) : Type 0 where
  pub failed : Failed answer before.put_faults after.put_faults
  pub bytes : Bytes
  pub puts : outcome.puts ≡ Some bytes
  pub files : AreWritten outcome.writes before after
  pub sink : Told (MayBePut bytes) before.taken after.taken

-- the outcome was done, whole or up to a cut
abbrev pub Ends : Outcome → Status → Outside → Outside → Type 0
Ends outcome answer before after =
    IsDone outcome answer before after
    ⊎ (IsCutInFile outcome answer before after ⊎ IsCutInPut outcome answer before after)

-- ---- what a command may leave

-- The command came to an outcome: there are files that the store may hold, given what it showed, and whichever of these
-- it held, the outcome over them was done.
pub record CameToOutcome (outcome_of : Files → Outcome) (answer : Status) (before after : Outside) : Type 0 where
  pub account : List Shown
  pub showed : Showed account before.store after.store
  pub files : Files
  pub possible : MayHold before.store.files account files
  pub ends : (files : Files) → MayHold before.store.files account files → Ends (outcome_of files) answer before after

-- a call that reads failed, which its count tells, or memory ran out, before anything was written or put
pub record WasCut (answer : Status) (before after : Outside) : Type 0 where
  pub untouched : IsUntouched before after
  pub cause : ((answer ≡ status.Read) × Rises before.store.read_faults after.store.read_faults)
      ⊎ (answer ≡ status.Memory)

-- a fault of reading is never passed over, and comes before anything is written
abbrev pub TellsReadFault : Status → Outside → Outside → Type 0
TellsReadFault answer before after =
    before.store.read_faults < after.store.read_faults
    → ((answer ≡ status.Read) ⊎ (answer ≡ status.Memory)) × IsUntouched before after

-- a fault of writing is never passed over
abbrev pub TellsWriteFault : Status → Outside → Outside → Type 0
TellsWriteFault answer before after =
    (before.store.write_faults < after.store.write_faults) ⊎ (before.put_faults < after.put_faults)
    → (answer ≡ status.Write) ⊎ (answer ≡ status.Memory)

-- what a command may answer and leave, whatever the store and the sink do
pub record MayLeave (outcome_of : Files → Outcome) (answer : Status) (before after : Outside) : Type 0 where
  pub came : CameToOutcome outcome_of answer before after ⊎ WasCut answer before after
  pub read_fault : TellsReadFault answer before after
  pub write_fault : TellsWriteFault answer before after
