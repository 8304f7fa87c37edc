-- What one step of a command that reads may answer and leave.
use Rattle.std.specs.Prelude.{◌≡◌, ℕ, ◌≤◌, ◌<◌, true, false, List, [], ◌∷◌, Option, Result, Ok, Err, IsErrOf, ◌⊎◌}
use Rattle.std.specs.List.{list_any}
use Rattle.std.specs.Str.{bytes_eq}
use Rattle.std.specs.FinMap.{get}
use Rattle.port_store.specs.Files.{Bytes, Files, Told, IsPut, MayBePut}
use Rattle.port_store.specs.Faults.{Rises}
use Rattle.port_store.specs.Shown.{Shown}
use Rattle.command_forms.specs.declared.fault.Fault.{Fault}
use Rattle.command_forms.specs.declared.fault.Fault.TheVariants as fault
use Rattle.command_forms.specs.declared.fault.StepRefusal.{StepRefusal}
use Rattle.command_forms.specs.declared.fault.StepRefusal.TheVariants as refusal
use Rattle.command_forms.specs.Names.{are_distinct}
use Rattle.command_forms.specs.declared.status.Status.{Status}
use Rattle.command_forms.specs.declared.status.Status.TheVariants as status
use Rattle.command_forms.specs.Outcome.{Outcome}
use Rattle.command_forms.specs.Outside.{StoreAt, AreTold, MayHold, Showed, AreAsShown, Ends, Failed}

-- the refusal of a step, against what the definition gives: its fault; a failure without a fault is a missing file; and
-- memory, which says nothing of it
abbrev pub StepRefuses : {Y : Type 0} → StepRefusal → Result Y Fault → Type 0
StepRefuses (refusal.Fault f) defined = defined ≡ Err f
StepRefuses refusal.Failure defined = defined ≡ Err fault.Missing
StepRefuses refusal.Memory defined = Unit {0}

-- what a step answered, seen by a view, is what the definition gives, unless memory ran out
abbrev pub StepGives : {X Y : Type 0} → (X → Y) → Result X StepRefusal → Result Y Fault → Type 0
StepGives view (Ok value) defined = defined ≡ Ok (view value)
StepGives view (Err refusal) defined = StepRefuses refusal defined

-- at these names the files are alike
abbrev pub AreAlike : List Bytes → Files → Files → Type 0
AreAlike [] left right = Unit {0}
AreAlike (name ∷ names) left right = (get right name ≡ get left name) × AreAlike names left right

-- at all other names they are
abbrev pub AreAlikeBut : List Bytes → Files → Files → Type 0
AreAlikeBut names left right =
    (other : Bytes) → list_any (bytes_eq other) names ≡ false → get right other ≡ get left other

-- files that the store may hold: they are the earlier ones but at these names, and whatever is alike at these names is
-- as was shown
pub record CanBe (told : Option Files) (names : List Bytes) (account : List Shown) (earlier : Files) : Type 0 where
  pub files : Files
  pub are_told : AreTold told files
  pub others : AreAlikeBut names earlier files
  pub shown : (held : Files) → AreAlike names files held → AreAsShown held account

-- a step read its files: what it was shown can be, and over all files that the store may hold the answer is that of the
-- definition
pub record HasRead {X Y : Type 0} (names : List Bytes) (before after : StoreAt) (view : X → Y)
    (result : Result X StepRefusal) (defined : Files → Result Y Fault) : Type 0 where
  pub account : List Shown
  pub showed : Showed account before after
  pub can_be : are_distinct names ≡ true → (earlier : Files) → AreTold before.files earlier
      → CanBe before.files names account earlier
  pub gives : (files : Files) → MayHold before.files account files → StepGives view result (defined files)

-- a call failed, which its count tells, or memory ran out
abbrev pub StepFailed : {X : Type 0} → StoreAt → StoreAt → Result X StepRefusal → Type 0
StepFailed before after result =
    (IsErrOf result refusal.Failure × Rises before.read_faults after.read_faults) ⊎ IsErrOf result refusal.Memory

-- a step that reads files of these names, and writes none: what it answers, seen by a view, and what it leaves,
-- whatever the store does
pub record ReadsAs {X Y : Type 0} (names : List Bytes) (before after : StoreAt) (view : X → Y)
    (result : Result X StepRefusal) (defined : Files → Result Y Fault) : Type 0 where
  pub read : HasRead names before after view result defined ⊎ StepFailed before after result
  pub fault : before.read_faults < after.read_faults → IsErrOf result refusal.Failure ⊎ IsErrOf result refusal.Memory
  pub files_stay : after.files ≡ before.files
  pub never_fall : before.read_faults ≤ after.read_faults
  pub writes_stay : after.write_faults ≡ before.write_faults

-- a step that writes files: the outcome ends so whatever the sink is, nothing is read, and no fault of writing is
-- passed over
pub record WritesAs (outcome : Outcome) (answer : Status) (before after : StoreAt) : Type 0 where
  pub ends : (taken : Option Bytes) (put_faults : ℕ) → Ends outcome answer
      (record { store = before; taken = taken; put_faults = put_faults })
      (record { store = after; taken = taken; put_faults = put_faults })
  pub ok : answer ≡ status.Ok → after.write_faults ≡ before.write_faults
  pub shown_stays : after.shown ≡ before.shown
  pub reads_stay : after.read_faults ≡ before.read_faults
  pub fault : before.write_faults < after.write_faults → (answer ≡ status.Write) ⊎ (answer ≡ status.Memory)

-- a step that puts these bytes: they were put, or a call failed, which its count tells, or memory ran out; and no fault
-- of the sink is passed over
pub record PutsAs (bytes : Bytes) (answer : Status) (taken now : Option Bytes) (before after : ℕ) : Type 0 where
  pub ends : ((answer ≡ status.Ok) × Told (IsPut bytes) taken now)
      ⊎ (Failed answer before after × Told (MayBePut bytes) taken now)
  pub fault : before < after → (answer ≡ status.Write) ⊎ (answer ≡ status.Memory)
