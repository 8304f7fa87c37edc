-- What a command does over the files as they are when it begins.
use Rattle.std.specs.Prelude.{ℕ, nat_lt, List, [], ◌∷◌, length, Option, Some, None, Result, Ok, Err, if◌then◌else◌}
use Rattle.std.specs.FinMap.{get, insert}
use Rattle.port_store.specs.Files.{Bytes, Files}
use Rattle.command_forms.specs.declared.fault.Fault.{Fault}
use Rattle.command_forms.specs.declared.fault.Fault.TheVariants as fault
use Rattle.command_forms.specs.declared.status.Status.{Status}
use Rattle.command_forms.specs.declared.status.Status.TheVariants as status
use Rattle.fhe_level.specs.declared.fault.LimitName.TheVariants as limit

-- a file that is written, whole
pub record FileWrite : Type 0 where
  pub name : Bytes
  pub bytes : Bytes

-- the answer, the files that are written, in order, and the bytes that are put, where the sink is touched
pub record Outcome : Type 0 where
  pub answer : Status
  pub writes : List FileWrite
  pub puts : Option Bytes

-- what a fault is answered with
abbrev pub answer_of : Fault → Status
answer_of fault.Usage = status.Usage
answer_of (fault.Text f) = status.Text f.line f.column f.kind
answer_of (fault.Typing f) = status.Typing f.place f.kind
answer_of (fault.Range op lo hi) = status.Range op lo hi
answer_of fault.NoChoice = status.NoChoice
answer_of (fault.Table f) = status.Table f
answer_of (fault.Circuit f) = status.Circuit f
answer_of (fault.File kind f) = status.File kind f
answer_of (fault.Value f) = status.Value f.line f.kind
answer_of (fault.Limit f) = status.Limit f
answer_of (fault.Certificate file line) = status.Certificate file line
answer_of fault.Missing = status.Read

-- an answer before anything is written or put
abbrev pub refusing : Status → Outcome
refusing answer = record { answer = answer; writes = []; puts = None }

-- these bytes under this name
abbrev pub file_write : Bytes → Bytes → FileWrite
file_write name bytes = record { name = name; bytes = bytes }

-- an answer after these files are written, and nothing is put
abbrev pub wrote_all : Status → List FileWrite → Outcome
wrote_all answer writes = record { answer = answer; writes = writes; puts = None }

-- the command was done, and wrote one file
abbrev pub wrote : Bytes → Bytes → Outcome
wrote name bytes = wrote_all status.Ok (file_write name bytes ∷ [])

-- the command was done, and put these bytes
abbrev pub putting : Bytes → Outcome
putting bytes = record { answer = status.Ok; writes = []; puts = Some bytes }

-- the outcome of what was computed, or of the fault that came first
abbrev pub outcome_from : {A : Type 0} → (A → Outcome) → Result A Fault → Outcome
outcome_from outcome (Ok value) = outcome value
outcome_from outcome (Err f) = refusing (answer_of f)

-- a value, or its fault as one of a command
abbrev pub as_fault : {A F : Type 0} → (F → Fault) → Result A F → Result A Fault
as_fault kind (Ok value) = Ok value
as_fault kind (Err f) = Err (kind f)

-- a file of more bytes than the limit
abbrev pub too_long : ℕ → ℕ → Fault
too_long count most = fault.Limit (record { what = limit.Bytes; count = count; most = most })

-- the bytes of a file that is there, under a limit
abbrev pub bounded : ℕ → Option Bytes → Result Bytes Fault
bounded most None = Err fault.Missing
bounded most (Some bytes) = if nat_lt most (length bytes) then Err (too_long (length bytes) most) else Ok bytes

-- reading a file under a limit of bytes
abbrev pub reading : Files → Bytes → ℕ → Result Bytes Fault
reading files name most = bounded most (get files name)

-- the files after all of the writes
abbrev pub written : List FileWrite → Files → Files
written [] files = files
written (write ∷ writes) files = written writes (insert files write.name write.bytes)
