-- Faults of circuit texts.
use Rattle.std.specs.Prelude.{ℕ, Result, Ok, Err}
use Rattle.refusals.specs.declared.refusal.Refusal.{Refusal}
use Rattle.refusals.specs.declared.refusal.Refusal.TheVariants.{Fault, Memory}
use Rattle.circuit_lines.specs.declared.fault.Misspelled.{Misspelled}
use Rattle.circuit_file.specs.declared.fault.CircuitFault.{CircuitFault}
use Rattle.circuit_file.specs.declared.fault.CircuitKind.{CircuitKind}
use Rattle.circuit_file.specs.declared.fault.CircuitKind.TheVariants.{Spelling}

-- what is read, or the first fault
abbrev pub Read : Type 0 → Type 0
Read A = Result A CircuitFault

-- a fault of a kind at a line
abbrev pub fault_at : ℕ → CircuitKind → CircuitFault
fault_at line kind = record { line = line; kind = kind }

-- the fault of a misspelled line
abbrev pub as_spelling : {A : Type 0} → Result A Misspelled → Read A
as_spelling (Ok x) = Ok x
as_spelling (Err misspelled) = Err (fault_at misspelled.line Spelling)

-- the refusal for what is wrong with a line
abbrev pub refusal_of : Refusal Misspelled → Refusal CircuitFault
refusal_of (Fault misspelled) = Fault (fault_at misspelled.line Spelling)
refusal_of Memory = Memory
