-- Why a whole file was not read.
use Rattle.std.specs.Prelude.{ℕ, Result, Ok, Err}
use Rattle.port_store.specs.declared.fault.PortFault.{PortFault}
use Rattle.port_store.specs.declared.fault.PortFault.TheVariants as fault
use Rattle.port_store.specs.declared.fault.ReadRefusal.{ReadRefusal}
use Rattle.port_store.specs.declared.fault.ReadRefusal.TheVariants as refusal

-- the refusal that a fault of a call leads to
abbrev pub refusal_of : PortFault → ReadRefusal
refusal_of fault.Failed = refusal.Failed
refusal_of fault.Memory = refusal.Memory

-- the fact holds of the size that was above the limit, where that is the answer
abbrev pub IfAbove : {A : Type 0} → Result A ReadRefusal → (ℕ → Type 0) → Type 0
IfAbove (Ok value) P = Unit {0}
IfAbove (Err refusal.Failed) P = Unit {0}
IfAbove (Err refusal.Memory) P = Unit {0}
IfAbove (Err (refusal.Above size)) P = P size
