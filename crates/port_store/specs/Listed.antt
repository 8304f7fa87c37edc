-- Calls that are listed to fail, each with how many bytes it keeps.
use Rattle.std.specs.Prelude.{◌≡◌, ◌⊎◌, ℕ, ◌+◌, ◌-◌, ◌^◌, ◌==◌, if◌then◌else◌, min, List, [], ◌∷◌, take, Option, Some, None, Result, Ok, Err}
use Rattle.port_store.specs.Files.{Bytes}
use Rattle.port_store.specs.declared.fault.PortFault.{PortFault}
use Rattle.port_store.specs.declared.fault.PortFault.TheVariants as fault

-- one more, where the count does not stand at the end of its type
abbrev pub one_more : ℕ → ℕ
one_more count = min (count + 1) (2 ^ 64 - 1)

-- how many bytes the call keeps, where it is listed; the first entry of a call counts
abbrev pub kept_of : List (ℕ × ℕ) → ℕ → Option ℕ
kept_of [] call = None
kept_of (entry ∷ entries) call = if entry.0 == call then Some entry.1 else kept_of entries call

-- the beginning of a piece that a call takes: all of it at Ok, what is listed where it failed so, and none of it where
-- memory ran out
abbrev pub taken_of : Option ℕ → Result Unit PortFault → Bytes → Bytes
taken_of listed (Ok done) piece = piece
taken_of (Some kept) (Err fault.Failed) piece = take kept piece
taken_of None (Err fault.Failed) piece = []
taken_of listed (Err fault.Memory) piece = []

-- this answer, or that memory ran out
abbrev pub IsUnlessMemory : {A : Type 0} → Result A PortFault → Result A PortFault → Type 0
IsUnlessMemory result answer = (result ≡ answer) ⊎ (result ≡ Err fault.Memory)
