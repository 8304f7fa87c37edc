-- Reading: a value, or the first fault.
use Rattle.std.specs.Prelude.{◌≡◌, Bool, true, false, Result, Ok, Err}
use Rattle.refusals.specs.declared.refusal.Refusal.{Refusal}
use Rattle.refusals.specs.declared.refusal.Refusal.TheVariants.{Fault, Memory}

-- a refusal, against what reading gives: its fault, or memory, which says nothing of it
abbrev pub Refuses : {Y F : Type 0} → Refusal F → Result Y F → Type 0
Refuses (Fault fault) read = read ≡ Err fault
Refuses Memory read = Unit {0}

-- an answer, seen by a view, is what reading gives, unless memory ran out
abbrev pub Gives : {X Y F : Type 0} → (X → Y) → Result X (Refusal F) → Result Y F → Type 0
Gives view (Ok x) read = read ≡ Ok (view x)
Gives view (Err refusal) read = Refuses refusal read

infixl 10 ◌>>=◌
-- a step, and the next one where it gave a value
abbrev pub ◌>>=◌ : {A B F : Type 0} → Result A F → (A → Result B F) → Result B F
(Ok x) >>= next = next x
(Err fault) >>= next = Err fault

-- the fault, unless the test holds
abbrev pub unless : {F : Type 0} → Bool → F → Result (Unit {0}) F
unless true fault = Ok tt
unless false fault = Err fault
