-- What a reading that gave a value went through. This holds at values of every type, those that only definitions have
-- too, so that no function can promise it: it is proved here, by cases.
use Rattle.std.specs.Prelude.{◌≡◌, Bool, true, false, Result, Ok, Err, refl}
use Rattle.std.proofs.Common.{subst}
use Rattle.refusals.specs.Reading.{◌>>=◌, unless}

-- reading gave this value
abbrev pub GaveValue : {A F : Type 0} → A → Result A F → Type 0
GaveValue x (Ok y) = x ≡ y
GaveValue x (Err fault) = ⊥

-- reading gave a fault
abbrev pub GaveFault : {A F : Type 0} → Result A F → Type 0
GaveFault (Ok x) = ⊥
GaveFault (Err fault) = Unit {0}

-- the value that reading gave is one
pub one_value : {A F : Type 0} (x : A) (read : Result A F) → Ok x ≡ read → GaveValue x read
one_value x read given = subst (GaveValue x) given refl

-- where reading gave a fault, it gave no value
pub no_value : {A F : Type 0} (fault : F) (read : Result A F) → Err fault ≡ read → GaveFault read
no_value fault read given = subst GaveFault given tt

-- the value of a step, where the whole gave one
pub value_of_step : {A B F : Type 0} (step : Result A F) (next : A → Result B F) (value : B)
    → (step >>= next) ≡ Ok value → (x : A) × (step ≡ Ok x) × (next x ≡ Ok value)
value_of_step (Ok x) next value given = (x, refl, given)
value_of_step (Err fault) next value given = absurd (no_value fault (Ok value) given)

-- a test holds, where the whole gave a value
pub test_held : {B F : Type 0} (test : Bool) (fault : F) (next : Unit {0} → Result B F) (value : B)
    → (unless test fault >>= next) ≡ Ok value → (test ≡ true) × (next tt ≡ Ok value)
test_held true fault next value given = (refl, given)
test_held false fault next value given = absurd (no_value fault (Ok value) given)
