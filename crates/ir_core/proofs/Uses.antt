-- the uses of a value
use Rattle.std.proofs.Common.{ℕ, zero, suc, ◌+◌, List, [], ◌∷◌, sym, refl, subst, inl, inr, arith, eq-eqb}
use Rattle.std.specs.List.{Contains}
use Rattle.std.proofs.lemmas.Bool.Decides.{eqb_tells}
use Rattle.std.proofs.lemmas.List.Elements.{Contains-append_left, Contains-append_right}
use Rattle.ir_core.specs.Graph.{uses_from, uses_of}

-- an operand that holds the value is a use
pub use_among_operands : (place user : ℕ) (operands : List ℕ) (value : ℕ) → Contains operands value → (at : ℕ) × Contains (uses_from place user operands value) (user, at)
use_among_operands place user [] value (k, within, found) = absurd (omega arith)
use_among_operands place user (operand ∷ rest) value (zero, within, found) =
    rw (eq-eqb operand value found) (place, (0, omega arith, refl))
use_among_operands place user (operand ∷ rest) value (suc k, within, found) =
    let later = use_among_operands (place + 1) user rest value (k, omega arith, found) in
    elim (eqb_tells operand value) [
      | inl same ↦ rw same.0 (later.0, (suc later.1.0, omega (arith, later.1.1), later.1.2))
      | inr other ↦ rw other.0 later
    ]

-- an operation that has the value as an operand has a use of it
pub use_there : {Op : Type 0} (operands : Op → List ℕ) (list : List (ℕ × Op)) (value user : ℕ) (op : Op) → Contains list (user, op) → Contains (operands op) value → (at : ℕ) × Contains (uses_of operands list value) (user, at)
use_there operands [] value user op (k, within, at) holds = absurd (omega arith)
use_there {Op} operands (entry ∷ rest) value user op (zero, within, at) holds =
    let P : ℕ × Op → Type 0 = λ e. (place : ℕ) × Contains (uses_from 0 e.0 (operands e.1) value) (user, place) in
    let found : P entry = subst P (sym at) (use_among_operands 0 user (operands op) value holds) in
    (found.0, Contains-append_left _ _ _ found.1)
use_there operands (entry ∷ rest) value user op (suc k, within, at) holds =
    let found = use_there operands rest value user op (k, omega arith, at) holds in
    (found.0, Contains-append_right _ _ _ found.1)
