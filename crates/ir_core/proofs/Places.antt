-- where the operations of a list stand, and where they stand once one was put in
use Rattle.std.proofs.Common.{◌≡◌, ◌≢◌, ℕ, zero, suc, ◌+◌, ◌<◌, ◌≤◌, eqb, List, [], ◌∷◌, length, get_or, map, sym, refl, ap, ◌∙◌, inl, inr, false, Option, Some, None, subst, arith, add-one, eq-eqb}
use Rattle.std.specs.List.{insert, Contains, slice_get, IsDistinct}
use Rattle.std.specs.Option.{IfSome}
use Rattle.std.proofs.lemmas.List.Elements.{All-contains, All-from_recursion}
use Rattle.std.proofs.lemmas.Map.Keys.{IsDistinct-head, IsDistinct-tail}
use Rattle.std.proofs.lemmas.Bool.Decides.{eqb_tells}
use Rattle.std.proofs.lemmas.List.{length-map, get_or-map}
use Rattle.std.proofs.lemmas.Option.{slice_get-get_or}
use Rattle.ir_core.specs.Graph.{place_of, numbers_of, Holds, StandsBefore}

-- the number of an entry is there
pub number_there : {Op : Type 0} (list : List (ℕ × Op)) (number : ℕ) (op : Op) → Contains list (number, op) → Holds list number
number_there {Op} list number op (k, within, at) =
    let number_in : ℕ × Op → ℕ = λ entry. entry.0 in
    (k, rw length-map within, get_or-map number_in list k (number, op) number within ∙ ap number_in at)

-- no place is past the end
pub place_at_most : {Op : Type 0} (list : List (ℕ × Op)) (value : ℕ) → place_of list value ≤ length list
place_at_most [] value = omega arith
place_at_most (entry ∷ rest) value =
    let later : place_of rest value ≤ length rest = place_at_most rest value in
    elim (eqb_tells entry.0 value) [ inl same ↦ rw same.0 (omega arith) | inr other ↦ rw other.0 (omega arith) ]

-- the place of a number that is there is within the list
pub place_within : {Op : Type 0} (list : List (ℕ × Op)) (value : ℕ) → Holds list value → place_of list value < length list
place_within [] value (k, within, at) = absurd (omega arith)
place_within (entry ∷ rest) value (zero, within, at) = rw (eq-eqb entry.0 value at) (omega arith)
place_within (entry ∷ rest) value (suc k, within, at) =
    let later : place_of rest value < length rest = place_within rest value (k, omega arith, at) in
    elim (eqb_tells entry.0 value) [ inl same ↦ rw same.0 (omega arith) | inr other ↦ rw other.0 (omega arith) ]

-- a number whose place is within the list is there
pub holds_from_place : {Op : Type 0} (list : List (ℕ × Op)) (value : ℕ) → place_of list value < length list → Holds list value
holds_from_place [] value within = absurd (omega arith)
holds_from_place (entry ∷ rest) value within =
    elim (eqb_tells entry.0 value) [
      | inl same ↦ (0, omega arith, same.1)
      | inr other ↦
          let inside = rw other.0 at within in
          let later : Holds rest value = holds_from_place rest value (omega arith) in
          (suc later.0, omega arith, later.2)
    ]

-- at the place of a number stands the operation with that number
pub number_at_place : {Op : Type 0} (list : List (ℕ × Op)) (value : ℕ) (d : ℕ × Op) → place_of list value < length list → (get_or list (place_of list value) d).0 ≡ value
number_at_place [] value d within = absurd (omega arith)
number_at_place (entry ∷ rest) value d within =
    elim (eqb_tells entry.0 value) [
      | inl same ↦ rw same.0 same.1
      | inr other ↦
          let inside = rw other.0 at within in
          rw (other.0, add-one) (number_at_place rest value d (omega arith))
    ]

-- a list of another number's entry put in: those before it keep their place, the others stand one further
pub place_of-insert : {Op : Type 0} (list : List (ℕ × Op)) (i : ℕ) (entry : ℕ × Op) (value : ℕ) → i ≤ length list → entry.0 ≢ value → (place_of list value < i → place_of (insert list i entry) value ≡ place_of list value) × (i ≤ place_of list value → place_of (insert list i entry) value ≡ place_of list value + 1)
place_of-insert list zero entry value within differs =
    elim (eqb_tells entry.0 value) [
      | inl same ↦ absurd (differs same.1)
      | inr other ↦ rw other.0 (λ below. absurd (omega arith), λ _. refl)
    ]
place_of-insert [] (suc i) entry value within differs = absurd (omega arith)
place_of-insert (head ∷ rest) (suc i) entry value within differs =
    let later = place_of-insert rest i entry value (omega arith) differs in
    elim (eqb_tells head.0 value) [
      | inl same ↦ rw same.0 (λ _. refl, λ past. absurd (omega arith))
      | inr other ↦ rw other.0 (λ below. omega (arith, later.0 (omega arith)), λ past. omega (arith, later.1 (omega arith)))
    ]

-- the place of what was put in, where its number stood at no earlier place
pub place_of_inserted : {Op : Type 0} (list : List (ℕ × Op)) (i value : ℕ) (op : Op) → i ≤ length list → i ≤ place_of list value → place_of (insert list i (value, op)) value ≡ i
place_of_inserted list zero value op within past = rw (eq-eqb value value refl) refl
place_of_inserted [] (suc i) value op within past = absurd (omega arith)
place_of_inserted (head ∷ rest) (suc i) value op within past =
    elim (eqb_tells head.0 value) [
      | inl same ↦ let none = rw same.0 at past in absurd (omega arith)
      | inr other ↦ let inside = rw other.0 at past in rw other.0 (omega (arith, place_of_inserted rest i value op (omega arith) (omega arith)))
    ]

-- what is put in leaves the order of all others
pub before_after_insert : {Op : Type 0} (list : List (ℕ × Op)) (i : ℕ) (entry : ℕ × Op) (a b : ℕ) → i ≤ length list → entry.0 ≢ a → entry.0 ≢ b → StandsBefore list a b → StandsBefore (insert list i entry) a b
before_after_insert list i entry a b within not_a not_b before =
    let a_is = place_of-insert list i entry a within not_a in
    let b_is = place_of-insert list i entry b within not_b in
    grind (arith, a_is.0, a_is.1, b_is.0, b_is.1)

pub before_before_insert : {Op : Type 0} (list : List (ℕ × Op)) (i : ℕ) (entry : ℕ × Op) (a b : ℕ) → i ≤ length list → entry.0 ≢ a → entry.0 ≢ b → StandsBefore (insert list i entry) a b → StandsBefore list a b
before_before_insert list i entry a b within not_a not_b before =
    let a_is = place_of-insert list i entry a within not_a in
    let b_is = place_of-insert list i entry b within not_b in
    grind (arith, a_is.0, a_is.1, b_is.0, b_is.1)

-- a change of the operations alone leaves each place
pub place_of-map : {Op : Type 0} (change : Op → Op) (list : List (ℕ × Op)) (value : ℕ) → place_of (map (λ entry. (entry.0, change entry.1)) list) value ≡ place_of list value
place_of-map change [] value = refl
place_of-map change (entry ∷ rest) value = rw (place_of-map change rest value) refl

-- the entry at the place of a number has that number
pub entry_is : {Op : Type 0} (list : List (ℕ × Op)) (value : ℕ) (entry : ℕ × Op) → place_of list value < length list → entry ≡ get_or list (place_of list value) entry → entry ≡ (value, entry.1)
entry_is list value entry within read = ap (λ n. (n, entry.1)) (ap (λ e. e.0) read ∙ number_at_place list value entry within)

-- the operation with a number stands at its place
pub operation_at_place : {Op : Type 0} (list : List (ℕ × Op)) (value : ℕ) (entry : ℕ × Op) → place_of list value < length list → entry ≡ get_or list (place_of list value) entry → slice_get list (place_of list value) ≡ Some (value, entry.1)
operation_at_place list value entry within read =
    slice_get-get_or list (place_of list value) entry within ∙ ap Some (sym read ∙ entry_is list value entry within read)

pub read_at_place : {Op : Type 0} (list : List (ℕ × Op)) (value : ℕ) (entry : ℕ × Op) → place_of list value < length list → entry ≡ get_or list (place_of list value) entry → (value, entry.1) ≡ get_or list (place_of list value) (value, entry.1)
read_at_place {Op} list value entry within read =
    let P : ℕ × Op → Type 0 = λ e. e ≡ get_or list (place_of list value) e in
    subst P (entry_is list value entry within read) read

-- no number stands in an empty list
slice_get_none : (at value : ℕ) → slice_get {X = ℕ} [] at ≡ Some value → ⊥
slice_get_none at value found = cc

-- where no number stands twice, the number at a place stands there alone
pub place_of_number : {Op : Type 0} (list : List (ℕ × Op)) (at value : ℕ) → IsDistinct eqb (numbers_of list) → slice_get (numbers_of list) at ≡ Some value → (place_of list value ≡ at) × Holds list value
place_of_number [] at value distinct found = absurd (slice_get_none at value found)
place_of_number (entry ∷ rest) zero value distinct found =
    let same : entry.0 ≡ value = cc in
    (rw (eq-eqb entry.0 value same) refl, (0, omega arith, same))
place_of_number (entry ∷ rest) (suc at) value distinct found =
    let later = place_of_number rest at value (IsDistinct-tail eqb entry.0 (numbers_of rest) distinct) found in
    let other : eqb entry.0 value ≡ false = All-contains (λ n. eqb entry.0 n ≡ false) (numbers_of rest) value (All-from_recursion (λ n. eqb entry.0 n ≡ false) (numbers_of rest) (IsDistinct-head eqb entry.0 (numbers_of rest) distinct)) later.1 in
    (rw other (omega (arith, later.0)), (suc later.1.0, omega (arith, later.1.1), later.1.2))

-- the same of a number that may be there
pub place_of_found : {Op : Type 0} (list : List (ℕ × Op)) (at : ℕ) (found : Option ℕ) → IsDistinct eqb (numbers_of list) → found ≡ slice_get (numbers_of list) at → IfSome found (λ value. place_of list value ≡ at) × IfSome found (Holds list)
place_of_found list at None distinct is = (tt, tt)
place_of_found list at (Some value) distinct is = place_of_number list at value distinct (sym is)
