-- The value of an operation comes from the values of its operands, wherever it stands in the list.
use Rattle.std.proofs.Common.{◌≡◌, ◌≢◌, ℕ, zero, suc, ◌+◌, ◌<◌, ◌≤◌, ◌==◌, Bool, true, false, cond, List, [], ◌∷◌, ◌++◌, length, map, take, drop, All, refl, sym, ap, ◌∙◌, append_assoc, add-one, arith, Option, Some, None, inl, inr, eq-eqb}
use Rattle.std.specs.Prelude.{find, ◌⊎◌, ℤ, pos}
use Rattle.std.specs.List.{AllByRecursion, slice_get}
use Rattle.std.specs.Option.{option_map_or}
use Rattle.std.proofs.lemmas.Bool.{ne_eqb}
use Rattle.std.proofs.lemmas.Bool.Decides.{eqb_tells}
use Rattle.std.proofs.lemmas.List.{append-nil, take-append-drop, length-take-le}
use Rattle.forms.specs.FromEarlier.{from_earlier, from_earlier-append, from_earlier_keeps, length-from_earlier}
use Rattle.ir_core.specs.Graph.{place_of, Holds}
use Rattle.fhe_level.specs.declared.level.FheOp.{FheOp}
use Rattle.fhe_level.specs.Programs.{Value, value_at, value_of, numbered_value, operation_values}
use Rattle.fhe_level.specs.Clearing.{op_with}

-- ---- values among others

-- no value has this number
abbrev pub Lacks : ℕ → List (ℕ × Value) → Type 0
Lacks wanted values = AllByRecursion (λ (entry : ℕ × Value). entry.0 ≢ wanted) values

lacks_push : (wanted : ℕ) (values : List (ℕ × Value)) (entry : ℕ × Value) → Lacks wanted values → entry.0 ≢ wanted
    → Lacks wanted (values ++ entry ∷ [])
lacks_push wanted [] entry lacks differs = (differs, tt)
lacks_push wanted (first ∷ values) entry lacks differs = (lacks.0, lacks_push wanted values entry lacks.1 differs)

-- the value that stands behind values with other numbers
value_at-last : (values more : List (ℕ × Value)) (wanted : ℕ) (entry : ℕ × Value) → Lacks wanted values → entry.0 ≡ wanted
    → value_at (values ++ entry ∷ more) wanted ≡ entry.1
value_at-last [] more wanted entry lacks same = rw (eq-eqb entry.0 wanted same) refl
value_at-last (first ∷ values) more wanted entry lacks same =
    rw (ne_eqb first.0 wanted lacks.0) (value_at-last values more wanted entry lacks.1 same)

-- a value has this number
abbrev Has : ℕ → List (ℕ × Value) → Type 0
Has wanted [] = ⊥
Has wanted (entry ∷ values) = (entry.0 ≡ wanted) ⊎ Has wanted values

has_first : (wanted : ℕ) (values more : List (ℕ × Value)) → Has wanted values → Has wanted (values ++ more)
has_first wanted [] more has = absurd has
has_first wanted (entry ∷ values) more has =
    elim has [ inl here ↦ inl here | inr later ↦ inr (has_first wanted values more later) ]

has_last : (wanted : ℕ) (values : List (ℕ × Value)) (entry : ℕ × Value) → entry.0 ≡ wanted → Has wanted (values ++ entry ∷ [])
has_last wanted [] entry same = inl same
has_last wanted (first ∷ values) entry same = inr (has_last wanted values entry same)

-- values that are there stay, with more behind them
value_at-stays : (values more : List (ℕ × Value)) (wanted : ℕ) → Has wanted values
    → value_at (values ++ more) wanted ≡ value_at values wanted
value_at-stays [] more wanted has = absurd has
value_at-stays (entry ∷ values) more wanted has =
    elim (eqb_tells entry.0 wanted) [
      | inl same ↦ rw same.0 refl
      | inr other ↦
          let rest : Has wanted values = elim has [ inl here ↦ absurd (other.1 here) | inr later ↦ later ] in
          rw other.0 (value_at-stays values more wanted rest)
    ]

-- ---- values one after the other

-- the values of operations behind others
abbrev pub values_from : List ℤ → List (ℕ × Value) → List (ℕ × FheOp) → List (ℕ × Value)
values_from inputs earlier operations = from_earlier (numbered_value inputs) earlier operations

has_from : (inputs : List ℤ) (earlier : List (ℕ × Value)) (operations : List (ℕ × FheOp)) (wanted : ℕ) → Has wanted earlier
    → Has wanted (values_from inputs earlier operations)
has_from inputs earlier operations wanted has =
    let kept = from_earlier_keeps (numbered_value inputs) earlier operations in
    rw kept.1 (has_first wanted earlier kept.0 has)

-- the operations before a place have values
has_before : (inputs : List ℤ) (earlier : List (ℕ × Value)) (operations : List (ℕ × FheOp)) (place wanted : ℕ)
    → place_of operations wanted < place → place ≤ length operations
    → Has wanted (values_from inputs earlier (take place operations))
has_before inputs earlier operations zero wanted below within = absurd (omega arith)
has_before inputs earlier [] (suc place) wanted below within = absurd (omega arith)
has_before inputs earlier (entry ∷ rest) (suc place) wanted below within =
    let next = numbered_value inputs earlier entry in
    elim (eqb_tells entry.0 wanted) [
      | inl same ↦ has_from inputs (earlier ++ next ∷ []) (take place rest) wanted (has_last wanted earlier next same.1)
      | inr other ↦
          let inside = rw other.0 at below in
          has_before inputs (earlier ++ next ∷ []) rest place wanted (omega arith) (omega arith)
    ]

-- which are those that they have among all
pub value_before : (inputs : List ℤ) (operations : List (ℕ × FheOp)) (place wanted : ℕ) → place_of operations wanted < place
    → place ≤ length operations
    → value_at (operation_values (take place operations) inputs) wanted ≡ value_at (operation_values operations inputs) wanted
value_before inputs operations place wanted below within =
    let result_of = numbered_value inputs in
    let first = values_from inputs [] (take place operations) in
    let kept = from_earlier_keeps result_of first (drop place operations) in
    let whole : values_from inputs [] operations ≡ first ++ kept.0 =
    ap (values_from inputs []) (sym (take-append-drop place operations))
    ∙ from_earlier-append result_of [] (take place operations) (drop place operations) ∙ kept.1 in
    sym (ap (λ values. value_at values wanted) whole ∙ value_at-stays first kept.0 wanted (has_before inputs [] operations place wanted below within))

-- the value of an operation, from those before its place
value_there : (inputs : List ℤ) (earlier : List (ℕ × Value)) (operations : List (ℕ × FheOp)) (wanted : ℕ) (op : FheOp)
    → Lacks wanted earlier → slice_get operations (place_of operations wanted) ≡ Some (wanted, op)
    → value_at (values_from inputs earlier operations) wanted
    ≡ value_of inputs (values_from inputs earlier (take (place_of operations wanted) operations)) op
value_there inputs earlier [] wanted op lacks found = absurd cc
value_there inputs earlier (entry ∷ rest) wanted op lacks found =
    let next = numbered_value inputs earlier entry in
    elim (eqb_tells entry.0 wanted) [
      | inl same ↦
          let here = rw same.0 at found in
          let own : entry.1 ≡ op = ap (λ (e : ℕ × FheOp). e.1) (let e : entry ≡ (wanted, op) = cc in e) in
          let kept = from_earlier_keeps (numbered_value inputs) (earlier ++ next ∷ []) rest in
          rw same.0 (
          ap (λ values. value_at values wanted) (kept.1 ∙ append_assoc earlier (next ∷ []) kept.0)
          ∙ value_at-last earlier kept.0 wanted next lacks same.1
          ∙ ap (value_of inputs earlier) own
          )
      | inr other ↦
          let there = rw (other.0, add-one) at found in
          rw (other.0, add-one) (value_there inputs (earlier ++ next ∷ []) rest wanted op (lacks_push wanted earlier next lacks other.1) there)
    ]

pub value_is : (inputs : List ℤ) (operations : List (ℕ × FheOp)) (wanted : ℕ) (op : FheOp)
    → slice_get operations (place_of operations wanted) ≡ Some (wanted, op)
    → value_at (operation_values operations inputs) wanted
    ≡ value_of inputs (operation_values (take (place_of operations wanted) operations) inputs) op
value_is inputs operations wanted op found = value_there inputs [] operations wanted op tt found

-- as many values as operations
pub values_before : (inputs : List ℤ) (operations : List (ℕ × FheOp)) (place : ℕ) → place ≤ length operations
    → length (operation_values (take place operations) inputs) ≡ place
values_before inputs operations place within =
    omega (arith, length-from_earlier (numbered_value inputs) [] (take place operations), length-take-le place operations within)
