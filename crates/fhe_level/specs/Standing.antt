-- What stands at a place or has a number in a program. These facts are proved on this page, so that each crate may cite
-- them.
use Rattle.std.specs.Prelude.{◌≡◌, ℕ, ◌+◌, ◌^◌, ◌<◌, ◌≤◌, ◌==◌, ◌&&◌, Bool, true, false, not, List, [], ◌∷◌, length, map, All, Option, Some, None, ℤ, pos, ◌≤ℤ◌, ◌<ℤ◌, refl}
use Rattle.std.specs.List.{slice_get, list_all}
use Rattle.std.specs.Option.{option_map_or, IsSomeAnd}
use Rattle.std.proofs.Common.{zero, suc, get_or, sym, ap, ◌∙◌, subst, add-one, arith, inl, inr}
use Rattle.std.proofs.Math.Pow.{pow_mono}
use Rattle.std.proofs.lemmas.Int.{ints}
use Rattle.std.proofs.lemmas.Bool.{false≢true, cases_lt, eqb-true}
use Rattle.std.proofs.lemmas.Bool.Decides.{eqb_tells}
use Rattle.std.proofs.lemmas.Option.{slice_get_within, slice_get-get_or, get_or_from_slice_get}
use Rattle.forms.specs.Forms.{AreIn}
use Rattle.ir_core.specs.Graph.{Holds, place_of}
use Rattle.fhe_text.specs.declared.source.WrittenType.{WrittenType}
use Rattle.fhe_text.specs.declared.source.WrittenType.TheVariants as types
use Rattle.fhe_text.specs.declared.source.OpName.TheVariants.{ApplyLookupTable}
use Rattle.fhe_text.specs.declared.source.Entries.TheVariants as tables
use Rattle.fhe_level.specs.declared.level.FheOp.{FheOp}
use Rattle.fhe_level.specs.declared.level.FheOp.TheVariants as ops
use Rattle.fhe_level.specs.Limits.{width_of}
use Rattle.fhe_level.specs.Rows.{row_of, is_eint, tensor_length, keeps_row, fit_slots}
use Rattle.fhe_level.specs.Operations.{type_of}
use Rattle.fhe_level.specs.Programs.{Value, operand_at, value_of}
use Rattle.fhe_level.specs.Clearing.{op_with, HasEntries, IsNumberOf, IsResult, is_argument, is_constant, AreArguments}
use Rattle.fhe_level.specs.Room.{IsIndexIn}

-- both hold where one after the other does
pub both : (a b : Bool) → (a && b) ≡ true → (a ≡ true) × (b ≡ true)
both true b is = (refl, is)
both false b is = absurd (false≢true is)

-- ---- the operation with a number

-- the operation at the place of a number has that number
pub op_with-place : (operations : List (ℕ × FheOp)) (wanted : ℕ) (op : FheOp)
    → slice_get operations (place_of operations wanted) ≡ Some (wanted, op) → op_with operations wanted ≡ Some op
op_with-place [] wanted op found = absurd cc
op_with-place (entry ∷ rest) wanted op found =
    elim (eqb_tells entry.0 wanted) [
      | inl same ↦
          let here = rw same.0 at found in
          let own : entry ≡ (wanted, op) = cc in
          rw same.0 (ap (λ (e : ℕ × FheOp). Some e.1) own)
      | inr other ↦
          let there = rw (other.0, add-one) at found in
          rw other.0 (op_with-place rest wanted op there)
    ]

-- one more operation before it
op_later : (entry : ℕ × FheOp) (rest : List (ℕ × FheOp)) (wanted : ℕ) → (entry.0 == wanted) ≡ false
    → (op : FheOp) × (slice_get rest (place_of rest wanted) ≡ Some (wanted, op))
    → (op : FheOp) × (slice_get (entry ∷ rest) (place_of (entry ∷ rest) wanted) ≡ Some (wanted, op))
op_later entry rest wanted other (op, at) = (op, rw (other, add-one) at)

-- an operation with a number that is there
pub op_there : (operations : List (ℕ × FheOp)) (wanted : ℕ) → place_of operations wanted < length operations
    → (op : FheOp) × (slice_get operations (place_of operations wanted) ≡ Some (wanted, op))
op_there [] wanted within = absurd (omega arith)
op_there (entry ∷ rest) wanted within =
    elim (eqb_tells entry.0 wanted) [
      | inl same ↦ (entry.1, rw same.0 (ap (λ (n : ℕ). Some (n, entry.1)) same.1))
      | inr other ↦
          let inside = rw other.0 at within in
          op_later entry rest wanted other.0 (op_there rest wanted (omega arith))
    ]

-- an operation that has a number stands in the list
pub place_with : (operations : List (ℕ × FheOp)) (wanted : ℕ) (op : FheOp) → op_with operations wanted ≡ Some op
    → place_of operations wanted < length operations
place_with [] wanted op found = absurd cc
place_with (entry ∷ rest) wanted op found =
    elim (eqb_tells entry.0 wanted) [
      | inl same ↦ rw same.0 (omega arith)
      | inr other ↦
          let there = rw other.0 at found in
          rw other.0 (omega (arith, place_with rest wanted op there))
    ]

-- a number whose place is in the list is there
pub number_there : (operations : List (ℕ × FheOp)) (wanted : ℕ) → place_of operations wanted < length operations
    → Holds operations wanted
number_there [] wanted within = absurd (omega arith)
number_there (entry ∷ rest) wanted within =
    elim (eqb_tells entry.0 wanted) [
      | inl same ↦ (0, omega arith, same.1)
      | inr other ↦
          let inside = rw other.0 at within in
          let later : Holds rest wanted = number_there rest wanted (omega arith) in
          (suc later.0, omega arith, later.2)
    ]

same_entry : (wanted other : ℕ) (op last : FheOp)
    → ◌≡◌ {A = Option (ℕ × FheOp)} (Some (wanted, op)) (Some (other, last)) → wanted ≡ other
same_entry wanted other op last same =
    let number : Option (ℕ × FheOp) → ℕ = λ (found : Option (ℕ × FheOp)). option_map_or (λ (entry : ℕ × FheOp). entry.0) found 0 in
    ap number same

-- the numbers at one place are the same
pub same_place : (operations : List (ℕ × FheOp)) (wanted other : ℕ) → place_of operations wanted < length operations
    → place_of operations wanted ≡ place_of operations other → wanted ≡ other
same_place operations wanted other within same =
    let first = op_there operations wanted within in
    let second = op_there operations other (omega arith) in
    let at : slice_get operations (place_of operations wanted) ≡ Some (other, second.0) =
    ap (slice_get operations) same ∙ second.1 in
    same_entry wanted other first.0 second.0 (sym first.1 ∙ at)

-- ---- what stands at a place

-- what holds of each entry holds of one that stands somewhere
pub entry_has : {A : Type 0} (P : A → Type 0) (list : List A) (place : ℕ) (entry : A) → All P list → slice_get list place ≡ Some entry → P entry
entry_has P list place entry each at =
    subst P (get_or_from_slice_get list place entry entry at) (each place entry (slice_get_within list place entry at))

-- where nothing stands at a place, all places are before it
pub past_all : (numbers : List ℕ) (place : ℕ) → slice_get numbers place ≡ None → length numbers ≤ place
past_all numbers place none =
    elim (cases_lt place (length numbers)) [
      | inl inside ↦ absurd (let found : slice_get numbers place ≡ Some (get_or numbers place 0) = slice_get-get_or numbers place 0 inside in cc)
      | inr past ↦ past
    ]

-- the operand at a place
pub operand_is : (f : ℕ → Value) (operands : List ℕ) (at d : ℕ) → at < length operands
    → operand_at (map f operands) at ≡ f (get_or operands at d)
operand_is f [] at d within = absurd (omega arith)
operand_is f (operand ∷ operands) zero d within = refl
operand_is f (operand ∷ operands) (suc at) d within = operand_is f operands at d (omega arith)

-- ---- arguments and results

-- where no operation is an argument, none is at a place
no_argument : (operations : List (ℕ × FheOp)) (place wanted : ℕ) (ty : WrittenType)
    → list_all (λ (entry : ℕ × FheOp). not (is_argument entry.1)) operations ≡ true
    → slice_get operations place ≡ Some (wanted, ops.Arg ty) → ⊥
no_argument [] place wanted ty none at = cc
no_argument (entry ∷ operations) zero wanted ty none at =
    let own : entry ≡ (wanted, ops.Arg ty) = cc in
    let parts = both (not (is_argument entry.1)) (list_all (λ (e : ℕ × FheOp). not (is_argument e.1)) operations) none in
    false≢true (sym (ap (λ (e : ℕ × FheOp). not (is_argument e.1)) own) ∙ parts.0)
no_argument (entry ∷ operations) (suc place) wanted ty none at =
    let parts = both (not (is_argument entry.1)) (list_all (λ (e : ℕ × FheOp). not (is_argument e.1)) operations) none in
    no_argument operations place wanted ty parts.1 at

-- each argument has a range
pub argument_has_range : (operations : List (ℕ × FheOp)) (ranges : List (ℤ × ℤ)) (place wanted : ℕ) (ty : WrittenType)
    → AreArguments operations ranges → slice_get operations place ≡ Some (wanted, ops.Arg ty) → place < length ranges
argument_has_range operations [] place wanted ty are at = absurd (no_argument operations place wanted ty are at)
argument_has_range [] (range ∷ ranges) place wanted ty are at = absurd are
argument_has_range (entry ∷ operations) (range ∷ ranges) zero wanted ty are at = omega arith
argument_has_range (entry ∷ operations) (range ∷ ranges) (suc place) wanted ty are at =
    omega (arith, argument_has_range operations ranges place wanted ty are.2 at)

-- one value for each range
pub length_in : (ranges : List (ℤ × ℤ)) (values : List ℤ) → AreIn ranges values → length values ≡ length ranges
length_in [] [] are = refl
length_in [] (value ∷ values) are = absurd are
length_in (range ∷ ranges) [] are = absurd are
length_in (range ∷ ranges) (value ∷ values) are = omega (arith, length_in ranges values are.1)

some_place : (operations : List (ℕ × FheOp)) (wanted : ℕ) (found : Option FheOp) → op_with operations wanted ≡ found
    → IsSomeAnd found (λ op. not (is_constant op) ≡ true) → place_of operations wanted < length operations
some_place operations wanted None same is = absurd is
some_place operations wanted (Some op) same is = place_with operations wanted op same

-- a result is there
pub result_there : (operations : List (ℕ × FheOp)) (wanted : ℕ) → IsResult operations wanted → place_of operations wanted < length operations
result_there operations wanted is = some_place operations wanted (op_with operations wanted) refl is

-- ---- look-ups

-- the row of a look-up: an index of an encrypted type
pub index_type : (index entries ty : WrittenType) → keeps_row ApplyLookupTable (index ∷ entries ∷ []) ty ≡ true → is_eint index ≡ true
index_type index entries ty keeps =
    (both (is_eint index) _ (both (is_eint ty) (fit_slots (width_of ty) (row_of ApplyLookupTable) (index ∷ entries ∷ [])) keeps).1).0

-- a number of the index's type finds its entry in the value of the table's operation
pub finds : (index : WrittenType) (op : FheOp) (inputs : List ℤ) (earlier : List (ℕ × Value)) (z : ℤ) → is_eint index ≡ true
    → (tensor_length (type_of op) == 2 ^ width_of index) ≡ true → HasEntries op → IsNumberOf index z → IsIndexIn (value_of inputs earlier op) z
finds (types.Eint width) (ops.Dense (tables.List numbers) count bits) inputs earlier z eint same has is =
    let long : count ≡ 2 ^ width = eqb-true count (2 ^ width) same in
    let one : 1 ≤ 2 ^ width = pow_mono {i = 0} {j = width} (omega arith) in
    let below : z <ℤ pos (2 ^ width) = omega (arith, ints, is.1, one) in
    (is.0, omega (arith, ints, below, long, has))
finds (types.Eint width) (ops.Dense (tables.Splat y) count bits) inputs earlier z eint same has is = tt
finds (types.Eint width) (ops.Arg ty) inputs earlier z eint same has is = tt
finds (types.Eint width) (ops.Int value bits) inputs earlier z eint same has is = tt
finds (types.Eint width) (ops.Apply name operands ty) inputs earlier z eint same has is = tt
finds (types.Int bits) op inputs earlier z eint same has is = absurd (false≢true eint)
finds (types.Tensor count bits) op inputs earlier z eint same has is = absurd (false≢true eint)
