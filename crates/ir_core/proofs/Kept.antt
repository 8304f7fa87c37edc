-- what every graph keeps is kept by each change
use Rattle.std.proofs.Common.{◌≡◌, ◌≢◌, ℕ, zero, suc, ◌+◌, ◌<◌, ◌≤◌, ◌^◌, eqb, false, List, [], ◌∷◌, length, get_or, map, sym, refl, ap, ◌∙◌, subst, inl, inr, ◌⊎◌, arith, eq-eqb, lit<}
use Rattle.std.specs.List.{insert, remove, Contains, IsDistinct}
use Rattle.std.specs.List.Sorted.{IsPermutation}
use Rattle.std.proofs.lemmas.List.Edits.{length-insert, length-remove}
use Rattle.std.proofs.lemmas.List.Elements.{All-cons, All-tail, All-weaker, All-contains, All-map, All-from_recursion, recursion_from_All}
use Rattle.std.proofs.lemmas.List.Sorted.{IsPermutation-insert, IsPermutation-remove, IsPermutation-map, IsPermutation-sym, All-permutation, Contains-permutation}
use Rattle.std.proofs.lemmas.Map.Keys.{IsDistinct-cons, IsDistinct-head, IsDistinct-tail, IsDistinct-IsPermutation}
use Rattle.std.proofs.lemmas.Bool.Decides.{eqb_tells}
use Rattle.std.proofs.lemmas.Bool.{cases_lt, false≢true}
use Rattle.std.proofs.lemmas.List.{length-map}
use Rattle.ir_core.specs.Graph.{IsGraph, place_of, numbers_of, Holds, StandsBefore, renamed, renamed_in, renamed_list}
use Rattle.ir_core.proofs.Places.{number_there, place_within, holds_from_place, place_of-insert, place_of_inserted, before_after_insert, before_before_insert, place_of-map}

-- an element of a list is its first, or one of the others
pub first_or_later : {X : Type 0} (x y : X) (ys : List X) → Contains (y ∷ ys) x → (y ≡ x) ⊎ Contains ys x
first_or_later x y ys (zero, within, at) = inl at
first_or_later x y ys (suc k, within, at) = inr (k, omega arith, at)

-- an element of the others is one of the list
pub later_there : {X : Type 0} (x y : X) (ys : List X) → Contains ys x → Contains (y ∷ ys) x
later_there x y ys (k, within, at) = (suc k, omega arith, at)

-- a change of the operations alone leaves the numbers
numbers_of-map : {Op : Type 0} (change : Op → Op) (list : List (ℕ × Op)) → numbers_of (map (λ entry. (entry.0, change entry.1)) list) ≡ numbers_of list
numbers_of-map change [] = refl
numbers_of-map change (entry ∷ rest) = ap (λ numbers. entry.0 ∷ numbers) (numbers_of-map change rest)

eqb-flips : (a b : ℕ) → eqb a b ≡ eqb b a
eqb-flips a b =
    elim (eqb_tells a b) [
      | inl same ↦ elim (eqb_tells b a) [ inl back ↦ same.0 ∙ sym back.0 | inr other ↦ absurd (other.1 (sym same.1)) ]
      | inr other ↦ elim (eqb_tells b a) [ inl back ↦ absurd (other.1 (sym back.1)) | inr neither ↦ other.0 ∙ sym neither.0 ]
    ]

-- a number above another differs from it
eqb-above : (a b : ℕ) → b < a → eqb a b ≡ false
eqb-above a b below = elim (eqb_tells a b) [ inl same ↦ absurd (omega (arith, same.1)) | inr other ↦ other.0 ]

-- an operation is put in, under the next number, after those that it takes
pub inserted_keeps : {Op : Type 0} (operands : Op → List ℕ) (list : List (ℕ × Op)) (made i : ℕ) (op : Op) → IsGraph operands (record { list = list; made = made }) → i ≤ length list → ((value : ℕ) → Contains (operands op) value → place_of list value < i) → length (operands op) < 2 ^ 32 → made + 1 < 2 ^ 32 → IsGraph operands (record { list = insert list i (made, op); made = made + 1 })
inserted_keeps {Op} operands list made i op graph within before few narrow =
    let entries : IsPermutation ((made, op) ∷ list) (insert list i (made, op)) = IsPermutation-insert list i (made, op) in
    let numbers : IsPermutation (made ∷ numbers_of list) (numbers_of (insert list i (made, op))) = IsPermutation-map (λ (entry : ℕ × Op). entry.0) _ _ entries in
    let below : (number : ℕ) → Holds list number → number < made = λ number there. All-contains (λ n. n < made) (numbers_of list) number graph.given there in
    let not_made : (number : ℕ) → place_of list number < length list → made ≢ number = λ number there same. (let less = below number (holds_from_place list number there) in omega arith) in
    let none_yet : length list ≤ place_of list made = elim (cases_lt (place_of list made) (length list)) [ inl there ↦ absurd (not_made made there refl) | inr past ↦ past ] in
    let place_new : place_of (insert list i (made, op)) made ≡ i = place_of_inserted list i made op within (omega arith) in
    record {
      earlier = λ user value user_op there holds.
          elim (first_or_later _ _ _ (Contains-permutation _ _ _ (IsPermutation-sym _ _ entries) there)) [
            | inl same ↦
                let P : ℕ × Op → Type 0 = λ e. Contains (operands e.1) value → StandsBefore (insert list i (made, op)) value e.0 in
                let placed : P (made, op) = λ held.
                let less = before value held in
                let stays = place_of-insert list i (made, op) value within (not_made value (omega arith)) in
                omega (arith, stays.0, place_new) in
                subst P same placed holds
            | inr old ↦
                let stands : StandsBefore list value user = graph.earlier user value user_op old holds in
                let last : place_of list user < length list = place_within list user (number_there list user user_op old) in
                before_after_insert list i (made, op) value user within (not_made value (omega arith)) (not_made user last) stands
          ];
      distinct = IsDistinct-IsPermutation eqb eqb-flips _ _ numbers (IsDistinct-cons eqb made (numbers_of list) (recursion_from_All _ (numbers_of list) (All-weaker (λ n. n < made) (λ n. eqb made n ≡ false) (λ n less. eqb-above made n less) (numbers_of list) graph.given)) graph.distinct);
      given = All-permutation (λ n. n < made + 1) _ _ numbers (All-cons (λ n. n < made + 1) made (numbers_of list) (omega arith) (All-weaker (λ n. n < made) (λ n. n < made + 1) (λ n less. omega arith) (numbers_of list) graph.given));
      narrow = narrow;
      fits = omega (arith, length-insert list i (made, op) within, graph.fits);
      few = All-permutation (λ entry. length (operands entry.1) < 2 ^ 32) _ _ entries (All-cons (λ entry. length (operands entry.1) < 2 ^ 32) (made, op) list few graph.few);
    }

-- a list is what is left of it, with what was taken away put in again
remove-insert : {X : Type 0} (xs : List X) (i : ℕ) (x : X) → i < length xs → x ≡ get_or xs i x → xs ≡ insert (remove xs i) i x
remove-insert [] i x within at = absurd (omega arith)
remove-insert (y ∷ ys) zero x within at = ap (λ z. z ∷ ys) (sym at)
remove-insert (y ∷ ys) (suc i) x within at = ap (λ zs. y ∷ zs) (remove-insert ys i x (omega arith) at)

-- an operation that none takes is taken away
pub erased_keeps : {Op : Type 0} (operands : Op → List ℕ) (list : List (ℕ × Op)) (made value : ℕ) (op : Op) → IsGraph operands (record { list = list; made = made }) → place_of list value < length list → (value, op) ≡ get_or list (place_of list value) (value, op) → ((user : ℕ) (user_op : Op) → Contains list (user, user_op) → Contains (operands user_op) value → ⊥) → IsGraph operands (record { list = remove list (place_of list value); made = made })
erased_keeps {Op} operands list made value op graph within at unused =
    let i = place_of list value in
    let rest = remove list i in
    let entries : IsPermutation list ((value, op) ∷ rest) = IsPermutation-remove list i (value, op) within at in
    let numbers : IsPermutation (numbers_of list) (value ∷ numbers_of rest) = IsPermutation-map (λ (entry : ℕ × Op). entry.0) _ _ entries in
    let apart : IsDistinct eqb (value ∷ numbers_of rest) = IsDistinct-IsPermutation eqb eqb-flips _ _ numbers graph.distinct in
    let differs : (number : ℕ) → Holds rest number → value ≢ number = λ number there same.
    (let apart_at : eqb value number ≡ false = All-contains (λ n. eqb value n ≡ false) (numbers_of rest) number (All-from_recursion _ (numbers_of rest) (IsDistinct-head eqb value (numbers_of rest) apart)) there in
    false≢true (sym apart_at ∙ eq-eqb value number same)) in
    let shorter : length rest + 1 ≡ length list = length-remove list i within in
    record {
      earlier = λ user number user_op there holds.
          let was_there : Contains list (user, user_op) = Contains-permutation _ _ _ (IsPermutation-sym _ _ entries) (later_there _ _ _ there) in
          let stood : StandsBefore list number user = graph.earlier user number user_op was_there holds in
          let other : value ≢ number = λ same. unused user user_op was_there (subst (Contains (operands user_op)) (sym same) holds) in
          let P : List (ℕ × Op) → Type 0 = λ l. StandsBefore l number user in
          before_before_insert rest i (value, op) number user (omega arith) other (differs user (number_there rest user user_op there)) (subst P (remove-insert list i (value, op) within at) stood);
      distinct = IsDistinct-tail eqb value (numbers_of rest) apart;
      given = All-tail (λ n. n < made) value (numbers_of rest) (All-permutation (λ n. n < made) _ _ numbers graph.given);
      narrow = graph.narrow;
      fits = omega (arith, graph.fits);
      few = All-tail (λ entry. length (operands entry.1) < 2 ^ 32) (value, op) rest (All-permutation (λ entry. length (operands entry.1) < 2 ^ 32) _ _ entries graph.few);
    }

-- an operation of a list whose operations were changed is one of the list, changed
pub changed_there : {Op : Type 0} (change : Op → Op) (list : List (ℕ × Op)) (user : ℕ) (op : Op) → Contains {X = ℕ × Op} (map (λ entry. (entry.0, change entry.1)) list) (user, op) → (was : Op) × Contains {X = ℕ × Op} list (user, was) × (op ≡ change was)
changed_there change [] user op (k, within, at) = absurd (omega arith)
changed_there change (entry ∷ rest) user op (zero, within, at) = (entry.1, (0, omega arith, ap (λ e. (e.0, entry.1)) at), sym (ap (λ e. e.1) at))
changed_there change (entry ∷ rest) user op (suc k, within, at) =
    let later = changed_there change rest user op (k, omega arith, at) in
    (later.0, later_there _ _ _ later.1, later.2)

-- a value of a list with one put for another is the one put, where the other was there, or was in the list
renamed_there : (from to : ℕ) (values : List ℕ) (value : ℕ) → Contains (map (renamed from to) values) value → ((value ≡ to) × Contains values from) ⊎ Contains values value
renamed_there from to [] value (k, within, at) = absurd (omega arith)
renamed_there from to (first ∷ rest) value (zero, within, at) =
    elim (eqb_tells first from) [
      | inl same ↦ let put = rw same.0 at at in inl (sym put, (0, omega arith, same.1))
      | inr other ↦ let stays = rw other.0 at at in inr (0, omega arith, stays)
    ]
renamed_there from to (first ∷ rest) value (suc k, within, at) =
    elim (renamed_there from to rest value (k, omega arith, at)) [
      | inl put ↦ inl (put.0, later_there _ _ _ put.1)
      | inr stays ↦ inr (later_there _ _ _ stays)
    ]

-- one value is put for another in each operand
pub renamed_keeps : {Op : Type 0} (operands : Op → List ℕ) (with_operands : Op → List ℕ → Op) (put_is_read : (op : Op) (values : List ℕ) → length values ≡ length (operands op) → operands (with_operands op values) ≡ values) (list : List (ℕ × Op)) (made from to : ℕ) → IsGraph operands (record { list = list; made = made }) → ((user : ℕ) (op : Op) → Contains list (user, op) → Contains (operands op) from → StandsBefore list to user) → IsGraph operands (record { list = renamed_list operands with_operands from to list; made = made })
renamed_keeps {Op} operands with_operands put_is_read list made from to graph before =
    let change : Op → Op = renamed_in operands with_operands from to in
    let new_operands : (op : Op) → operands (change op) ≡ map (renamed from to) (operands op) = λ op. put_is_read op (map (renamed from to) (operands op)) (length-map (operands op) (renamed from to)) in
    let same_numbers : numbers_of (map (λ (entry : ℕ × Op). (entry.0, change entry.1)) list) ≡ numbers_of list = numbers_of-map change list in
    record {
      earlier = λ user value op there holds.
          let was = changed_there change list user op there in
          let held : Contains (map (renamed from to) (operands was.0)) value = subst (λ (values : List ℕ). Contains values value) (ap operands was.2 ∙ new_operands was.0) holds in
          let stands : StandsBefore list value user = elim (renamed_there from to (operands was.0) value held) [
            | inl put ↦ subst (λ (v : ℕ). StandsBefore list v user) (sym put.0) (before user was.0 was.1 put.1)
            | inr stays ↦ graph.earlier user value was.0 was.1 stays
          ] in
          rw (place_of-map change list value, place_of-map change list user) stands;
      distinct = rw same_numbers graph.distinct;
      given = rw same_numbers graph.given;
      narrow = graph.narrow;
      fits = rw length-map graph.fits;
      few = All-map (λ entry. length (operands entry.1) < 2 ^ 32) (λ (entry : ℕ × Op). (entry.0, change entry.1)) list (All-weaker (λ entry. length (operands entry.1) < 2 ^ 32) (λ entry. length (operands (change entry.1)) < 2 ^ 32) (λ entry few. rw (new_operands entry.1, length-map) few) list graph.few);
    }

-- there is nothing to keep of no operations
pub none_kept : {Op : Type 0} (operands : Op → List ℕ) → IsGraph operands (record { list = []; made = 0 })
unfolding IsDistinct
none_kept operands = record {
  earlier = λ user value op there holds. absurd (omega (arith, there.1));
  distinct = tt;
  given = λ k d within. absurd (omega arith);
  narrow = lit< tt;
  fits = omega arith;
  few = λ k d within. absurd (omega arith);
}
