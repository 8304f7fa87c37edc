-- uses that are sorted are so without one twice
use Rattle.std.proofs.Common.{◌≡◌, ℕ, ◌+◌, ◌≤◌, Bool, false, ◌&&◌, eqb, List, [], ◌∷◌, ◌++◌, get_or, refl, ap, ◌∙◌, inl, inr, arith}
use Rattle.std.specs.Ordering.{is_lt, nat_cmp, ordering_then}
use Rattle.std.specs.declared.cmp.Ordering.{Ordering}
use Rattle.std.specs.Cmp.{IsStrictWeakOrder}
use Rattle.std.specs.List.{IsDistinct, AllByRecursion}
use Rattle.std.specs.List.Sorted.{IsSorted}
use Rattle.std.proofs.lemmas.Bool.Decides.{eqb_tells, nat_tests}
use Rattle.std.proofs.lemmas.Cmp.{nat_cmp_total, on_total, then_total}
use Rattle.std.proofs.lemmas.List.Sorted.{ranks_by, sorted_far}
use Rattle.std.proofs.lemmas.Map.Keys.{apart_from_distinct}
use Rattle.ir_core.specs.Graph.{uses_from, uses_of, numbers_of, ComesBefore, AreSorted}

-- the order of the pairs, as the sort has it
abbrev pub use_cmp : ℕ × ℕ → ℕ × ℕ → Ordering
use_cmp a b = ordering_then (nat_cmp a.0 b.0) (nat_cmp a.1 b.1)

-- two uses are one
abbrev pub same_use : ℕ × ℕ → ℕ × ℕ → Bool
same_use a b = eqb a.0 b.0 && eqb a.1 b.1

pub same_use-flips : (a b : ℕ × ℕ) → same_use a b ≡ same_use b a
same_use-flips a b = grind (arith, nat_tests)

use_order : IsStrictWeakOrder (λ a b. is_lt (use_cmp a b))
use_order = ranks_by (then_total (on_total (λ (a : ℕ × ℕ). a.0) nat_cmp_total) (on_total (λ (a : ℕ × ℕ). a.1) nat_cmp_total)) (λ (a : ℕ × ℕ). a)

-- of two uses that are not one, that which is not greater comes before
comes_before : (a b : ℕ × ℕ) → is_lt (use_cmp b a) ≡ false → same_use a b ≡ false → ComesBefore a b
comes_before a b not_less apart = grind (arith, nat_tests)

pub sorted_once : (uses : List (ℕ × ℕ)) → IsSorted use_cmp uses → IsDistinct same_use uses → AreSorted uses
sorted_once uses sorted distinct i j d less within =
    comes_before (get_or uses i d) (get_or uses j d) (sorted_far (λ a b. is_lt (use_cmp a b)) use_order uses sorted i j d (omega arith) within) (apart_from_distinct same_use uses i j d distinct less within)

each_weaker : {X : Type 0} (P Q : X → Type 0) → ((x : X) → P x → Q x) → (xs : List X) → AllByRecursion P xs → AllByRecursion Q xs
each_weaker P Q weaker [] each = tt
each_weaker P Q weaker (x ∷ xs) each = (weaker x each.0, each_weaker P Q weaker xs each.1)

each_append : {X : Type 0} (P : X → Type 0) (xs ys : List X) → AllByRecursion P xs → AllByRecursion P ys → AllByRecursion P (xs ++ ys)
each_append P [] ys first last = last
each_append P (x ∷ xs) ys first last = (first.0, each_append P xs ys first.1 last)

distinct_append : {X : Type 0} (same : X → X → Bool) (xs ys : List X) → IsDistinct same xs → IsDistinct same ys → AllByRecursion (λ x. AllByRecursion (λ y. same x y ≡ false) ys) xs → IsDistinct same (xs ++ ys)
unfolding IsDistinct
distinct_append same [] ys first last apart = last
distinct_append same (x ∷ xs) ys first last apart = (each_append (λ y. same x y ≡ false) xs ys first.0 apart.0, distinct_append same xs ys first.1 last apart.1)

-- the uses by one operation have its number, and no place below the first
uses_from_low : (low place user : ℕ) (operands : List ℕ) (value : ℕ) → low ≤ place → AllByRecursion (λ (use_ : ℕ × ℕ). (use_.0 ≡ user) × (low ≤ use_.1)) (uses_from place user operands value)
uses_from_low low place user [] value above = tt
uses_from_low low place user (operand ∷ rest) value above =
    let later = uses_from_low low (place + 1) user rest value (omega arith) in
    elim (eqb_tells operand value) [ inl same ↦ rw same.0 ((refl, above), later) | inr other ↦ rw other.0 later ]

differing_places : (a b c : ℕ) (d : ℕ) → c ≡ a → b + 1 ≤ d → same_use (a, b) (c, d) ≡ false
differing_places a b c d same above = grind (arith, nat_tests)

-- no use by one operation stands twice
uses_from_distinct : (place user : ℕ) (operands : List ℕ) (value : ℕ) → IsDistinct same_use (uses_from place user operands value)
unfolding IsDistinct
uses_from_distinct place user [] value = tt
uses_from_distinct place user (operand ∷ rest) value =
    let later = uses_from_distinct (place + 1) user rest value in
    let above = uses_from_low (place + 1) (place + 1) user rest value (omega arith) in
    elim (eqb_tells operand value) [
      | inl same ↦ rw same.0 (each_weaker (λ (use_ : ℕ × ℕ). (use_.0 ≡ user) × (place + 1 ≤ use_.1)) (λ (use_ : ℕ × ℕ). same_use (user, place) use_ ≡ false) (λ use_ low. differing_places user place use_.0 use_.1 low.0 low.1) _ above, later)
      | inr other ↦ rw other.0 later
    ]

differing_users : (number : ℕ) (a b : ℕ × ℕ) → a.0 ≡ number → eqb number b.0 ≡ false → same_use a b ≡ false
differing_users number a b user other = grind (arith, nat_tests)

-- the users of a value are among the numbers
users_differ : {Op : Type 0} (operands : Op → List ℕ) (number : ℕ) (list : List (ℕ × Op)) (value : ℕ) → AllByRecursion (λ n. eqb number n ≡ false) (numbers_of list) → AllByRecursion (λ (use_ : ℕ × ℕ). eqb number use_.0 ≡ false) (uses_of operands list value)
users_differ operands number [] value each = tt
users_differ operands number (entry ∷ rest) value each =
    each_append (λ (use_ : ℕ × ℕ). eqb number use_.0 ≡ false) (uses_from 0 entry.0 (operands entry.1) value) (uses_of operands rest value)
    (each_weaker (λ (use_ : ℕ × ℕ). (use_.0 ≡ entry.0) × (0 ≤ use_.1)) (λ (use_ : ℕ × ℕ). eqb number use_.0 ≡ false) (λ use_ low. ap (eqb number) low.0 ∙ each.0) _ (uses_from_low 0 0 entry.0 (operands entry.1) value (omega arith)))
    (users_differ operands number rest value each.1)

-- no use stands twice where no number does
pub uses_of_distinct : {Op : Type 0} (operands : Op → List ℕ) (list : List (ℕ × Op)) (value : ℕ) → IsDistinct eqb (numbers_of list) → IsDistinct same_use (uses_of operands list value)
unfolding IsDistinct
uses_of_distinct operands [] value distinct = tt
uses_of_distinct operands (entry ∷ rest) value distinct =
    let others = users_differ operands entry.0 rest value distinct.0 in
    distinct_append same_use (uses_from 0 entry.0 (operands entry.1) value) (uses_of operands rest value) (uses_from_distinct 0 entry.0 (operands entry.1) value) (uses_of_distinct operands rest value distinct.1)
    (each_weaker (λ (use_ : ℕ × ℕ). (use_.0 ≡ entry.0) × (0 ≤ use_.1)) (λ (use_ : ℕ × ℕ). AllByRecursion (λ (w : ℕ × ℕ). same_use use_ w ≡ false) (uses_of operands rest value))
    (λ use_ low. each_weaker (λ (w : ℕ × ℕ). eqb entry.0 w.0 ≡ false) (λ (w : ℕ × ℕ). same_use use_ w ≡ false) (λ w other. differing_users entry.0 use_ w low.0 other) _ others)
    _ (uses_from_low 0 0 entry.0 (operands entry.1) value (omega arith)))
