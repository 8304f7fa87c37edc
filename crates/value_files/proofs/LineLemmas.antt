-- Lines, one after the other.
use Rattle.std.proofs.Common.{cond, subst, T, int_le, ◌&&◌, ◌≡◌, ℕ, ◌+◌, ◌<◌, ◌≤◌, Bool, true, false, not, ℤ, List, [], ◌∷◌, ◌++◌, length, get_or, drop, Result, Ok, Err, refl, sym, ap, ◌∙◌, append_assoc, arith}
use Rattle.std.proofs.lemmas.List.{at_drop_more, length-drop, append-nil}
use Rattle.std.proofs.lemmas.Bool.{and_parts}
use Rattle.refusals.specs.Steps.{one_value, value_of_step, test_held}
use Rattle.forms.specs.Forms.{IsIn, AreIn}
use Rattle.refusals.specs.declared.refusal.Refusal.{Refusal}
use Rattle.refusals.specs.declared.refusal.Refusal.TheVariants.{Fault, Memory}
use Rattle.refusals.specs.Reading.{◌>>=◌, unless, Refuses}
use Rattle.value_files.specs.declared.fault.ValueFault.{ValueFault}
use Rattle.value_files.specs.declared.fault.ValueKind.TheVariants.{Few, Many, Range}
use Rattle.value_files.specs.Values.{value_fault, number_or, number_of, without_return, value_of, values_from, first_line, after_line, is_at_end}

-- what a test that held says of the bytes that are left
pub left_over : (b r : Bool) → r ≡ b → not r ≡ true → b ≡ false
left_over b true e held = absurd cc
left_over b false e held = sym e

-- ---- values that were read, in front of those that are still to be

abbrev pub with_front : List ℤ → Result (List ℤ) ValueFault → Result (List ℤ) ValueFault
with_front front read = read >>= λ values. Ok (front ++ values)

pub front_begins : (read : Result (List ℤ) ValueFault) → with_front [] read ≡ read
front_begins (Ok values) = refl
front_begins (Err fault) = refl

regroup : (front : List ℤ) (value : ℤ) (read : Result (List ℤ) ValueFault) → with_front front (read >>= λ others. Ok (value ∷ others)) ≡ with_front (front ++ value ∷ []) read
regroup front value (Ok others) = ap (λ (values : List ℤ). Ok values) (sym (append_assoc front (value ∷ []) others))
regroup front value (Err fault) = refl

pub goes_on : (front : List ℤ) (bytes : List ℕ) (ranges : List (ℤ × ℤ)) (line i : ℕ) (d : ℤ × ℤ) (value : ℤ) (total : Result (List ℤ) ValueFault) → i < length ranges
    → is_at_end bytes ≡ false → value_of line (get_or ranges i d) (first_line bytes) ≡ Ok value
    → with_front front (values_from line bytes (drop i ranges)) ≡ total → with_front (front ++ value ∷ []) (values_from (line + 1) (after_line bytes) (drop (i + 1) ranges)) ≡ total
unfolding values_from
goes_on front bytes ranges line i d value total inside left found so_far =
    let one : with_front front (values_from line bytes (get_or ranges i d ∷ drop (i + 1) ranges)) ≡ with_front front (values_from (line + 1) (after_line bytes) (drop (i + 1) ranges) >>= λ others. Ok (value ∷ others)) = rw (left, found) refl in
    sym (regroup front value (values_from (line + 1) (after_line bytes) (drop (i + 1) ranges))) ∙ sym one ∙ sym (at_drop_more (λ (rs : List (ℤ × ℤ)). with_front front (values_from line bytes rs)) ranges i d inside) ∙ so_far

few_ends : (front : List ℤ) (bytes : List ℕ) (ranges : List (ℤ × ℤ)) (line i : ℕ) (d : ℤ × ℤ) (total : Result (List ℤ) ValueFault) → i < length ranges
    → is_at_end bytes ≡ true → with_front front (values_from line bytes (drop i ranges)) ≡ total → total ≡ Err (value_fault line Few)
unfolding values_from
few_ends front bytes ranges line i d total inside ended so_far =
    let one : with_front front (values_from line bytes (get_or ranges i d ∷ drop (i + 1) ranges)) ≡ Err (value_fault line Few) = rw ended refl in
    sym so_far ∙ at_drop_more (λ (rs : List (ℤ × ℤ)). with_front front (values_from line bytes rs)) ranges i d inside ∙ one

-- a test that refused failed
failed_test : (fault other : ValueFault) (test : Bool) → unless test fault ≡ Err other → (test ≡ false) × (fault ≡ other)
failed_test fault other true e = absurd cc
failed_test fault other false e = (refl, cc)

not_false : (b : Bool) → not b ≡ false → b ≡ true
not_false true e = refl
not_false false e = absurd cc

pub few_refused : (refusal : Refusal ValueFault) (front : List ℤ) (bytes : List ℕ) (ranges : List (ℤ × ℤ)) (line i : ℕ) (d : ℤ × ℤ) (total : Result (List ℤ) ValueFault) → i < length ranges
    → Refuses refusal (unless (not (is_at_end bytes)) (value_fault line Few)) → with_front front (values_from line bytes (drop i ranges)) ≡ total → Refuses refusal total
few_refused Memory front bytes ranges line i d total inside failed so_far = tt
few_refused (Fault fault) front bytes ranges line i d total inside failed so_far =
    let t = failed_test (value_fault line Few) fault (not (is_at_end bytes)) failed in
    few_ends front bytes ranges line i d total inside (not_false (is_at_end bytes) t.0) so_far ∙ ap (λ (f : ValueFault). Err f) t.1

pub value_ends : (refusal : Refusal ValueFault) (front : List ℤ) (bytes : List ℕ) (ranges : List (ℤ × ℤ)) (line i : ℕ) (d : ℤ × ℤ) (total : Result (List ℤ) ValueFault) → i < length ranges
    → is_at_end bytes ≡ false → Refuses refusal (value_of line (get_or ranges i d) (first_line bytes))
    → with_front front (values_from line bytes (drop i ranges)) ≡ total → Refuses refusal total
unfolding values_from
value_ends Memory front bytes ranges line i d total inside left failed so_far = tt
value_ends (Fault fault) front bytes ranges line i d total inside left failed so_far =
    let one : with_front front (values_from line bytes (get_or ranges i d ∷ drop (i + 1) ranges)) ≡ Err fault = rw (left, failed) refl in
    sym so_far ∙ at_drop_more (λ (rs : List (ℤ × ℤ)). with_front front (values_from line bytes rs)) ranges i d inside ∙ one

at_last : (front : List ℤ) (bytes : List ℕ) (rest : List (ℤ × ℤ)) (line : ℕ) → length rest ≡ 0 → with_front front (values_from line bytes rest) ≡ with_front front (values_from line bytes [])
at_last front bytes [] line none = refl
at_last front bytes (range ∷ rest) line none = absurd (omega (arith, none))

many_ends : (front : List ℤ) (bytes : List ℕ) (ranges : List (ℤ × ℤ)) (line i : ℕ) (total : Result (List ℤ) ValueFault) → length ranges ≤ i
    → is_at_end bytes ≡ false → with_front front (values_from line bytes (drop i ranges)) ≡ total → total ≡ Err (value_fault line Many)
unfolding values_from
many_ends front bytes ranges line i total past left so_far =
    let one : with_front front (values_from line bytes []) ≡ Err (value_fault line Many) = rw left refl in
    sym so_far ∙ at_last front bytes (drop i ranges) line (omega (arith, length-drop i ranges, past)) ∙ one

pub many_refused : (refusal : Refusal ValueFault) (front : List ℤ) (bytes : List ℕ) (ranges : List (ℤ × ℤ)) (line i : ℕ) (total : Result (List ℤ) ValueFault) → length ranges ≤ i
    → Refuses refusal (unless (is_at_end bytes) (value_fault line Many)) → with_front front (values_from line bytes (drop i ranges)) ≡ total → Refuses refusal total
many_refused Memory front bytes ranges line i total past failed so_far = tt
many_refused (Fault fault) front bytes ranges line i total past failed so_far =
    let t = failed_test (value_fault line Many) fault (is_at_end bytes) failed in
    many_ends front bytes ranges line i total past t.0 so_far ∙ ap (λ (f : ValueFault). Err f) t.1

pub all_read : (front : List ℤ) (bytes : List ℕ) (ranges : List (ℤ × ℤ)) (line i : ℕ) (total : Result (List ℤ) ValueFault) → length ranges ≤ i
    → is_at_end bytes ≡ true → with_front front (values_from line bytes (drop i ranges)) ≡ total → total ≡ Ok front
unfolding values_from
all_read front bytes ranges line i total past ended so_far =
    let one : with_front front (values_from line bytes []) ≡ Ok front = rw ended (ap (λ (values : List ℤ). Ok values) (append-nil front)) in
    sym so_far ∙ at_last front bytes (drop i ranges) line (omega (arith, length-drop i ranges, past)) ∙ one

-- ---- ranges

some_is : {A : Type 0} (x y : A) → ◌≡◌ {A = Result A ValueFault} (Ok x) (Ok y) → x ≡ y
some_is {A} x y e = let read : Result A ValueFault = Ok y in one_value x read e

holds : (b : Bool) → b ≡ true → T b
holds true e = tt
holds false e = absurd cc

-- a value that was read lies in its range
value_within : (line : ℕ) (range : ℤ × ℤ) (bytes : List ℕ) (value : ℤ) → value_of line range bytes ≡ Ok value → IsIn range value
unfolding value_of
value_within line range bytes value read =
    let step = value_of_step (number_or line (number_of (without_return bytes))) (λ found. unless (int_le range.0 found && int_le found range.1) (value_fault line Range) >>= λ _. Ok found) value read in
    let held = test_held (int_le range.0 step.0 && int_le step.0 range.1) (value_fault line Range) (λ _. Ok step.0) value step.2 in
    let parts = and_parts (int_le range.0 step.0) (int_le step.0 range.1) held.0 in
    subst (IsIn range) (some_is step.0 value held.1) (record { least = record { le = holds (int_le range.0 step.0) parts.0 }; most = record { le = holds (int_le step.0 range.1) parts.1 } })

-- so do all
pub all_within : (line : ℕ) (bytes : List ℕ) (ranges : List (ℤ × ℤ)) (values : List ℤ) → values_from line bytes ranges ≡ Ok values → AreIn ranges values
unfolding values_from
all_within line bytes [] values read =
    elim (is_at_end bytes) as (λ b. cond b (Ok []) (Err (value_fault line Many)) ≡ Ok values → AreIn [] values) [
      | true ↦ λ e. subst (AreIn []) (some_is [] values e) tt
      | false ↦ λ e. absurd cc
    ] read
all_within line bytes (range ∷ ranges) values read =
    let left = test_held (not (is_at_end bytes)) (value_fault line Few) (λ _. value_of line range (first_line bytes) >>= λ value. values_from (line + 1) (after_line bytes) ranges >>= λ others. Ok (value ∷ others)) values read in
    let first = value_of_step (value_of line range (first_line bytes)) (λ value. values_from (line + 1) (after_line bytes) ranges >>= λ others. Ok (value ∷ others)) values left.1 in
    let others = value_of_step (values_from (line + 1) (after_line bytes) ranges) (λ others. Ok (first.0 ∷ others)) values first.2 in
    subst (AreIn (range ∷ ranges)) (some_is (first.0 ∷ others.0) values others.2) (value_within line range (first_line bytes) first.0 first.1, all_within (line + 1) (after_line bytes) ranges others.0 others.1)
