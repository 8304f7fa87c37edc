-- Comparing ranges one after the other, as a loop does.
use Rattle.std.proofs.Common.{◌≡◌, ℕ, ◌+◌, ◌<◌, ◌≤◌, ℤ, List, [], ◌∷◌, length, get_or, drop, min, Ok, Err, refl, sym, ◌∙◌, arith, inl, inr}
use Rattle.std.proofs.lemmas.List.{at_drop_more, length-drop}
use Rattle.std.proofs.lemmas.Bool.{cases_lt}
use Rattle.refusals.specs.declared.refusal.Refusal.{Refusal}
use Rattle.refusals.specs.declared.refusal.Refusal.TheVariants.{Fault, Memory}
use Rattle.refusals.specs.Reading.{Refuses}
use Rattle.sealed_files.specs.declared.fault.FileFault.{FileFault}
use Rattle.sealed_files.specs.FrameReading.{Read}
use Rattle.cipher_files.specs.CipherFile.{same_range, same_ranges}

one_step : (lefts rights : List (ℤ × ℤ)) (i : ℕ) (d e : ℤ × ℤ) → i < length lefts → i < length rights
    → same_ranges (drop i lefts) (drop i rights) ≡ same_ranges (get_or lefts i d ∷ drop (i + 1) lefts) (get_or rights i e ∷ drop (i + 1) rights)
one_step lefts rights i d e in_left in_right =
    at_drop_more (λ (ls : List (ℤ × ℤ)). same_ranges ls (drop i rights)) lefts i d in_left ∙ at_drop_more (λ (rs : List (ℤ × ℤ)). same_ranges (get_or lefts i d ∷ drop (i + 1) lefts) rs) rights i e in_right

pub matches_go_on : (lefts rights : List (ℤ × ℤ)) (i : ℕ) (d e : ℤ × ℤ) (total : Read (Unit {0})) → i < length lefts → i < length rights → same_range (get_or lefts i d) (get_or rights i e) ≡ Ok tt
    → same_ranges (drop i lefts) (drop i rights) ≡ total → same_ranges (drop (i + 1) lefts) (drop (i + 1) rights) ≡ total
unfolding same_ranges
matches_go_on lefts rights i d e total in_left in_right found so_far =
    let one : same_ranges (get_or lefts i d ∷ drop (i + 1) lefts) (get_or rights i e ∷ drop (i + 1) rights) ≡ same_ranges (drop (i + 1) lefts) (drop (i + 1) rights) = rw found refl in
    sym one ∙ sym (one_step lefts rights i d e in_left in_right) ∙ so_far

pub matches_end : (refusal : Refusal FileFault) (lefts rights : List (ℤ × ℤ)) (i : ℕ) (d e : ℤ × ℤ) (total : Read (Unit {0})) → i < length lefts → i < length rights → Refuses refusal (same_range (get_or lefts i d) (get_or rights i e))
    → same_ranges (drop i lefts) (drop i rights) ≡ total → Refuses refusal total
unfolding same_ranges
matches_end Memory lefts rights i d e total in_left in_right failed so_far = tt
matches_end (Fault fault) lefts rights i d e total in_left in_right failed so_far =
    let one : same_ranges (get_or lefts i d ∷ drop (i + 1) lefts) (get_or rights i e ∷ drop (i + 1) rights) ≡ Err fault = rw failed refl in
    sym so_far ∙ one_step lefts rights i d e in_left in_right ∙ one

-- where one list is at its end
ended : (lefts rights : List (ℤ × ℤ)) → length lefts ≡ 0 → same_ranges lefts rights ≡ Ok tt
unfolding same_ranges
ended [] rights none = refl
ended (left ∷ lefts) rights none = absurd (omega (arith, none))

ended_right : (lefts rights : List (ℤ × ℤ)) → length rights ≡ 0 → same_ranges lefts rights ≡ Ok tt
unfolding same_ranges
ended_right [] rights none = refl
ended_right (left ∷ lefts) [] none = refl
ended_right (left ∷ lefts) (right ∷ rights) none = absurd (omega (arith, none))

pub matches_done : (lefts rights : List (ℤ × ℤ)) (i : ℕ) (total : Read (Unit {0})) → min (length lefts) (length rights) ≤ i → same_ranges (drop i lefts) (drop i rights) ≡ total → total ≡ Ok tt
matches_done lefts rights i total past so_far =
    elim (cases_lt (length lefts) (length rights)) [
      | inl lt ↦ sym so_far ∙ ended (drop i lefts) (drop i rights) (omega (arith, length-drop i lefts, past, lt))
      | inr le ↦ sym so_far ∙ ended_right (drop i lefts) (drop i rights) (omega (arith, length-drop i rights, past, le))
    ]
