-- Values that are decoded, one after the other, as a loop does.
use Rattle.std.proofs.Common.{◌≡◌, ℕ, ◌+◌, ◌<◌, ◌≤◌, Bool, ℤ, List, [], ◌∷◌, ◌++◌, length, get_or, drop, Result, Ok, Err, refl, sym, ap, ◌∙◌, append_assoc, arith}
use Rattle.std.proofs.lemmas.List.{at_drop_more, length-drop, append-nil}
use Rattle.refusals.specs.declared.refusal.Refusal.{Refusal}
use Rattle.refusals.specs.declared.refusal.Refusal.TheVariants.{Fault, Memory}
use Rattle.refusals.specs.Reading.{◌>>=◌, Refuses}
use Rattle.value_files.specs.declared.fault.ValueFault.{ValueFault}
use Rattle.key_commands.specs.Decrypt.{value_at, values_at}

-- values that were decoded, in front of those that are still to be
abbrev pub with_front : List ℤ → Result (List ℤ) ValueFault → Result (List ℤ) ValueFault
with_front front read = read >>= λ values. Ok (front ++ values)

pub front_begins : (read : Result (List ℤ) ValueFault) → with_front [] read ≡ read
front_begins (Ok values) = refl
front_begins (Err fault) = refl

regroup : (front : List ℤ) (value : ℤ) (read : Result (List ℤ) ValueFault) → with_front front (read >>= λ others. Ok (value ∷ others)) ≡ with_front (front ++ value ∷ []) read
regroup front value (Ok others) = ap (λ (values : List ℤ). Ok values) (sym (append_assoc front (value ∷ []) others))
regroup front value (Err fault) = refl

at_place : (front : List ℤ) (line width : ℕ) (big : List Bool) (ranges : List (ℤ × ℤ)) (rows : List (List ℕ)) (i : ℕ) (d : ℤ × ℤ) (e : List ℕ) → i < length ranges → i < length rows
    → with_front front (values_at line width big (drop i ranges) (drop i rows)) ≡ with_front front (values_at line width big (get_or ranges i d ∷ drop (i + 1) ranges) (get_or rows i e ∷ drop (i + 1) rows))
at_place front line width big ranges rows i d e inside in_rows =
    at_drop_more (λ (rs : List (ℤ × ℤ)). with_front front (values_at line width big rs (drop i rows))) ranges i d inside
    ∙ at_drop_more (λ (ws : List (List ℕ)). with_front front (values_at line width big (get_or ranges i d ∷ drop (i + 1) ranges) ws)) rows i e in_rows

pub goes_on : (front : List ℤ) (line width : ℕ) (big : List Bool) (ranges : List (ℤ × ℤ)) (rows : List (List ℕ)) (i : ℕ) (d : ℤ × ℤ) (e : List ℕ) (value : ℤ) (total : Result (List ℤ) ValueFault) → i < length ranges → i < length rows
    → value_at line width big (get_or ranges i d) (get_or rows i e) ≡ Ok value
    → with_front front (values_at line width big (drop i ranges) (drop i rows)) ≡ total → with_front (front ++ value ∷ []) (values_at (line + 1) width big (drop (i + 1) ranges) (drop (i + 1) rows)) ≡ total
unfolding values_at
goes_on front line width big ranges rows i d e value total inside in_rows found so_far =
    let one : with_front front (values_at line width big (get_or ranges i d ∷ drop (i + 1) ranges) (get_or rows i e ∷ drop (i + 1) rows)) ≡ with_front front (values_at (line + 1) width big (drop (i + 1) ranges) (drop (i + 1) rows) >>= λ others. Ok (value ∷ others)) = rw found refl in
    sym (regroup front value (values_at (line + 1) width big (drop (i + 1) ranges) (drop (i + 1) rows))) ∙ sym one ∙ sym (at_place front line width big ranges rows i d e inside in_rows) ∙ so_far

pub value_ends : (refusal : Refusal ValueFault) (front : List ℤ) (line width : ℕ) (big : List Bool) (ranges : List (ℤ × ℤ)) (rows : List (List ℕ)) (i : ℕ) (d : ℤ × ℤ) (e : List ℕ) (total : Result (List ℤ) ValueFault) → i < length ranges → i < length rows
    → Refuses refusal (value_at line width big (get_or ranges i d) (get_or rows i e))
    → with_front front (values_at line width big (drop i ranges) (drop i rows)) ≡ total → Refuses refusal total
unfolding values_at
value_ends Memory front line width big ranges rows i d e total inside in_rows failed so_far = tt
value_ends (Fault fault) front line width big ranges rows i d e total inside in_rows failed so_far =
    let one : with_front front (values_at line width big (get_or ranges i d ∷ drop (i + 1) ranges) (get_or rows i e ∷ drop (i + 1) rows)) ≡ Err fault = rw failed refl in
    sym so_far ∙ at_place front line width big ranges rows i d e inside in_rows ∙ one

ended : (front : List ℤ) (line width : ℕ) (big : List Bool) (rest : List (ℤ × ℤ)) (rows : List (List ℕ)) → length rest ≡ 0 → with_front front (values_at line width big rest rows) ≡ Ok front
unfolding values_at
ended front line width big [] rows none = ap (λ (values : List ℤ). Ok values) (append-nil front)
ended front line width big (range ∷ rest) rows none = absurd (omega (arith, none))

pub all_decoded : (front : List ℤ) (line width : ℕ) (big : List Bool) (ranges : List (ℤ × ℤ)) (rows : List (List ℕ)) (i : ℕ) (total : Result (List ℤ) ValueFault) → length ranges ≤ i
    → with_front front (values_at line width big (drop i ranges) (drop i rows)) ≡ total → total ≡ Ok front
all_decoded front line width big ranges rows i total past so_far = sym so_far ∙ ended front line width big (drop i ranges) (drop i rows) (omega (arith, length-drop i ranges, past))
