-- What does not hang on leaves that are added, and how many terms there are. These facts are proved on this page, so that
-- each crate may cite them.
use Rattle.std.specs.Prelude.{◌≡◌, ℕ, ◌+◌, ◌<◌, ◌≤◌, List, [], ◌∷◌, ◌++◌, length, map, ℤ, pos, ◌+ℤ◌, ◌*ℤ◌, refl}
use Rattle.std.specs.List.{AllByRecursion}
use Rattle.std.proofs.Common.{get_or, ap, ◌∙◌, arith}
use Rattle.std.proofs.lemmas.List.{get_or_append_left}
use Rattle.std.proofs.lemmas.List.Elements.{recursion_from_All}
use Rattle.forms.specs.Forms.{int_sum, number_at, range_at, form_value, form_range, least_of_term, greatest_of_term, AreRising}
use Rattle.linear_forms.specs.Sound.{AreBelow}

-- terms that rise from this leaf on are no more than the leaves that are left
count_from : (low leaves : ℕ) (terms : List (ℕ × ℤ)) → AreRising low terms → AllByRecursion (λ (t : ℕ × ℤ). t.0 < leaves) terms → low ≤ leaves → length terms + low ≤ leaves
count_from low leaves [] rising below within = omega (arith, within)
count_from low leaves (t ∷ terms) rising below within =
    omega (arith, rising.0, count_from (t.0 + 1) leaves terms rising.1 below.1 (omega (arith, below.0)))

-- terms that rise are no more than their leaves
pub terms_count : (leaves : ℕ) (terms : List (ℕ × ℤ)) → AreRising 0 terms → AreBelow leaves terms → length terms ≤ leaves
terms_count leaves terms rising below =
    omega (arith, count_from 0 leaves terms rising (recursion_from_All (λ (t : ℕ × ℤ). t.0 < leaves) terms below) (omega arith))

-- the sum of numbers that are the same
map_same : {A : Type 0} (f g : A → ℤ) (xs : List A) → AllByRecursion (λ x. f x ≡ g x) xs → int_sum (map f xs) ≡ int_sum (map g xs)
map_same f g [] same = refl
map_same f g (x ∷ xs) same = ap (λ y. y +ℤ int_sum (map f xs)) same.0 ∙ ap (λ s. g x +ℤ s) (map_same f g xs same.1)

-- a value stays where leaves are added
pub value_stays : (constant : ℤ) (terms : List (ℕ × ℤ)) (values more : List ℤ) → AreBelow (length values) terms
    → form_value constant terms (values ++ more) ≡ form_value constant terms values
value_stays constant terms values more below =
    ap (λ s. constant +ℤ s) (map_same (λ (t : ℕ × ℤ). t.1 *ℤ number_at (values ++ more) t.0) (λ (t : ℕ × ℤ). t.1 *ℤ number_at values t.0) terms
    (recursion_from_All (λ (t : ℕ × ℤ). t.1 *ℤ number_at (values ++ more) t.0 ≡ t.1 *ℤ number_at values t.0) terms
    (λ k d within. ap (λ v. (get_or terms k d).1 *ℤ v) (get_or_append_left values more (pos 0) (get_or terms k d).0 (below k d within)))))

-- and so does a range
pub range_stays : (constant : ℤ) (terms : List (ℕ × ℤ)) (ranges more : List (ℤ × ℤ)) → AreBelow (length ranges) terms
    → form_range constant terms (ranges ++ more) ≡ form_range constant terms ranges
range_stays constant terms ranges more below =
    let at : (k : ℕ) (d : ℕ × ℤ) → k < length terms → range_at (ranges ++ more) (get_or terms k d).0 ≡ range_at ranges (get_or terms k d).0 =
    λ k d within. get_or_append_left ranges more (pos 0, pos 0) (get_or terms k d).0 (below k d within) in
    let least : int_sum (map (least_of_term (ranges ++ more)) terms) ≡ int_sum (map (least_of_term ranges) terms) =
    map_same (least_of_term (ranges ++ more)) (least_of_term ranges) terms
    (recursion_from_All (λ (t : ℕ × ℤ). least_of_term (ranges ++ more) t ≡ least_of_term ranges t) terms
    (λ k d within. rw (at k d within) refl)) in
    let greatest : int_sum (map (greatest_of_term (ranges ++ more)) terms) ≡ int_sum (map (greatest_of_term ranges) terms) =
    map_same (greatest_of_term (ranges ++ more)) (greatest_of_term ranges) terms
    (recursion_from_All (λ (t : ℕ × ℤ). greatest_of_term (ranges ++ more) t ≡ greatest_of_term ranges t) terms
    (λ k d within. rw (at k d within) refl)) in
    ap (λ s. (constant +ℤ s, constant +ℤ int_sum (map (greatest_of_term (ranges ++ more)) terms))) least
    ∙ ap (λ s. (constant +ℤ int_sum (map (least_of_term ranges) terms), constant +ℤ s)) greatest
