-- The place of the first pattern that is the same. These facts are proved on this page, so that each crate may cite them.
use Rattle.std.proofs.Common.{◌≡◌, ℕ, ◌+◌, ◌<◌, Bool, true, false, cond, List, [], ◌∷◌, length, refl, sym, arith}
use Rattle.std.specs.Prelude.{not, ◌||◌}
use Rattle.std.specs.List.{list_any, position_or_len}
use Rattle.std.proofs.lemmas.Bool.{false≢true}

none_by : (first : Bool) (rest : Bool) (place many : ℕ) → (first || rest) ≡ false → (rest ≡ false → place ≡ many)
    → cond (not first) (1 + place) 0 ≡ many + 1
none_by true rest place many none later = absurd (false≢true (sym none))
none_by false rest place many none later = omega (arith, later none)

-- none passes: the place behind all
pub place_none : {A : Type 0} (test : A → Bool) (xs : List A) → list_any test xs ≡ false → position_or_len test xs ≡ length xs
place_none test [] none = refl
place_none test (x ∷ xs) none =
    let behind = none_by (test x) (list_any test xs) (position_or_len test xs) (length xs) none (place_none test xs) in
    omega (arith, behind)

some_by : (first : Bool) (rest : Bool) (place many : ℕ) → (first || rest) ≡ true → (rest ≡ true → place < many)
    → cond (not first) (1 + place) 0 < many + 1
some_by true rest place many some later = omega arith
some_by false rest place many some later = omega (arith, later some)

-- some passes: a place among them
pub place_some : {A : Type 0} (test : A → Bool) (xs : List A) → list_any test xs ≡ true → position_or_len test xs < length xs
place_some test [] some = absurd (false≢true some)
place_some test (x ∷ xs) some =
    let among = some_by (test x) (list_any test xs) (position_or_len test xs) (length xs) some (place_some test xs) in
    omega (arith, among)
