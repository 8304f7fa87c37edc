-- Trying items one after the other until one passes.
use Rattle.std.proofs.Common.{◌≡◌, ℕ, zero, suc, ◌+◌, ◌<◌, Bool, true, false, List, [], ◌∷◌, length, take, get_or, sym, ap, refl, ◌∙◌, subst, arith}
use Rattle.std.specs.Prelude.{Some, None, find}
use Rattle.std.specs.List.{AllByRecursion, position_or_len}

-- where none of those in front passes and this one does, it is the first
pub first_at : {A : Type 0} (p : A → Bool) (xs : List A) (i : ℕ) (d x : A) → i < length xs → x ≡ get_or xs i d → AllByRecursion (λ y. p y ≡ false) (take i xs) → p x ≡ true
    → (position_or_len p xs ≡ i) × (find p xs ≡ Some x)
first_at p [] i d x lt is none passes = absurd (omega (arith, lt))
first_at p (y ∷ xs) zero d x lt is none passes =
    let here : p y ≡ true = ap p (sym is) ∙ passes in
    (rw here refl, rw here (ap (λ z. Some z) (sym is)))
first_at p (y ∷ xs) (suc i) d x lt is none passes =
    let later = first_at p xs i d x (omega (arith, lt)) is none.1 passes in
    (rw none.0 (omega (arith, later.0)), rw none.0 later.1)

-- where none passes there is no first
pub none_passes : {A : Type 0} (p : A → Bool) (xs : List A) → AllByRecursion (λ y. p y ≡ false) xs → (position_or_len p xs ≡ length xs) × (find p xs ≡ None)
none_passes p [] none = (refl, refl)
none_passes p (y ∷ xs) none =
    let later = none_passes p xs none.1 in
    (rw none.0 (omega (arith, later.0)), rw none.0 later.1)

-- one more that does not pass
pub none_more : {A : Type 0} (P : A → Type 0) (xs : List A) (i : ℕ) (d : A) → i < length xs → AllByRecursion P (take i xs) → P (get_or xs i d) → AllByRecursion P (take (i + 1) xs)
none_more P [] i d lt all is = absurd (omega (arith, lt))
none_more P (y ∷ xs) zero d lt all is = (is, tt)
none_more P (y ∷ xs) (suc i) d lt all is =
    let later : AllByRecursion P (take (suc (i + 1)) (y ∷ xs)) = (all.0, none_more P xs i d (omega (arith, lt)) all.1 is) in
    let count : suc (i + 1) ≡ suc i + 1 = omega arith in
    subst (λ n. AllByRecursion P (take n (y ∷ xs))) count later

-- the place of the first that passes, where this one does not
pub place_later : {A : Type 0} (p : A → Bool) (x : A) (xs : List A) → p x ≡ false → position_or_len p (x ∷ xs) ≡ suc (position_or_len p xs)
place_later p x xs is = rw is (omega arith)

-- and where it does
pub place_here : {A : Type 0} (p : A → Bool) (x : A) (xs : List A) → p x ≡ true → position_or_len p (x ∷ xs) ≡ 0
place_here p x xs is = rw is refl
