-- The first element of an ordered list that passes a test.
use Rattle.std.proofs.Common.{◌≡◌, Bool, true, false, cond, List, [], ◌∷◌, take, Option, inl, inr, ◌⊎◌, sym, ap, refl, ◌∙◌, subst}
use Rattle.std.specs.Prelude.{Some, None, IfSome, find}
use Rattle.std.specs.List.{position_or_len}
use Rattle.param_search.specs.Laws.{EachToLater}
use Rattle.param_search.proofs.Members.{Has, each_at}
use Rattle.param_search.proofs.Trying.{place_later}

still_passes : {A : Type 0} (p : A → Bool) (x : A) (xs : List A) (found : Option A) → IfSome found (λ y. (p y ≡ true) × Has xs y) → IfSome found (λ y. (p y ≡ true) × Has (x ∷ xs) y)
still_passes p x xs (Some y) is = (is.0, inr is.1)
still_passes p x xs None is = tt

passes_step : {A : Type 0} (p : A → Bool) (x : A) (xs : List A) (test : Bool) → p x ≡ test → IfSome (find p xs) (λ y. (p y ≡ true) × Has xs y) → IfSome (cond test (Some x) (find p xs)) (λ y. (p y ≡ true) × Has (x ∷ xs) y)
passes_step p x xs true is later = (is, inl refl)
passes_step p x xs false is later = still_passes p x xs (find p xs) later

-- it passes, and is an element
pub first_passes : {A : Type 0} (p : A → Bool) (xs : List A) → IfSome (find p xs) (λ y. (p y ≡ true) × Has xs y)
first_passes p [] = tt
first_passes p (x ∷ xs) = passes_step p x xs (p x) refl (first_passes p xs)

not_both : (b : Bool) → b ≡ true → b ≡ false → ⊥
not_both true is not = absurd (let e = not in cc)
not_both false is not = absurd (let e = is in cc)

same_some : {A : Type 0} (a b : A) → Some a ≡ Some b → a ≡ b
same_some a b e = cc

-- each other that passes stands behind it
first_step : {A : Type 0} (R : A → A → Type 0) (p : A → Bool) (x y z : A) (xs : List A) (test : Bool) → p x ≡ test → EachToLater R (x ∷ xs) → cond test (Some x) (find p xs) ≡ Some z → Has (x ∷ xs) y → p y ≡ true
    → (find p xs ≡ Some z → Has xs y → (y ≡ z) ⊎ R z y) → (y ≡ z) ⊎ R z y
first_step R p x y z xs true is ordered e (inl same) passes later = inl (sym same ∙ same_some x z e)
first_step R p x y z xs true is ordered e (inr has) passes later =
    let same : x ≡ z = same_some x z e in
    inr (subst (λ w. R w y) same (each_at (R x) xs y ordered.0 has))
first_step R p x y z xs false is ordered e (inl same) passes later = absurd (not_both (p y) passes (ap p (sym same) ∙ is))
first_step R p x y z xs false is ordered e (inr has) passes later = later e has

pub first_before : {A : Type 0} (R : A → A → Type 0) (p : A → Bool) (xs : List A) (y z : A) → EachToLater R xs → find p xs ≡ Some z → Has xs y → p y ≡ true → (y ≡ z) ⊎ R z y
first_before R p [] y z ordered e has passes = absurd has
first_before R p (x ∷ xs) y z ordered e has passes = first_step R p x y z xs (p x) refl ordered e has passes (λ found there. first_before R p xs y z ordered.1 found there passes)

-- where none is found, none passes
none_step : {A : Type 0} (p : A → Bool) (x y : A) (xs : List A) (test : Bool) → p x ≡ test → cond test (Some x) (find p xs) ≡ None → Has (x ∷ xs) y → p y ≡ true → (find p xs ≡ None → Has xs y → ⊥) → ⊥
none_step p x y xs true is e has passes later = absurd (let e = e in cc)
none_step p x y xs false is e (inl same) passes later = not_both (p y) passes (ap p (sym same) ∙ is)
none_step p x y xs false is e (inr has) passes later = later e has

pub none_found : {A : Type 0} (p : A → Bool) (xs : List A) (y : A) → find p xs ≡ None → Has xs y → p y ≡ true → ⊥
none_found p [] y e has passes = absurd has
none_found p (x ∷ xs) y e has passes = none_step p x y xs (p x) refl e has passes (λ found there. none_found p xs y found there passes)

-- what goes before the one that is found is in front of it, and where none is found all is
front_step : {A : Type 0} (R : A → A → Type 0) (once : (a b : A) → R a b → R b a → ⊥) (p : A → Bool) (x y : A) (xs : List A) (test : Bool) → p x ≡ test → EachToLater R (x ∷ xs) → Has (x ∷ xs) y
    → IfSome (cond test (Some x) (find p xs)) (R y) → (Has xs y → IfSome (find p xs) (R y) → Has (take (position_or_len p xs) xs) y)
    → Has (take (position_or_len p (x ∷ xs)) (x ∷ xs)) y
front_step R once p x y xs true is ordered (inl same) before later =
    let self : R x x = subst (λ w. R w x) (sym same) before in
    absurd (once x x self self)
front_step R once p x y xs true is ordered (inr has) before later = absurd (once x y (each_at (R x) xs y ordered.0 has) before)
front_step R once p x y xs false is ordered (inl same) before later = subst (λ n. Has (take n (x ∷ xs)) y) (sym (place_later p x xs is)) (inl same)
front_step R once p x y xs false is ordered (inr has) before later = subst (λ n. Has (take n (x ∷ xs)) y) (sym (place_later p x xs is)) (inr (later has before))

pub in_front : {A : Type 0} (R : A → A → Type 0) (once : (a b : A) → R a b → R b a → ⊥) (p : A → Bool) (xs : List A) (y : A) → EachToLater R xs → Has xs y → IfSome (find p xs) (R y) → Has (take (position_or_len p xs) xs) y
in_front R once p [] y ordered has before = absurd has
in_front R once p (x ∷ xs) y ordered has before = front_step R once p x y xs (p x) refl ordered has before (λ there later. in_front R once p xs y ordered.1 there later)
