-- Elements of lists, and what holds of all of them.
use Rattle.std.proofs.Common.{◌≡◌, ℕ, zero, suc, ◌+◌, ◌<◌, Bool, true, false, cond, ltb, List, [], ◌∷◌, ◌++◌, length, map, All, inl, inr, ◌⊎◌, sym, ap, refl, subst, arith}
use Rattle.std.specs.Prelude.{Contains}
use Rattle.std.specs.List.{AllByRecursion, enumerate_from, flat_map}
use Rattle.param_search.specs.declared.choices.Priced.{Priced}
use Rattle.param_search.specs.Choices.{put_by_cost, by_cost}

-- y is an element, by recursion
abbrev pub Has : {A : Type 0} → List A → A → Type 0
Has [] y = ⊥
Has (x ∷ xs) y = (x ≡ y) ⊎ Has xs y

pub contains_from : {A : Type 0} (xs : List A) (y : A) → Has xs y → Contains xs y
contains_from [] y has = absurd has
contains_from (x ∷ xs) y (inl e) = (0, omega arith, e)
contains_from (x ∷ xs) y (inr has) =
    let later = contains_from xs y has in
    (suc later.0, omega (arith, later.1), later.2)

pub all_at : {A : Type 0} (P : A → Type 0) (xs : List A) (y : A) → All P xs → Contains xs y → P y
all_at P xs y all at = subst P at.2 (all at.0 y at.1)

pub each_at : {A : Type 0} (P : A → Type 0) (xs : List A) (y : A) → AllByRecursion P xs → Has xs y → P y
each_at P [] y all has = absurd has
each_at P (x ∷ xs) y all (inl e) = subst P e all.0
each_at P (x ∷ xs) y all (inr has) = each_at P xs y all.1 has

pub all_append : {A : Type 0} (P : A → Type 0) (xs ys : List A) → AllByRecursion P xs → AllByRecursion P ys → AllByRecursion P (xs ++ ys)
all_append P [] ys first second = second
all_append P (x ∷ xs) ys first second = (first.0, all_append P xs ys first.1 second)

pub all_map : {A B : Type 0} (P : A → Type 0) (Q : B → Type 0) (f : A → B) → ((x : A) → P x → Q (f x)) → (xs : List A) → AllByRecursion P xs → AllByRecursion Q (map f xs)
all_map P Q f each [] all = tt
all_map P Q f each (x ∷ xs) all = (each x all.0, all_map P Q f each xs all.1)

pub all_flat : {A B : Type 0} (P : A → Type 0) (Q : B → Type 0) (f : A → List B) → ((x : A) → P x → AllByRecursion Q (f x)) → (xs : List A) → AllByRecursion P xs → AllByRecursion Q (flat_map f xs)
all_flat P Q f each [] all = tt
all_flat P Q f each (x ∷ xs) all = all_append Q (f x) (flat_map f xs) (each x all.0) (all_flat P Q f each xs all.1)

pub all_more : {A : Type 0} (P Q : A → Type 0) → ((x : A) → P x → Q x) → (xs : List A) → AllByRecursion P xs → AllByRecursion Q xs
all_more P Q each [] all = tt
all_more P Q each (x ∷ xs) all = (each x all.0, all_more P Q each xs all.1)

pub all_both : {A : Type 0} (P Q : A → Type 0) (xs : List A) → AllByRecursion P xs → AllByRecursion Q xs → AllByRecursion (λ x. P x × Q x) xs
all_both P Q [] first second = tt
all_both P Q (x ∷ xs) first second = ((first.0, second.0), all_both P Q xs first.1 second.1)

pub has_left : {A : Type 0} (xs ys : List A) (y : A) → Has xs y → Has (xs ++ ys) y
has_left [] ys y has = absurd has
has_left (x ∷ xs) ys y (inl e) = inl e
has_left (x ∷ xs) ys y (inr has) = inr (has_left xs ys y has)

pub has_right : {A : Type 0} (xs ys : List A) (y : A) → Has ys y → Has (xs ++ ys) y
has_right [] ys y has = has
has_right (x ∷ xs) ys y has = inr (has_right xs ys y has)

pub has_map : {A B : Type 0} (f : A → B) (xs : List A) (x : A) → Has xs x → Has (map f xs) (f x)
has_map f [] x has = absurd has
has_map f (z ∷ xs) x (inl e) = inl (ap f e)
has_map f (z ∷ xs) x (inr has) = inr (has_map f xs x has)

pub has_flat : {A B : Type 0} (f : A → List B) (xs : List A) (x : A) (y : B) → Has xs x → Has (f x) y → Has (flat_map f xs) y
has_flat f [] x y has there = absurd has
has_flat f (z ∷ xs) x y (inl e) there = has_left (f z) (flat_map f xs) y (subst (λ w. Has (f w) y) (sym e) there)
has_flat f (z ∷ xs) x y (inr has) there = has_right (f z) (flat_map f xs) y (has_flat f xs x y has there)

-- an entry with its place
pub has_entry : {X : Type 0} (n : ℕ) (xs : List X) (i : ℕ) → i < length xs → (x : X) × Has (enumerate_from n xs) (n + i, x)
has_entry n [] i lt = absurd (omega (arith, lt))
has_entry n (x ∷ xs) zero lt =
    let same : n ≡ n + zero = omega arith in
    (x, inl (ap (λ m. (m, x)) same))
has_entry n (x ∷ xs) (suc i) lt =
    let later = has_entry (n + 1) xs i (omega (arith, lt)) in
    let same : n + 1 + i ≡ n + suc i = omega arith in
    (later.0, inr (subst (λ m. Has (enumerate_from (n + 1) xs) (m, later.0)) same later.1))

-- ---- choices put in order

put_step : (P : Priced → Type 0) (c x : Priced) (xs others : List Priced) (test : Bool) → P c → P x → AllByRecursion P xs → AllByRecursion P others → AllByRecursion P (cond test (c ∷ x ∷ xs) (x ∷ others))
put_step P c x xs others true is first rest later = (is, (first, rest))
put_step P c x xs others false is first rest later = (first, later)

pub put_keeps : (P : Priced → Type 0) (c : Priced) (xs : List Priced) → P c → AllByRecursion P xs → AllByRecursion P (put_by_cost c xs)
put_keeps P c [] is all = (is, tt)
put_keeps P c (x ∷ xs) is all = put_step P c x xs (put_by_cost c xs) (ltb c.cost x.cost) is all.0 all.1 (put_keeps P c xs is all.1)

pub order_keeps : (P : Priced → Type 0) (ordered choices : List Priced) → AllByRecursion P ordered → AllByRecursion P choices → AllByRecursion P (by_cost ordered choices)
order_keeps P ordered [] all others = all
order_keeps P ordered (c ∷ choices) all others = order_keeps P (put_by_cost c ordered) choices (put_keeps P c ordered others.0 all) others.1

has_put_step : (c x : Priced) (xs others : List Priced) (test : Bool) → Has others c → Has (cond test (c ∷ x ∷ xs) (x ∷ others)) c
has_put_step c x xs others true later = inl refl
has_put_step c x xs others false later = inr later

has_put : (c : Priced) (xs : List Priced) → Has (put_by_cost c xs) c
has_put c [] = inl refl
has_put c (x ∷ xs) = has_put_step c x xs (put_by_cost c xs) (ltb c.cost x.cost) (has_put c xs)

still_step : (c x y : Priced) (xs others : List Priced) (test : Bool) → Has (x ∷ xs) y → (Has xs y → Has others y) → Has (cond test (c ∷ x ∷ xs) (x ∷ others)) y
still_step c x y xs others true has later = inr has
still_step c x y xs others false (inl e) later = inl e
still_step c x y xs others false (inr has) later = inr (later has)

still_has : (c y : Priced) (xs : List Priced) → Has xs y → Has (put_by_cost c xs) y
still_has c y [] has = absurd has
still_has c y (x ∷ xs) has = still_step c x y xs (put_by_cost c xs) (ltb c.cost x.cost) has (still_has c y xs)

order_has : (ordered choices : List Priced) (y : Priced) → Has ordered y ⊎ Has choices y → Has (by_cost ordered choices) y
order_has ordered [] y (inl has) = has
order_has ordered [] y (inr has) = absurd has
order_has ordered (c ∷ choices) y (inl has) = order_has (put_by_cost c ordered) choices y (inl (still_has c y ordered has))
order_has ordered (c ∷ choices) y (inr (inl e)) = order_has (put_by_cost c ordered) choices y (inl (subst (λ w. Has (put_by_cost c ordered) w) e (has_put c ordered)))
order_has ordered (c ∷ choices) y (inr (inr has)) = order_has (put_by_cost c ordered) choices y (inr has)

pub all_in_order : (choices : List Priced) (y : Priced) → Has choices y → Has (by_cost [] choices) y
all_in_order choices y has = order_has [] choices y (inr has)
