-- The choices stand in order: each goes before those behind it.
use Rattle.std.proofs.Common.{◌≡◌, ℕ, ◌+◌, ◌<◌, ◌≤◌, Bool, true, false, cond, ltb, List, [], ◌∷◌, ◌++◌, map, inl, inr, sym, refl, ◌∙◌, arith}
use Rattle.std.specs.List.{enumerate_from, flat_map, AllByRecursion}
use Rattle.std.proofs.lemmas.Bool.{ltb-true, ltb-false}
use Rattle.fhe_params.specs.declared.table.Table.{Table}
use Rattle.fhe_params.specs.declared.table.Choice.{Choice}
use Rattle.fhe_params.specs.declared.table.Counts.{Counts}
use Rattle.param_search.specs.declared.choices.Priced.{Priced}
use Rattle.param_search.specs.Choices.{price_of, choice_at, switch_choices, boot_choices, lwe_choices, all_choices, put_by_cost, by_cost, choices_in_order}
use Rattle.param_search.specs.Laws.{HasLowerPlaces, GoesBefore, EachToLater}
use Rattle.param_search.proofs.Members.{all_append, all_map, all_flat, all_more, all_both, put_keeps}

-- ---- lists made of the entries of a list, each part by the place of its entry

entries_from : {X : Type 0} (m n : ℕ) (xs : List X) → m ≤ n → AllByRecursion (λ (e : ℕ × X). m ≤ e.0) (enumerate_from n xs)
entries_from m n [] le = tt
entries_from m n (x ∷ xs) le = (le, entries_from m (n + 1) xs (omega (arith, le)))

pairs_append : {A : Type 0} (R : A → A → Type 0) (xs ys : List A) → EachToLater R xs → EachToLater R ys → AllByRecursion (λ x. AllByRecursion (R x) ys) xs → EachToLater R (xs ++ ys)
pairs_append R [] ys first second across = second
pairs_append R (x ∷ xs) ys first second across = (all_append (R x) xs ys first.0 across.0, pairs_append R xs ys first.1 second across.1)

pub pairs_map : {X B : Type 0} (R : B → B → Type 0) (f : ℕ × X → B) → ((d e : ℕ × X) → d.0 < e.0 → R (f d) (f e)) → (n : ℕ) (xs : List X) → EachToLater R (map f (enumerate_from n xs))
pairs_map R f later n [] = tt
pairs_map {X} R f later n (x ∷ xs) = (
  all_map (λ (e : ℕ × X). n + 1 ≤ e.0) (R (f (n, x))) f (λ e le. later (n, x) e (omega (arith, le))) (enumerate_from (n + 1) xs) (entries_from (n + 1) (n + 1) xs (omega arith)),
  pairs_map R f later (n + 1) xs,
)

-- what is of a part is told by the place of its entry
pub pairs_flat : {X B : Type 0} (R : B → B → Type 0) (At : ℕ → B → Type 0) (f : ℕ × X → List B)
    → ((e : ℕ × X) → EachToLater R (f e)) → ((e : ℕ × X) → AllByRecursion (At e.0) (f e)) → ((m n : ℕ) (x y : B) → m < n → At m x → At n y → R x y)
    → (n : ℕ) (xs : List X) → EachToLater R (flat_map f (enumerate_from n xs))
pairs_flat R At f within at across n [] = tt
pairs_flat {X} {B} R At f within at across n (x ∷ xs) =
    pairs_append R (f (n, x)) (flat_map f (enumerate_from (n + 1) xs)) (within (n, x)) (pairs_flat R At f within at across (n + 1) xs)
    (all_more (At n) (λ y. AllByRecursion (R y) (flat_map f (enumerate_from (n + 1) xs)))
    (λ y is. all_flat (λ (e : ℕ × X). n + 1 ≤ e.0) (R y) f
    (λ e le. all_more (At e.0) (R y) (λ z there. across n e.0 y z (omega (arith, le)) is there) (f e) (at e))
    (enumerate_from (n + 1) xs) (entries_from (n + 1) (n + 1) xs (omega arith)))
    (f (n, x)) (at (n, x)))

-- ---- all choices, ordered by places

abbrev pub LowerPlaces : Priced → Priced → Type 0
LowerPlaces a b = HasLowerPlaces a.choice b.choice

-- choices with these places in front
record AtGlwe (glwe : ℕ) (p : Priced) : Type 0 where
  glwe_is : p.choice.glwe ≡ glwe

record AtLwe (glwe lwe : ℕ) (p : Priced) : Type 0 where
  glwe_is : p.choice.glwe ≡ glwe
  lwe_is : p.choice.lwe ≡ lwe

record AtBoot (glwe lwe boot : ℕ) (p : Priced) : Type 0 where
  glwe_is : p.choice.glwe ≡ glwe
  lwe_is : p.choice.lwe ≡ lwe
  boot_is : p.choice.boot ≡ boot

all_always : {A : Type 0} (P : A → Type 0) → ((x : A) → P x) → (xs : List A) → AllByRecursion P xs
all_always P each [] = tt
all_always P each (x ∷ xs) = (each x, all_always P each xs)

at_boot : (table : Table) (counts : Counts) (glwe lwe boot : ℕ) → AllByRecursion (AtBoot glwe lwe boot) (switch_choices table counts glwe lwe boot)
at_boot table counts glwe lwe boot =
    all_map (λ e. Unit {0}) (AtBoot glwe lwe boot) (λ switch. price_of table counts (choice_at glwe lwe boot switch.0))
    (λ e is. record { glwe_is = refl; lwe_is = refl; boot_is = refl }) (enumerate_from 0 table.switch) (all_always (λ e. Unit {0}) (λ e. tt) (enumerate_from 0 table.switch))

at_lwe : (table : Table) (counts : Counts) (glwe lwe : ℕ) → AllByRecursion (AtLwe glwe lwe) (boot_choices table counts glwe lwe)
at_lwe table counts glwe lwe =
    all_flat (λ e. Unit {0}) (AtLwe glwe lwe) (λ boot. switch_choices table counts glwe lwe boot.0)
    (λ e is. all_more (AtBoot glwe lwe e.0) (AtLwe glwe lwe) (λ p at. record { glwe_is = at.glwe_is; lwe_is = at.lwe_is }) (switch_choices table counts glwe lwe e.0) (at_boot table counts glwe lwe e.0))
    (enumerate_from 0 table.boot) (all_always (λ e. Unit {0}) (λ e. tt) (enumerate_from 0 table.boot))

at_glwe : (table : Table) (counts : Counts) (glwe : ℕ) → AllByRecursion (AtGlwe glwe) (lwe_choices table counts glwe)
at_glwe table counts glwe =
    all_flat (λ e. Unit {0}) (AtGlwe glwe) (λ lwe. boot_choices table counts glwe lwe.0)
    (λ e is. all_more (AtLwe glwe e.0) (AtGlwe glwe) (λ p at. record { glwe_is = at.glwe_is }) (boot_choices table counts glwe e.0) (at_lwe table counts glwe e.0))
    (enumerate_from 0 table.lwe) (all_always (λ e. Unit {0}) (λ e. tt) (enumerate_from 0 table.lwe))

switches_ordered : (table : Table) (counts : Counts) (glwe lwe boot : ℕ) → EachToLater LowerPlaces (switch_choices table counts glwe lwe boot)
switches_ordered table counts glwe lwe boot =
    pairs_map LowerPlaces (λ switch. price_of table counts (choice_at glwe lwe boot switch.0)) (λ d e lt. inr (refl, inr (refl, inr (refl, lt)))) 0 table.switch

boots_ordered : (table : Table) (counts : Counts) (glwe lwe : ℕ) → EachToLater LowerPlaces (boot_choices table counts glwe lwe)
boots_ordered table counts glwe lwe =
    pairs_flat LowerPlaces (AtBoot glwe lwe) (λ boot. switch_choices table counts glwe lwe boot.0)
    (λ e. switches_ordered table counts glwe lwe e.0) (λ e. at_boot table counts glwe lwe e.0)
    (λ m n x y lt a b. inr (a.glwe_is ∙ sym b.glwe_is, inr (a.lwe_is ∙ sym b.lwe_is, inl (omega (arith, lt, a.boot_is, b.boot_is))))) 0 table.boot

lwes_ordered : (table : Table) (counts : Counts) (glwe : ℕ) → EachToLater LowerPlaces (lwe_choices table counts glwe)
lwes_ordered table counts glwe =
    pairs_flat LowerPlaces (AtLwe glwe) (λ lwe. boot_choices table counts glwe lwe.0)
    (λ e. boots_ordered table counts glwe e.0) (λ e. at_lwe table counts glwe e.0)
    (λ m n x y lt a b. inr (a.glwe_is ∙ sym b.glwe_is, inl (omega (arith, lt, a.lwe_is, b.lwe_is)))) 0 table.lwe

places_ordered : (table : Table) (counts : Counts) → EachToLater LowerPlaces (all_choices table counts)
places_ordered table counts =
    pairs_flat LowerPlaces AtGlwe (λ glwe. lwe_choices table counts glwe.0)
    (λ e. lwes_ordered table counts e.0) (λ e. at_glwe table counts e.0)
    (λ m n x y lt a b. inl (omega (arith, lt, a.glwe_is, b.glwe_is))) 0 table.glwe

-- ---- put by cost

cost_le : (a b : Priced) → GoesBefore a b → a.cost ≤ b.cost
cost_le a b (inl lt) = omega (arith, lt)
cost_le a b (inr same) = omega (arith, same.0)

places_step : (a b : Priced) (test : Bool) → ltb a.cost b.cost ≡ test → a.cost ≤ b.cost → LowerPlaces a b → GoesBefore a b
places_step a b true is le lower = inl (ltb-true a.cost b.cost is)
places_step a b false is le lower = inr (omega (arith, le, ltb-false a.cost b.cost is), lower)

by_places : (a b : Priced) → a.cost ≤ b.cost → LowerPlaces a b → GoesBefore a b
by_places a b le lower = places_step a b (ltb a.cost b.cost) refl le lower

put_step : (c x : Priced) (xs : List Priced) (test : Bool) → ltb c.cost x.cost ≡ test → EachToLater GoesBefore (x ∷ xs) → AllByRecursion (λ y. LowerPlaces y c) (x ∷ xs)
    → EachToLater GoesBefore (put_by_cost c xs) → EachToLater GoesBefore (cond test (c ∷ x ∷ xs) (x ∷ put_by_cost c xs))
put_step c x xs true is ordered lower later =
    let lt = ltb-true c.cost x.cost is in
    ((inl lt, all_more (GoesBefore x) (GoesBefore c) (λ y before. inl (omega (arith, lt, cost_le x y before))) xs ordered.0), ordered)
put_step c x xs false is ordered lower later =
    (put_keeps (GoesBefore x) c xs (by_places x c (ltb-false c.cost x.cost is) lower.0) ordered.0, later)

put_ordered : (c : Priced) (xs : List Priced) → EachToLater GoesBefore xs → AllByRecursion (λ y. LowerPlaces y c) xs → EachToLater GoesBefore (put_by_cost c xs)
put_ordered c [] ordered lower = (tt, tt)
put_ordered c (x ∷ xs) ordered lower = put_step c x xs (ltb c.cost x.cost) refl ordered lower (put_ordered c xs ordered.1 lower.1)

-- all of a list have lower places than one
abbrev AllLower : List Priced → Priced → Type 0
AllLower ordered c = AllByRecursion (λ y. LowerPlaces y c) ordered

order_ordered : (ordered choices : List Priced) → EachToLater GoesBefore ordered → EachToLater LowerPlaces choices → AllByRecursion (AllLower ordered) choices → EachToLater GoesBefore (by_cost ordered choices)
order_ordered ordered [] up places lower = up
order_ordered ordered (c ∷ choices) up places lower =
    order_ordered (put_by_cost c ordered) choices (put_ordered c ordered up lower.0) places.1
    (all_more (λ d. LowerPlaces c d × AllLower ordered d) (AllLower (put_by_cost c ordered)) (λ d both. put_keeps (λ y. LowerPlaces y d) c ordered both.0 both.1)
    choices (all_both (LowerPlaces c) (AllLower ordered) choices places.0 lower.1))

pub choices_ordered : (table : Table) (counts : Counts) → EachToLater GoesBefore (choices_in_order table counts)
unfolding choices_in_order
choices_ordered table counts = order_ordered [] (all_choices table counts) tt (places_ordered table counts) (all_always (AllLower []) (λ d. tt) (all_choices table counts))

-- ---- none goes before itself, and of two one at most before the other

places_once : (a b : Choice) → HasLowerPlaces a b → HasLowerPlaces b a → ⊥
places_once a b (inl x) (inl y) = absurd (omega (arith, x, y))
places_once a b (inl x) (inr y) = absurd (omega (arith, x, y.0))
places_once a b (inr x) (inl y) = absurd (omega (arith, x.0, y))
places_once a b (inr (e, inl x)) (inr (f, inl y)) = absurd (omega (arith, x, y))
places_once a b (inr (e, inl x)) (inr (f, inr y)) = absurd (omega (arith, x, y.0))
places_once a b (inr (e, inr x)) (inr (f, inl y)) = absurd (omega (arith, x.0, y))
places_once a b (inr (e, inr (g, inl x))) (inr (f, inr (h, inl y))) = absurd (omega (arith, x, y))
places_once a b (inr (e, inr (g, inl x))) (inr (f, inr (h, inr y))) = absurd (omega (arith, x, y.0))
places_once a b (inr (e, inr (g, inr x))) (inr (f, inr (h, inl y))) = absurd (omega (arith, x.0, y))
places_once a b (inr (e, inr (g, inr x))) (inr (f, inr (h, inr y))) = absurd (omega (arith, x.1, y.1))

pub before_once : (a b : Priced) → GoesBefore a b → GoesBefore b a → ⊥
before_once a b (inl x) (inl y) = absurd (omega (arith, x, y))
before_once a b (inl x) (inr y) = absurd (omega (arith, x, y.0))
before_once a b (inr x) (inl y) = absurd (omega (arith, x.0, y))
before_once a b (inr x) (inr y) = places_once a.choice b.choice x.1 y.1
