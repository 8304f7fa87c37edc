-- A stable sort by cost is the list in which each choice was put behind those that cost no more.
use Rattle.std.proofs.Common.{◌≡◌, ℕ, suc, ◌<◌, ◌≤◌, Bool, true, false, cond, ltb, List, [], ◌∷◌, ◌++◌, length, filter, sym, ap, refl, ◌∙◌, subst, arith}
use Rattle.std.specs.List.{AllByRecursion, slice_index_or}
use Rattle.std.specs.List.Sorted.{IsNonDecreasingBy}
use Rattle.std.proofs.lemmas.Bool.{ltb-true, ltb-false}
use Rattle.std.proofs.lemmas.List.{append-nil, append_assoc}
use Rattle.std.proofs.lemmas.List.Elements.{filter-append}
use Rattle.param_search.specs.declared.choices.Priced.{Priced}
use Rattle.param_search.specs.Choices.{put_by_cost, by_cost}

-- none costs more than one behind it
abbrev pub Rising : List Priced → Type 0
Rising [] = Unit {0}
Rising (x ∷ xs) = AllByRecursion (λ y. x.cost ≤ y.cost) xs × Rising xs

-- a test tells those of one cost
abbrev pub TellsCosts : (Priced → Priced → Bool) → Type 0
TellsCosts tie = (x y : Priced) → (tie x y ≡ true → x.cost ≡ y.cost) × (x.cost ≡ y.cost → tie x y ≡ true)

-- ---- one order alone

no_first : {A : Type 0} (x : A) (xs : List A) → [] ≡ x ∷ xs → ⊥
no_first x xs e = absurd cc

kept_first : {A : Type 0} (test : Bool) (x : A) (xs : List A) → test ≡ true → cond test (x ∷ xs) xs ≡ x ∷ xs
kept_first test x xs e = rw e refl

heads : {A : Type 0} (x y : A) (xs ys : List A) → x ∷ xs ≡ y ∷ ys → (x ≡ y) × (xs ≡ ys)
heads x y xs ys e = (cc, cc)

tail_kept : {A : Type 0} (test : Bool) (x : A) (xs ys : List A) → cond test (x ∷ xs) xs ≡ cond test (x ∷ ys) ys → xs ≡ ys
tail_kept true x xs ys e = (heads x x xs ys e).1
tail_kept false x xs ys e = e

some_step : (m : ℕ) (tie : Priced → Priced → Bool) → TellsCosts tie → (y z : Priced) (zs : List Priced) (w : Priced) (ws : List Priced) (test : Bool) → tie y z ≡ test → m ≤ z.cost
    → (filter (tie y) zs ≡ w ∷ ws → m ≤ y.cost) → cond test (z ∷ filter (tie y) zs) (filter (tie y) zs) ≡ w ∷ ws → m ≤ y.cost
some_step m tie tells y z zs w ws true is le later e = omega (arith, le, (tells y z).0 is)
some_step m tie tells y z zs w ws false is le later e = later e

some_tied : (m : ℕ) (tie : Priced → Priced → Bool) → TellsCosts tie → (y : Priced) (zs : List Priced) (w : Priced) (ws : List Priced) → AllByRecursion (λ z. m ≤ z.cost) zs → filter (tie y) zs ≡ w ∷ ws → m ≤ y.cost
some_tied m tie tells y [] w ws all e = absurd (no_first w ws e)
some_tied m tie tells y (z ∷ zs) w ws all e = some_step m tie tells y z zs w ws (tie y z) refl all.0 (some_tied m tie tells y zs w ws all.1) e

pub one_order : (tie : Priced → Priced → Bool) → TellsCosts tie → (xs ys : List Priced) → Rising xs → Rising ys → ((x : Priced) → filter (tie x) xs ≡ filter (tie x) ys) → xs ≡ ys
one_order tie tells [] [] up_x up_y same = refl
one_order tie tells [] (y ∷ ys) up_x up_y same = absurd (no_first y (filter (tie y) ys) (same y ∙ kept_first (tie y y) y (filter (tie y) ys) ((tells y y).1 refl)))
one_order tie tells (x ∷ xs) [] up_x up_y same = absurd (no_first x (filter (tie x) xs) (sym (same x) ∙ kept_first (tie x x) x (filter (tie x) xs) ((tells x x).1 refl)))
one_order tie tells (x ∷ xs) (y ∷ ys) up_x up_y same =
    let low : x.cost ≤ y.cost = some_tied x.cost tie tells y (x ∷ xs) y (filter (tie y) ys) (omega arith, up_x.0) (same y ∙ kept_first (tie y y) y (filter (tie y) ys) ((tells y y).1 refl)) in
    let high : y.cost ≤ x.cost = some_tied y.cost tie tells x (y ∷ ys) x (filter (tie x) xs) (omega arith, up_y.0) (sym (same x) ∙ kept_first (tie x x) x (filter (tie x) xs) ((tells x x).1 refl)) in
    let costs : x.cost ≡ y.cost = omega (arith, low, high) in
    let both = heads x y (filter (tie x) xs) (filter (tie x) ys) (sym (kept_first (tie x x) x (filter (tie x) xs) ((tells x x).1 refl)) ∙ same x ∙ kept_first (tie x y) y (filter (tie x) ys) ((tells x y).1 costs)) in
    let others : (z : Priced) → filter (tie z) xs ≡ filter (tie z) ys = λ z. tail_kept (tie z x) x (filter (tie z) xs) (filter (tie z) ys) (same z ∙ ap (λ v. cond (tie z v) (v ∷ filter (tie z) ys) (filter (tie z) ys)) (sym both.0)) in
    rw (both.0, one_order tie tells xs ys up_x.1 up_y.1 others) refl

-- ---- putting choices in order

all_least : (m n : ℕ) (xs : List Priced) → m ≤ n → AllByRecursion (λ y. n ≤ y.cost) xs → AllByRecursion (λ y. m ≤ y.cost) xs
all_least m n [] le all = tt
all_least m n (x ∷ xs) le all = (omega (arith, le, all.0), all_least m n xs le all.1)

all_put_step : (m : ℕ) (c x : Priced) (xs others : List Priced) (test : Bool) → m ≤ c.cost → AllByRecursion (λ y. m ≤ y.cost) (x ∷ xs) → AllByRecursion (λ y. m ≤ y.cost) others → AllByRecursion (λ y. m ≤ y.cost) (cond test (c ∷ x ∷ xs) (x ∷ others))
all_put_step m c x xs others true le all later = (le, all)
all_put_step m c x xs others false le all later = (all.0, later)

all_put : (m : ℕ) (c : Priced) (xs : List Priced) → m ≤ c.cost → AllByRecursion (λ y. m ≤ y.cost) xs → AllByRecursion (λ y. m ≤ y.cost) (put_by_cost c xs)
all_put m c [] le all = (le, tt)
all_put m c (x ∷ xs) le all = all_put_step m c x xs (put_by_cost c xs) (ltb c.cost x.cost) le all (all_put m c xs le all.1)

rising_put_step : (c x : Priced) (xs : List Priced) (test : Bool) → ltb c.cost x.cost ≡ test → Rising (x ∷ xs) → Rising (put_by_cost c xs) → Rising (cond test (c ∷ x ∷ xs) (x ∷ put_by_cost c xs))
rising_put_step c x xs true is up later =
    let lt = ltb-true c.cost x.cost is in
    ((omega (arith, lt), all_least c.cost x.cost xs (omega (arith, lt)) up.0), up)
rising_put_step c x xs false is up later = (all_put x.cost c xs (ltb-false c.cost x.cost is) up.0, later)

rising_put : (c : Priced) (xs : List Priced) → Rising xs → Rising (put_by_cost c xs)
rising_put c [] up = (tt, tt)
rising_put c (x ∷ xs) up = rising_put_step c x xs (ltb c.cost x.cost) refl up (rising_put c xs up.1)

-- none ties with one that costs less than all
none_tied_step : (tie : Priced → Priced → Bool) → TellsCosts tie → (z x : Priced) (xs : List Priced) (test : Bool) → tie z x ≡ test → suc z.cost ≤ x.cost → filter (tie z) xs ≡ [] → cond test (x ∷ filter (tie z) xs) (filter (tie z) xs) ≡ []
none_tied_step tie tells z x xs true is above later = absurd (omega (arith, above, (tells z x).0 is))
none_tied_step tie tells z x xs false is above later = later

none_tied : (tie : Priced → Priced → Bool) → TellsCosts tie → (z : Priced) (xs : List Priced) → AllByRecursion (λ y. suc z.cost ≤ y.cost) xs → filter (tie z) xs ≡ []
none_tied tie tells z [] all = refl
none_tied tie tells z (x ∷ xs) all = none_tied_step tie tells z x xs (tie z x) refl all.0 (none_tied tie tells z xs all.1)

last_tied : (tie : Priced → Priced → Bool) → TellsCosts tie → (z c : Priced) (xs : List Priced) (test : Bool) → tie z c ≡ test → AllByRecursion (λ y. suc c.cost ≤ y.cost) xs → cond test (c ∷ filter (tie z) xs) (filter (tie z) xs) ≡ filter (tie z) xs ++ cond test (c ∷ []) []
last_tied tie tells z c xs true is all =
    let none = none_tied tie tells z xs (subst (λ n. AllByRecursion (λ y. suc n ≤ y.cost) xs) (sym ((tells z c).0 is)) all) in
    rw none refl
last_tied tie tells z c xs false is all = sym (append-nil (filter (tie z) xs))

all_above : (m n : ℕ) (xs : List Priced) → m < n → AllByRecursion (λ y. n ≤ y.cost) xs → AllByRecursion (λ y. suc m ≤ y.cost) xs
all_above m n [] lt all = tt
all_above m n (x ∷ xs) lt all = (omega (arith, lt, all.0), all_above m n xs lt all.1)

first_tied : (test : Bool) (x : Priced) (xs ys zs : List Priced) → xs ≡ ys ++ zs → cond test (x ∷ xs) xs ≡ cond test (x ∷ ys) ys ++ zs
first_tied true x xs ys zs e = ap (λ l. x ∷ l) e
first_tied false x xs ys zs e = e

ties_put_step : (tie : Priced → Priced → Bool) → TellsCosts tie → (z c x : Priced) (xs : List Priced) (test : Bool) → ltb c.cost x.cost ≡ test → Rising (x ∷ xs)
    → filter (tie z) (put_by_cost c xs) ≡ filter (tie z) xs ++ filter (tie z) (c ∷ [])
    → filter (tie z) (cond test (c ∷ x ∷ xs) (x ∷ put_by_cost c xs)) ≡ filter (tie z) (x ∷ xs) ++ filter (tie z) (c ∷ [])
ties_put_step tie tells z c x xs true is up later =
    let lt = ltb-true c.cost x.cost is in
    last_tied tie tells z c (x ∷ xs) (tie z c) refl (omega (arith, lt), all_above c.cost x.cost xs lt up.0)
ties_put_step tie tells z c x xs false is up later = first_tied (tie z x) x (filter (tie z) (put_by_cost c xs)) (filter (tie z) xs) (filter (tie z) (c ∷ [])) later

ties_put : (tie : Priced → Priced → Bool) → TellsCosts tie → (z c : Priced) (xs : List Priced) → Rising xs → filter (tie z) (put_by_cost c xs) ≡ filter (tie z) xs ++ filter (tie z) (c ∷ [])
ties_put tie tells z c [] up = refl
ties_put tie tells z c (x ∷ xs) up = ties_put_step tie tells z c x xs (ltb c.cost x.cost) refl up (ties_put tie tells z c xs up.1)

rising_all : (ordered choices : List Priced) → Rising ordered → Rising (by_cost ordered choices)
rising_all ordered [] up = up
rising_all ordered (c ∷ choices) up = rising_all (put_by_cost c ordered) choices (rising_put c ordered up)

ties_all : (tie : Priced → Priced → Bool) → TellsCosts tie → (z : Priced) (ordered choices : List Priced) → Rising ordered → filter (tie z) (by_cost ordered choices) ≡ filter (tie z) ordered ++ filter (tie z) choices
ties_all tie tells z ordered [] up = sym (append-nil (filter (tie z) ordered))
ties_all tie tells z ordered (c ∷ choices) up =
    ties_all tie tells z (put_by_cost c ordered) choices (rising_put c ordered up)
    ∙ ap (λ l. l ++ filter (tie z) choices) (ties_put tie tells z c ordered up)
    ∙ append_assoc (filter (tie z) ordered) (filter (tie z) (c ∷ [])) (filter (tie z) choices)
    ∙ ap (λ l. filter (tie z) ordered ++ l) (sym (filter-append (tie z) (c ∷ []) choices))

-- ---- what a stable sort gives

all_behind : (m : ℕ) (xs : List Priced) → ((j : ℕ) (d : Priced) → j < length xs → m ≤ (slice_index_or xs j d).cost) → AllByRecursion (λ y. m ≤ y.cost) xs
all_behind m [] each = tt
all_behind m (x ∷ xs) each = (each 0 x (omega arith), all_behind m xs (λ j d lt. each (suc j) d (omega (arith, lt))))

pub rising_from : (xs : List Priced) → IsNonDecreasingBy (λ p. p.cost) xs → Rising xs
rising_from [] up = tt
rising_from (x ∷ xs) up =
    (all_behind x.cost xs (λ j d lt. up 0 (suc j) d (omega arith) (omega (arith, lt))), rising_from xs (λ i j d le lt. up (suc i) (suc j) d (omega (arith, le)) (omega (arith, lt))))

pub sorted_is : (tie : Priced → Priced → Bool) → TellsCosts tie → (choices sorted : List Priced) → IsNonDecreasingBy (λ p. p.cost) sorted → ((z : Priced) → filter (tie z) sorted ≡ filter (tie z) choices) → sorted ≡ by_cost [] choices
sorted_is tie tells choices sorted up stable =
    one_order tie tells sorted (by_cost [] choices) (rising_from sorted up) (rising_all [] choices tt) (λ z. stable z ∙ sym (ties_all tie tells z [] choices tt))
