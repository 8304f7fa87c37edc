-- What holds of all elements of lists that others are made from, and how long these are at most.
use Rattle.std.proofs.Common.{◌≡◌, ℕ, zero, suc, ◌+◌, ◌*◌, ◌<◌, ◌≤◌, Bool, true, false, cond, List, [], ◌∷◌, ◌++◌, length, map, take, Option, arith, length-append, mul-le-mul}
use Rattle.std.specs.Prelude.{Some, None, IfSome, find, filter_map}
use Rattle.std.specs.List.{AllByRecursion, enumerate_from, flat_map, cons_option}
use Rattle.std.specs.Option.{option_map}

pub all_append : {A : Type 0} (P : A → Type 0) (xs ys : List A) → AllByRecursion P xs → AllByRecursion P ys → AllByRecursion P (xs ++ ys)
all_append P [] ys first second = second
all_append P (x ∷ xs) ys first second = (first.0, all_append P xs ys first.1 second)

pub all_map : {A B : Type 0} (P : A → Type 0) (Q : B → Type 0) (f : A → B) → ((x : A) → P x → Q (f x)) → (xs : List A) → AllByRecursion P xs → AllByRecursion Q (map f xs)
all_map P Q f each [] all = tt
all_map P Q f each (x ∷ xs) all = (each x all.0, all_map P Q f each xs all.1)

pub all_flat : {A B : Type 0} (P : A → Type 0) (Q : B → Type 0) (f : A → List B) → ((x : A) → P x → AllByRecursion Q (f x)) → (xs : List A) → AllByRecursion P xs → AllByRecursion Q (flat_map f xs)
all_flat P Q f each [] all = tt
all_flat P Q f each (x ∷ xs) all = all_append Q (f x) (flat_map f xs) (each x all.0) (all_flat P Q f each xs all.1)

pub all_take : {A : Type 0} (P : A → Type 0) (n : ℕ) (xs : List A) → AllByRecursion P xs → AllByRecursion P (take n xs)
all_take P zero xs all = tt
all_take P (suc n) [] all = tt
all_take P (suc n) (x ∷ xs) all = (all.0, all_take P n xs all.1)

-- ---- options

pub some_map : {A B : Type 0} (P : A → Type 0) (Q : B → Type 0) (f : A → B) → ((x : A) → P x → Q (f x)) → (o : Option A) → IfSome o P → IfSome (option_map f o) Q
some_map P Q f each None is = tt
some_map P Q f each (Some x) is = each x is

found_step : {A : Type 0} (P : A → Type 0) (x : A) (later : Option A) (test : Bool) → P x → IfSome later P → IfSome (cond test (Some x) later) P
found_step P x later true is others = is
found_step P x later false is others = others

pub found : {A : Type 0} (P : A → Type 0) (test : A → Bool) (xs : List A) → AllByRecursion P xs → IfSome (find test xs) P
found P test [] all = tt
found P test (x ∷ xs) all = found_step P x (find test xs) (test x) all.0 (found P test xs all.1)

all_more : {A : Type 0} (P : A → Type 0) (o : Option A) (xs : List A) → IfSome o P → AllByRecursion P xs → AllByRecursion P (cons_option o xs)
all_more P None xs is all = all
all_more P (Some x) xs is all = (is, all)

pub all_filter_map : {A B : Type 0} (P : A → Type 0) (Q : B → Type 0) (h : A → Option B) → ((x : A) → P x → IfSome (h x) Q) → (xs : List A) → AllByRecursion P xs → AllByRecursion Q (filter_map h xs)
all_filter_map P Q h each [] all = tt
all_filter_map P Q h each (x ∷ xs) all = all_more Q (h x) (filter_map h xs) (each x all.0) (all_filter_map P Q h each xs all.1)

-- ---- numbered elements

numbers_from : {A : Type 0} (n : ℕ) (xs : List A) (most : ℕ) → n + length xs ≤ most → AllByRecursion (λ (e : ℕ × A). e.0 < most) (enumerate_from n xs)
numbers_from n [] most le = tt
numbers_from n (x ∷ xs) most le = (omega (arith, le), numbers_from (n + 1) xs most (omega (arith, le)))

-- their numbers are below their number
pub numbers_below : {A : Type 0} (xs : List A) → AllByRecursion (λ (e : ℕ × A). e.0 < length xs) (enumerate_from 0 xs)
numbers_below xs = numbers_from 0 xs (length xs) (omega arith)

-- or any limit of that
pub numbers_within : {A : Type 0} (xs : List A) (most : ℕ) → length xs ≤ most → AllByRecursion (λ (e : ℕ × A). e.0 < most) (enumerate_from 0 xs)
numbers_within xs most few = numbers_from 0 xs most (omega (arith, few))

-- ---- lengths

one_more : {A : Type 0} (o : Option A) (xs : List A) → length (cons_option o xs) ≤ suc (length xs)
one_more None xs = omega arith
one_more (Some x) xs = omega arith

pub filter_map_few : {A B : Type 0} (h : A → Option B) (xs : List A) → length (filter_map h xs) ≤ length xs
filter_map_few h [] = omega arith
filter_map_few h (x ∷ xs) = omega (arith, one_more (h x) (filter_map h xs), filter_map_few h xs)

times : (n m : ℕ) → suc n * m ≡ m + n * m
times n m = omega arith

flat_each : {A B : Type 0} (P : A → Type 0) (f : A → List B) (m : ℕ) → ((x : A) → P x → length (f x) ≤ m) → (xs : List A) → AllByRecursion P xs → length (flat_map f xs) ≤ length xs * m
flat_each P f m each [] all = omega arith
flat_each P f m each (x ∷ xs) all =
    omega (arith, length-append (f x) (flat_map f xs), each x all.0, flat_each P f m each xs all.1, times (length xs) m)

-- at most n times m, where each of at most n elements gives at most m
pub flat_size : {A B : Type 0} (P : A → Type 0) (f : A → List B) (n m : ℕ) → ((x : A) → P x → length (f x) ≤ m) → (xs : List A) → length xs ≤ n → AllByRecursion P xs → length (flat_map f xs) ≤ n * m
flat_size P f n m each xs few all =
    let here : m ≤ m = omega arith in
    let most : length xs * m ≤ n * m = mul-le-mul few here in
    omega (arith, flat_each P f m each xs all, most)

all_units : {A : Type 0} (xs : List A) → AllByRecursion (λ (x : A). Unit {0}) xs
all_units [] = tt
all_units (x ∷ xs) = (tt, all_units xs)

pub flat_most : {A B : Type 0} (f : A → List B) (n m : ℕ) → ((x : A) → length (f x) ≤ m) → (xs : List A) → length xs ≤ n → length (flat_map f xs) ≤ n * m
flat_most f n m each xs few = flat_size (λ x. Unit {0}) f n m (λ x is. each x) xs few (all_units xs)
