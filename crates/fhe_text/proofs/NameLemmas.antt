-- Names as the keys of a set of slices.
use Rattle.std.proofs.Common.{◌≡◌, ◌+◌, Bool, false, cond, not, ◌||◌, nat_lt, List, [], ◌∷◌, ◌++◌, length, map, refl, sym, ap, ◌∙◌, Some, None}
use Rattle.std.specs.List.{list_any, position, prefix_len}
use Rattle.std.proofs.lemmas.List.{length-map, map-append}
use Rattle.std.proofs.lemmas.Bool.{cond-false}

pub list_any-map : {X Y : Type 0} (test : Y → Bool) (f : X → Y) (xs : List X) → list_any test (map f xs) ≡ list_any (λ x. test (f x)) xs
list_any-map test f [] = refl
list_any-map test f (x ∷ xs) = ap (λ b. test (f x) || b) (list_any-map test f xs)

prefix_len-map : {X Y : Type 0} (test : Y → Bool) (f : X → Y) (xs : List X) → prefix_len test (map f xs) ≡ prefix_len (λ x. test (f x)) xs
prefix_len-map test f [] = refl
prefix_len-map test f (x ∷ xs) = ap (λ n. cond (test (f x)) (1 + n) 0) (prefix_len-map test f xs)

pub position-map : {X Y : Type 0} (test : Y → Bool) (f : X → Y) (xs : List X) → position test (map f xs) ≡ position (λ x. test (f x)) xs
position-map test f xs =
    ap (λ n. cond (nat_lt n (length (map f xs))) (Some n) None) (prefix_len-map (λ y. not (test y)) f xs)
    ∙ ap (λ n. cond (nat_lt (prefix_len (λ x. not (test (f x))) xs) n) (Some (prefix_len (λ x. not (test (f x))) xs)) None) (length-map xs f)

-- a key that is new goes last
pub map-insert : {X Y : Type 0} (test : Y → Bool) (f : X → Y) (xs : List X) (x : X) → list_any test (map f xs) ≡ false → map f (cond (list_any (λ y. test (f y)) xs) xs (xs ++ x ∷ [])) ≡ map f xs ++ f x ∷ []
map-insert test f xs x e =
    ap (map f) (cond-false (list_any (λ y. test (f y)) xs) xs (xs ++ x ∷ []) (sym (list_any-map test f xs) ∙ e)) ∙ map-append f xs (x ∷ [])
