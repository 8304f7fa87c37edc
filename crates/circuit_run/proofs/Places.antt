-- What stands at a place of results that are made one after the other.
use Rattle.std.proofs.Common.{◌≡◌, ℕ, zero, suc, ◌+◌, ◌<◌, ◌≤◌, List, [], ◌∷◌, ◌++◌, length, take, drop, get_or, map, refl, sym, ap, ◌∙◌, arith, Some, Bool, true, false}
use Rattle.std.specs.Prelude.{IsTrue, IsSomeAnd}
use Rattle.std.specs.List.{slice_get}
use Rattle.std.proofs.lemmas.Bool.{false≢true}
use Rattle.std.proofs.lemmas.List.{append_assoc, take-append-drop, drop_more, get_or_at, take_at, get_or-take, get_or-map, length-take-le, length-map}
use Rattle.std.proofs.lemmas.Option.{slice_get_within, get_or_from_slice_get, none-some}
use Rattle.forms.specs.FromEarlier.{from_earlier, from_earlier-append, from_earlier_keeps, length-from_earlier}

-- a list by what is before a place, at it and after it
pub parted : {A : Type 0} (xs : List A) (n : ℕ) (x : A) → slice_get xs n ≡ Some x → xs ≡ take n xs ++ x ∷ drop (n + 1) xs
parted xs n x at =
    sym (take-append-drop n xs)
    ∙ ap (λ rest. take n xs ++ rest) (drop_more xs n x (slice_get_within xs n x at) ∙ ap (λ y. y ∷ drop (n + 1) xs) (get_or_from_slice_get xs n x x at))

-- how many results there are of the first items
pub length-first : {A B : Type 0} (f : List B → A → B) (items : List A) (n : ℕ) → n ≤ length items → length (from_earlier f [] (take n items)) ≡ n
length-first f items n within = length-from_earlier f [] (take n items) ∙ (let e = length-take-le n items within in omega (arith, e))

-- a result is made from those before it
pub result_at : {A B : Type 0} (f : List B → A → B) (items : List A) (n : ℕ) (item : A) (d : B) → slice_get items n ≡ Some item → get_or (from_earlier f [] items) n d ≡ f (from_earlier f [] (take n items)) item
result_at f items n item d at =
    let before = from_earlier f [] (take n items) in
    let here = f before item in
    let within = slice_get_within items n item at in
    let later = from_earlier_keeps f (before ++ here ∷ []) (drop (n + 1) items) in
    ap (λ xs. get_or (from_earlier f [] xs) n d) (parted items n item at)
    ∙ ap (λ xs. get_or xs n d) (from_earlier-append f [] (take n items) (item ∷ drop (n + 1) items) ∙ later.1 ∙ append_assoc before (here ∷ []) later.0)
    ∙ get_or_at before here later.0 d n (length-first f items n (omega arith))

-- those of the first items are the first of all
pub first_results : {A B : Type 0} (f : List B → A → B) (items : List A) (n : ℕ) → n ≤ length items → take n (from_earlier f [] items) ≡ from_earlier f [] (take n items)
first_results f items n within =
    let before = from_earlier f [] (take n items) in
    let later = from_earlier_keeps f before (drop n items) in
    ap (λ xs. take n (from_earlier f [] xs)) (sym (take-append-drop n items))
    ∙ ap (take n) (from_earlier-append f [] (take n items) (drop n items) ∙ later.1)
    ∙ take_at before later.0 n (length-first f items n within)

-- so they read the same
pub read_first : {A B : Type 0} (f : List B → A → B) (items : List A) (n i : ℕ) (d : B) → n ≤ length items → i < n → get_or (from_earlier f [] (take n items)) i d ≡ get_or (from_earlier f [] items) i d
read_first f items n i d within below =
    ap (λ xs. get_or xs i d) (sym (first_results f items n within)) ∙ get_or-take n (from_earlier f [] items) i d below

-- an item is read as well among the first ones
pub slice_get-take : {A : Type 0} (xs : List A) (n i : ℕ) → i < n → slice_get (take n xs) i ≡ slice_get xs i
slice_get-take xs zero i below = absurd (omega arith)
slice_get-take [] (suc n) i below = refl
slice_get-take (x ∷ xs) (suc n) zero below = refl
slice_get-take (x ∷ xs) (suc n) (suc i) below = slice_get-take xs n i (omega arith)

-- functions that agree on each element give the same list
pub map_agree : {A B : Type 0} (f g : A → B) (xs : List A) → ((k : ℕ) (d : A) → k < length xs → f (get_or xs k d) ≡ g (get_or xs k d)) → map f xs ≡ map g xs
map_agree f g [] same = refl
map_agree f g (x ∷ xs) same =
    ap (λ y. y ∷ map f xs) (same 0 x (omega arith)) ∙ ap (λ ys. g x ∷ ys) (map_agree f g xs (λ k d below. same (suc k) d (omega arith)))
