-- Results one after the other, each from those before it.
use Rattle.std.specs.Prelude.{◌≡◌, ◌+◌, List, [], ◌∷◌, ◌++◌, length, refl}
use Rattle.std.proofs.Common.{◌∙◌, sym, arith}
use Rattle.std.proofs.lemmas.List.{append-nil, append_assoc, length_push}

-- one result for each item, from those of the items before it: those that are there are given
abbrev pub from_earlier : {A B : Type 0} → (List B → A → B) → List B → List A → List B
from_earlier result_of earlier [] = earlier
from_earlier result_of earlier (item ∷ items) = from_earlier result_of (earlier ++ result_of earlier item ∷ []) items

-- ---- what holds of them, whatever they are

-- items in two parts
pub from_earlier-append : {A B : Type 0} (result_of : List B → A → B) (earlier : List B) (items others : List A)
    → from_earlier result_of earlier (items ++ others)
    ≡ from_earlier result_of (from_earlier result_of earlier items) others
from_earlier-append result_of earlier [] others = refl
from_earlier-append result_of earlier (item ∷ items) others =
    from_earlier-append result_of (earlier ++ result_of earlier item ∷ []) items others

-- one item more
pub from_earlier_push : {A B : Type 0} (result_of : List B → A → B) (earlier : List B) (items : List A) (item : A)
    → from_earlier result_of earlier (items ++ item ∷ [])
    ≡ from_earlier result_of earlier items ++ result_of (from_earlier result_of earlier items) item ∷ []
from_earlier_push result_of earlier items item = from_earlier-append result_of earlier items (item ∷ [])

-- how many there are
pub length-from_earlier : {A B : Type 0} (result_of : List B → A → B) (earlier : List B) (items : List A)
    → length (from_earlier result_of earlier items) ≡ length earlier + length items
length-from_earlier result_of earlier [] = omega arith
length-from_earlier result_of earlier (item ∷ items) =
    let rest = length-from_earlier result_of (earlier ++ result_of earlier item ∷ []) items in
    omega (arith, rest, length_push earlier (result_of earlier item))

-- those that are there stay, with more behind them
pub from_earlier_keeps : {A B : Type 0} (result_of : List B → A → B) (earlier : List B) (items : List A)
    → (more : List B) × (from_earlier result_of earlier items ≡ earlier ++ more)
from_earlier_keeps result_of earlier [] = ([], sym (append-nil earlier))
from_earlier_keeps result_of earlier (item ∷ items) =
    let later = from_earlier_keeps result_of (earlier ++ result_of earlier item ∷ []) items in
    (result_of earlier item ∷ later.0, later.1 ∙ append_assoc earlier (result_of earlier item ∷ []) later.0)
