-- One operation more.
use Rattle.std.proofs.Common.{◌≡◌, ℕ, ◌+◌, List, [], ◌∷◌, ◌++◌, take, Option, Some, ap, ◌∙◌}
use Rattle.std.specs.Prelude.{filter_map}
use Rattle.std.specs.List.{slice_get}
use Rattle.std.proofs.lemmas.List.{take_more}
use Rattle.std.proofs.lemmas.List.Elements.{filter_map-append}
use Rattle.std.proofs.lemmas.Option.{slice_get_within, get_or_from_slice_get}

pub found_more : {A B : Type 0} (f : A → Option B) (xs : List A) (n : ℕ) (x : A) → slice_get xs n ≡ Some x → filter_map f (take (n + 1) xs) ≡ filter_map f (take n xs) ++ filter_map f (x ∷ [])
found_more f xs n x at =
    ap (filter_map f) (take_more xs n x (slice_get_within xs n x at) ∙ ap (λ o. take n xs ++ o ∷ []) (get_or_from_slice_get xs n x x at))
    ∙ filter_map-append f (take n xs) (x ∷ [])
