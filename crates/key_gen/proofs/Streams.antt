-- Draws at places past the end of a key stream, which begins again there.
use Rattle.std.proofs.Common.{◌≡◌, ℕ, ◌+◌, ◌*◌, ◌%◌, ◌^◌, ◌<◌, Bool, List, [], ◌∷◌, ◌++◌, length, map, replicate, refl, sym, ap, arith, add-zero, ◌∙◌}
use Rattle.std.specs.List.{range_with_len}
use Rattle.std.proofs.lemmas.List.{same_lists}
use Rattle.std.proofs.lemmas.List.FromFn.{get_or-map-range_with_len, length-map-range_with_len}
use Rattle.word_ring.specs.Signed.{word_of}
use Rattle.word_ring.specs.Rows.{row_sum}
use Rattle.seed_stream.specs.Draws.{draw, error_of, stream_at, DrawLaws}
use Rattle.glwe_core.specs.Glwe.{sealed_glwe}
use Rattle.key_gen.specs.Seeds.{draws_at, masks_at, errors_at, drawn_glwe_row}

-- a function of places that sees them modulo 2^67
abbrev Turns : {X : Type 0} → (ℕ → X) → Type 0
Turns f = (m : ℕ) → f (m % 2 ^ 67) ≡ f m

turned_place : (p s : ℕ) → (p % 2 ^ 67 + s) % 2 ^ 67 ≡ (p + s) % 2 ^ 67
turned_place p s = omega arith

turned : {X : Type 0} (f : ℕ → X) → Turns f → (p s : ℕ) → f (p % 2 ^ 67 + s) ≡ f (p + s)
turned f turns p s = sym (turns (p % 2 ^ 67 + s)) ∙ ap f (turned_place p s) ∙ turns (p + s)

map_turned : {X : Type 0} (f : ℕ → X) → Turns f → (p s n : ℕ) → map f (range_with_len (p % 2 ^ 67 + s) n) ≡ map f (range_with_len (p + s) n)
map_turned f turns p s n =
    let q : ℕ = p % 2 ^ 67 in
    same_lists (map f (range_with_len (q + s) n)) (map f (range_with_len (p + s) n)) (length-map-range_with_len f (q + s) n ∙ sym (length-map-range_with_len f (p + s) n))
    (λ k d inside.
    let below : k < n = omega (arith, inside, length-map-range_with_len f (q + s) n) in
    get_or-map-range_with_len f (q + s) n k (q + (s + k)) d below (omega arith) ∙ turned f turns p (s + k)
    ∙ sym (get_or-map-range_with_len f (p + s) n k (p + (s + k)) d below (omega arith)))

map_same : {X Y : Type 0} (f g : X → Y) (xs : List X) → ((x : X) → f x ≡ g x) → map f xs ≡ map g xs
map_same f g [] same = refl
map_same f g (x ∷ xs) same = ap (λ y. y ∷ map f xs) (same x) ∙ ap (λ ys. g x ∷ ys) (map_same f g xs same)

draws_further : DrawLaws → (key : List ℕ) (p s n : ℕ) → draws_at key (p % 2 ^ 67 + s) n ≡ draws_at key (p + s) n
draws_further laws key p s n = map_turned (draw key) (laws.value key) p s n

pub draws_turned : DrawLaws → (key : List ℕ) (p n : ℕ) → draws_at key (p % 2 ^ 67) n ≡ draws_at key p n
draws_turned laws key p n =
    ap (λ q. draws_at key q n) (sym (add-zero (p % 2 ^ 67))) ∙ draws_further laws key p 0 n ∙ ap (λ q. draws_at key q n) (add-zero p)

masks_turned : DrawLaws → (key : List ℕ) (p k n : ℕ) → masks_at key (p % 2 ^ 67) k n ≡ masks_at key p k n
masks_turned laws key p k n =
    map_same (λ j. draws_at key (p % 2 ^ 67 + j * n) n) (λ j. draws_at key (p + j * n) n) (range_with_len 0 k) (λ j. draws_further laws key p (j * n) n)

errors_further : DrawLaws → (key : List ℕ) (p s n bound : ℕ) → errors_at key (p % 2 ^ 67 + s) n bound ≡ errors_at key (p + s) n bound
errors_further laws key p s n bound = map_turned (λ i. error_of (draw key i) bound) (λ m. ap (λ w. error_of w bound) (laws.value key m)) p s n

pub errors_turned : DrawLaws → (key : List ℕ) (p n bound : ℕ) → errors_at key (p % 2 ^ 67) n bound ≡ errors_at key p n bound
errors_turned laws key p n bound =
    ap (λ q. errors_at key q n bound) (sym (add-zero (p % 2 ^ 67))) ∙ errors_further laws key p 0 n bound ∙ ap (λ q. errors_at key q n bound) (add-zero p)

pub row_turned : DrawLaws → (key : List ℕ) (p n : ℕ) (polys : List (List Bool)) (message : List ℕ) (bound : ℕ) → drawn_glwe_row key (p % 2 ^ 67) n polys message bound ≡ drawn_glwe_row key p n polys message bound
row_turned laws key p n polys message bound =
    ap (λ masks. sealed_glwe polys (masks ++ replicate n 0 ∷ []) (row_sum message (map word_of (errors_at key (p % 2 ^ 67 + length polys * n) n bound)))) (masks_turned laws key p (length polys) n)
    ∙ ap (λ errors. sealed_glwe polys (masks_at key p (length polys) n ++ replicate n 0 ∷ []) (row_sum message (map word_of errors))) (errors_further laws key p (length polys * n) n bound)

pub stream_turned : (key : List ℕ) (p s : ℕ) → stream_at key (p % 2 ^ 67 + s) ≡ stream_at key (p + s)
stream_turned key p s = ap (λ (q : ℕ). record { key = key; place = q }) (turned_place p s)
