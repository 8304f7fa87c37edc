-- A list that grows by what stands for one entry after the other.
use Rattle.std.proofs.Common.{◌≡◌, ℕ, ◌+◌, ◌<◌, ◌≤◌, List, [], ◌∷◌, ◌++◌, length, map, take, get_or, sym, ap, ◌∙◌, arith, append_assoc}
use Rattle.std.specs.List.{enumerate_from, flat_map}
use Rattle.std.proofs.lemmas.List.{take_more, take_all, map-append, append-nil}
use Rattle.std.proofs.lemmas.List.FromFn.{length-enumerate_from, get_or-enumerate_from}
use Rattle.std.proofs.lemmas.Grind.{flat_map-append}

-- the entries in front, one more
entries_more : {X : Type 0} (xs : List X) (i : ℕ) → i < length xs → (x : X) × (take (i + 1) (enumerate_from 0 xs) ≡ take i (enumerate_from 0 xs) ++ (i, x) ∷ [])
entries_more [] i lt = absurd (omega (arith, lt))
entries_more (y ∷ ys) i lt =
    let all : List (ℕ × _) = enumerate_from 0 (y ∷ ys) in
    let within : i < length all = omega (arith, lt, length-enumerate_from 0 (y ∷ ys)) in
    let entry : get_or all i (0, y) ≡ (0 + i, get_or (y ∷ ys) i y) = get_or-enumerate_from 0 (y ∷ ys) i (0, y) lt in
    let number : 0 + i ≡ i = omega arith in
    (get_or (y ∷ ys) i y, take_more all i (0, y) within ∙ ap (λ e. take i all ++ e ∷ []) (entry ∙ ap (λ n. (n, get_or (y ∷ ys) i y)) number))

pub grown_map : {X B : Type 0} (g : ℕ → B) (xs : List X) (i : ℕ) (start now next : List B) → i < length xs → next ≡ now ++ g i ∷ []
    → now ≡ start ++ map (λ (e : ℕ × X). g e.0) (take i (enumerate_from 0 xs)) → next ≡ start ++ map (λ (e : ℕ × X). g e.0) (take (i + 1) (enumerate_from 0 xs))
grown_map {X} g xs i start now next lt pushed so_far =
    let more = entries_more xs i lt in
    let done = map (λ (e : ℕ × X). g e.0) (take i (enumerate_from 0 xs)) in
    let grown = ap (λ l. map (λ (e : ℕ × X). g e.0) l) more.1 ∙ map-append (λ (e : ℕ × X). g e.0) (take i (enumerate_from 0 xs)) ((i, more.0) ∷ []) in
    pushed ∙ ap (λ l. l ++ g i ∷ []) so_far ∙ append_assoc start done (g i ∷ []) ∙ ap (λ l. start ++ l) (sym grown)

pub grown_flat : {X B : Type 0} (g : ℕ → List B) (xs : List X) (i : ℕ) (start now next : List B) → i < length xs → next ≡ now ++ g i
    → now ≡ start ++ flat_map (λ (e : ℕ × X). g e.0) (take i (enumerate_from 0 xs)) → next ≡ start ++ flat_map (λ (e : ℕ × X). g e.0) (take (i + 1) (enumerate_from 0 xs))
grown_flat {X} g xs i start now next lt added so_far =
    let more = entries_more xs i lt in
    let done = flat_map (λ (e : ℕ × X). g e.0) (take i (enumerate_from 0 xs)) in
    let grown = ap (λ l. flat_map (λ (e : ℕ × X). g e.0) l) more.1 ∙ flat_map-append (λ (e : ℕ × X). g e.0) (take i (enumerate_from 0 xs)) ((i, more.0) ∷ []) ∙ ap (λ l. done ++ l) (append-nil (g i)) in
    added ∙ ap (λ l. l ++ g i) so_far ∙ append_assoc start done (g i) ∙ ap (λ l. start ++ l) (sym grown)

-- all entries
pub all_entries : {X : Type 0} (xs : List X) (i : ℕ) → length xs ≤ i → take i (enumerate_from 0 xs) ≡ enumerate_from 0 xs
all_entries xs i ge = take_all i (enumerate_from 0 xs) (omega (arith, ge, length-enumerate_from 0 xs))
