-- What an account holds while a file is read.
use Rattle.std.proofs.Common.{◌≡◌, ℕ, ◌+◌, ◌<◌, ◌≤◌, ◌==◌, ◌&&◌, Bool, true, false, cond, List, [], ◌∷◌, ◌++◌, length, take, Ok, refl, sym, ap, ◌∙◌, ⊎_elim, arith, length-take-le}
use Rattle.std.proofs.lemmas.Slice.Eq.{bytes_eq-Decides}
use Rattle.std.proofs.lemmas.Bool.{eq-eqb}
use Rattle.std.proofs.lemmas.Bool.Decides.{eqb_tells}
use Rattle.std.specs.Str.{bytes_eq}
use Rattle.port_store.specs.Files.{Bytes}
use Rattle.port_store.specs.Shown.{Shown, whole, continued, after_piece, after_read_at}

-- of a file of which these bytes were shown so far
abbrev pub shown_so_far : Bytes → ℕ → Bytes → Shown
shown_so_far name size bytes = record { name = name; bytes = bytes; size = size }

goes_on_there : (name bytes : Bytes) (at : ℕ) → length bytes ≡ at → (bytes_eq name name && length bytes == at) ≡ true
goes_on_there name bytes at e = rw ((bytes_eq-Decides name name).1 refl) (eq-eqb _ _ e)

with_room : (part : Bytes) {A : Type 0} (x y : A) → 0 < length part → cond (length part == 0) x y ≡ y
with_room part x y room = ⊎_elim (λ none. absurd (omega (arith, none.1, room))) (λ some. ap (λ (b : Bool). cond b x y) some.0) (eqb_tells (length part) 0)

more : (name bytes piece : Bytes) (size : ℕ) → 0 < length piece → continued (shown_so_far name size bytes) piece ≡ shown_so_far name size (bytes ++ piece)
more name bytes [] size some = absurd (omega (arith, some))
more name bytes (byte ∷ piece) size some = refl

-- bytes that came go on where those before ended
pub account_goes_on : (name bytes part : Bytes) (size at count : ℕ) (account : List Shown) → length bytes ≡ at → 0 < count → count ≤ length part → after_read_at name at part (Ok count) (shown_so_far name size bytes ∷ account) ≡ shown_so_far name size (bytes ++ take count part) ∷ account
account_goes_on name bytes part size at count account here some within =
    with_room part _ _ (omega (arith, some, within))
    ∙ ap (λ (b : Bool). cond b (continued (shown_so_far name size bytes) (take count part)) (shown_so_far name size bytes) ∷ account) (goes_on_there name bytes at here)
    ∙ ap (λ (shown : Shown). shown ∷ account) (more name bytes (take count part) size (omega (arith, some, length-take-le count part within)))

-- where none came, the file ends
pub account_ends : (name bytes part : Bytes) (size at : ℕ) (account : List Shown) → length bytes ≡ at → 0 < length part → after_read_at name at part (Ok 0) (shown_so_far name size bytes ∷ account) ≡ whole name bytes ∷ account
account_ends name bytes part size at account here room =
    with_room part _ _ room
    ∙ ap (λ (b : Bool). cond b (whole name bytes) (shown_so_far name size bytes) ∷ account) (goes_on_there name bytes at here)
