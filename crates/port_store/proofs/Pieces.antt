-- A list that is taken piece by piece.
use Rattle.std.proofs.Common.{◌≡◌, ℕ, ◌+◌, ◌-◌, ◌<◌, ◌≤◌, min, List, ◌++◌, length, take, drop, sym, ap, ◌∙◌, ⊎_elim, arith, take-add, take_all, length-take, length-drop, length-append, length-take-le, add-zero}
use Rattle.std.proofs.lemmas.List.{take-take, take-append-le, append-nil}
use Rattle.std.proofs.Math.Seq.{take-append-add}
use Rattle.std.proofs.lemmas.Bool.{cases_lt}
use borrow.Rule.Slice.PartMut.{put_mid}

-- the front of a front is the shorter front
pub take-take-min : (m n : ℕ) (xs : List ℕ) → take m (take n xs) ≡ take (min m n) xs
take-take-min m n xs =
    ⊎_elim
    (λ (below : m < n). take-take m n xs (omega arith) ∙ ap (λ k. take k xs) (omega arith))
    (λ (above : n ≤ m). take_all m (take n xs) (omega (arith, length-take n xs)) ∙ ap (λ k. take k xs) (omega arith))
    (cases_lt m n)

-- the front and the beginning of the next piece make a longer front
pub take-append-take : (n m k : ℕ) (xs : List ℕ) → take n xs ++ take k (take m (drop n xs)) ≡ take (n + min k m) xs
take-append-take n m k xs = ap (λ ys. take n xs ++ ys) (take-take-min k m (drop n xs)) ∙ sym (take-add n (min k m) xs)

-- the front and the next piece make a longer front
pub take-append-next : (i j : ℕ) (xs : List ℕ) → i ≤ j → take i xs ++ take (j - i) (drop i xs) ≡ take j xs
take-append-next i j xs below = sym (take-add i (j - i) xs) ∙ ap (λ k. take k xs) (omega arith)

-- the front of a buffer of which a part was filled
pub take-put_mid : (buffer part : List ℕ) (n room count : ℕ) → n ≤ length buffer → count ≤ length part → take (n + count) (put_mid n room buffer part) ≡ take n buffer ++ take count part
take-put_mid buffer part n room count fits within =
    let rest = drop room (drop n buffer) in
    ap (λ k. take (k + count) (put_mid n room buffer part)) (sym (length-take-le n buffer fits))
    ∙ take-append-add (take n buffer) (part ++ rest) count
    ∙ ap (λ ys. take n buffer ++ ys) (take-append-le count part rest within)

-- what stands before that part stays
pub front-put_mid : (buffer part : List ℕ) (n room : ℕ) → n ≤ length buffer → take n (put_mid n room buffer part) ≡ take n buffer
front-put_mid buffer part n room fits =
    ap (λ k. take k (put_mid n room buffer part)) (sym (add-zero n)) ∙ take-put_mid buffer part n room 0 fits (omega arith) ∙ append-nil (take n buffer)

-- a call that gives the next bytes of the whole makes a longer front of it
pub take-put_mid-next : (whole buffer part : List ℕ) (n room count : ℕ) → n ≤ length buffer → count ≤ length part → take n buffer ≡ take n whole → take count part ≡ take count (drop n whole) → take (n + count) (put_mid n room buffer part) ≡ take (n + count) whole
take-put_mid-next whole buffer part n room count fits within front next =
    take-put_mid buffer part n room count fits within
    ∙ ap (λ ys. take n buffer ++ ys) next
    ∙ ap (λ xs. xs ++ take count (drop n whole)) front
    ∙ sym (take-add n count whole)

-- a part of the rest keeps the length of the whole
pub length-put_mid-rest : (buffer part : List ℕ) (n : ℕ) → n ≤ length buffer → length part ≡ length buffer - n → length (put_mid n (length buffer - n) buffer part) ≡ length buffer
length-put_mid-rest buffer part n fits same =
    omega (arith, length-append (take n buffer) (part ++ drop (length buffer - n) (drop n buffer)), length-append part (drop (length buffer - n) (drop n buffer)), length-take-le n buffer fits, length-drop n buffer, length-drop (length buffer - n) (drop n buffer))
