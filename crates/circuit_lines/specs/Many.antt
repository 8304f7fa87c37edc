-- Items that are read one after the other, as many as stand at the front of a text.
use Rattle.std.specs.Prelude.{◌≡◌, ℕ, zero, suc, ◌+◌, ◌-◌, ◌<◌, ◌≤◌, List, [], ◌∷◌, ◌++◌, take, drop, Ok, Err, refl}
use Rattle.std.proofs.Common.{◌∙◌, sym, ap, arith}
use Rattle.circuit_lines.specs.declared.fault.Misspelled.{Misspelled}
use Rattle.circuit_lines.specs.Numbers.{Read}

-- an item and those after it
abbrev pub with_first : {A : Type 0} → A → List A × List ℕ → List A × List ℕ
with_first x others = (x ∷ others.0, others.1)

-- go on after an item, or end where none was read
abbrev pub go_on : {A : Type 0} → Read (A × List ℕ) → (A × List ℕ → List A × List ℕ) → List ℕ → List A × List ℕ
go_on (Err fault) more bytes = ([], bytes)
go_on (Ok x) more bytes = more x

-- the items at the front, at most so many, each read at a number that counts up from this one
unfoldable pub many : {A : Type 0} → (ℕ → List ℕ → Read (A × List ℕ)) → ℕ → ℕ → List ℕ → List A × List ℕ
many item zero at bytes = ([], bytes)
many item (suc limit) at bytes = go_on (item at bytes) (λ x. with_first x.0 (many item limit (at + 1) x.1)) bytes

-- ---- what holds of a loop that reads them, whatever the items are

-- so many were read, and the rest is still to be read
abbrev pub StandsAt : {A : Type 0} → (ℕ → List ℕ → Read (A × List ℕ)) → ℕ → ℕ → List ℕ → ℕ → List ℕ → Type 0
StandsAt item limit at bytes i rest =
    many item (limit - i) (at + i) rest ≡ (drop i (many item limit at bytes).0, (many item limit at bytes).1)

-- a list whose rest begins with an item
begins_with : {A : Type 0} (i : ℕ) (xs others : List A) (x : A) → x ∷ others ≡ drop i xs
    → (others ≡ drop (suc i) xs) × (take i xs ++ x ∷ [] ≡ take (suc i) xs)
begins_with zero [] others x e = absurd cc
begins_with zero (y ∷ ys) others x e = (cc, cc)
begins_with (suc i) [] others x e = absurd cc
begins_with (suc i) (y ∷ ys) others x e =
    let later = begins_with i ys others x e in
    (later.0, ap (λ zs. y ∷ zs) later.1)

-- one item more
pub one_more : {A : Type 0} (item : ℕ → List ℕ → Read (A × List ℕ)) (limit at : ℕ) (bytes : List ℕ) (i : ℕ) (rest : List ℕ) (x : A) (after : List ℕ)
    → i < limit → item (at + i) rest ≡ Ok (x, after) → StandsAt item limit at bytes i rest
    → StandsAt item limit at bytes (i + 1) after × (take i (many item limit at bytes).0 ++ x ∷ [] ≡ take (i + 1) (many item limit at bytes).0)
unfolding many
one_more item limit at bytes i rest x after lt read stands =
    let total = many item limit at bytes in
    let left : limit - i ≡ suc (limit - (i + 1)) = omega arith in
    let others = many item (limit - (i + 1)) (at + i + 1) after in
    let next : many item (limit - i) (at + i) rest ≡ (x ∷ others.0, others.1) = rw (left, read) refl in
    let both : (x ∷ others.0, others.1) ≡ (drop i total.0, total.1) = sym next ∙ stands in
    let list = begins_with i total.0 others.0 x (ap (λ p. p.0) both) in
    let behind : others.1 ≡ total.1 = ap (λ p. p.1) both in
    let number : at + (i + 1) ≡ at + i + 1 = omega arith in
    let count : i + 1 ≡ suc i = omega arith in
    let others_left : others ≡ (drop (suc i) total.0, total.1) = ap (λ xs. (xs, others.1)) list.0 ∙ ap (λ bs. (drop (suc i) total.0, bs)) behind in
    (rw number (others_left ∙ ap (λ k. (drop k total.0, total.1)) (sym count)), list.1 ∙ ap (λ k. take k total.0) (sym count))

-- all were read
all_read : {A : Type 0} (i : ℕ) (xs : List A) → [] ≡ drop i xs → take i xs ≡ xs
all_read zero [] e = refl
all_read zero (x ∷ xs) e = absurd cc
all_read (suc i) [] e = refl
all_read (suc i) (x ∷ xs) e = ap (λ ys. x ∷ ys) (all_read i xs e)

ended : {A : Type 0} (item : ℕ → List ℕ → Read (A × List ℕ)) (limit at : ℕ) (bytes : List ℕ) (i : ℕ) (rest : List ℕ)
    → ([], rest) ≡ many item (limit - i) (at + i) rest → StandsAt item limit at bytes i rest
    → many item limit at bytes ≡ (take i (many item limit at bytes).0, rest)
ended item limit at bytes i rest none stands =
    let total = many item limit at bytes in
    let both : ([], rest) ≡ (drop i total.0, total.1) = none ∙ stands in
    let list : take i total.0 ≡ total.0 = all_read i total.0 (ap (λ p. p.0) both) in
    let behind : rest ≡ total.1 = ap (λ p. p.1) both in
    ap (λ xs. (xs, total.1)) (sym list) ∙ ap (λ bs. (take i total.0, bs)) (sym behind)

-- no further item stands there
pub no_more : {A : Type 0} (item : ℕ → List ℕ → Read (A × List ℕ)) (limit at : ℕ) (bytes : List ℕ) (i : ℕ) (rest : List ℕ) (fault : Misspelled)
    → i < limit → item (at + i) rest ≡ Err fault → StandsAt item limit at bytes i rest
    → many item limit at bytes ≡ (take i (many item limit at bytes).0, rest)
unfolding many
no_more item limit at bytes i rest fault lt read stands =
    let left : limit - i ≡ suc (limit - (i + 1)) = omega arith in
    ended item limit at bytes i rest (rw (left, read) refl) stands

-- as many as may be were read
pub at_limit : {A : Type 0} (item : ℕ → List ℕ → Read (A × List ℕ)) (limit at : ℕ) (bytes : List ℕ) (i : ℕ) (rest : List ℕ)
    → limit ≤ i → StandsAt item limit at bytes i rest
    → many item limit at bytes ≡ (take i (many item limit at bytes).0, rest)
unfolding many
at_limit item limit at bytes i rest done stands =
    let left : limit - i ≡ 0 = omega arith in
    ended item limit at bytes i rest (rw left refl) stands

-- none was read yet
pub at_start : {A : Type 0} (item : ℕ → List ℕ → Read (A × List ℕ)) (limit at : ℕ) (bytes : List ℕ)
    → StandsAt item limit at bytes 0 bytes
at_start item limit at bytes =
    let start : at + 0 ≡ at = omega arith in
    let left : limit - 0 ≡ limit = omega arith in
    rw (start, left) refl
