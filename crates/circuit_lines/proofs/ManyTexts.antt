-- Items that are read one after the other: what is read is spelled so, and what is spelled is read again.
use Rattle.std.proofs.Common.{◌≡◌, ℕ, zero, suc, ◌+◌, ◌≤◌, List, [], ◌∷◌, ◌++◌, length, Ok, Err, refl, sym, ap, ◌∙◌, append_assoc, length-append, arith}
use Rattle.std.specs.List.{flat_map, AllByRecursion}
use Rattle.circuit_lines.specs.declared.fault.Misspelled.{Misspelled}
use Rattle.circuit_lines.specs.Numbers.{Read}
use Rattle.circuit_lines.specs.Many.{with_first, go_on, many}

-- what an item's reader takes is spelled so, and keeps the rule
abbrev pub TakesItem : {A : Type 0} → (ℕ → List ℕ → Read (A × List ℕ)) → (A → List ℕ) → (A → Type 0) → Type 0
TakesItem {A} item spell P = (at : ℕ) (bytes : List ℕ) (x : A × List ℕ) → item at bytes ≡ Ok x → (bytes ≡ spell x.0 ++ x.1) × P x.0

pub record AreTaken {A : Type 0} (spell : A → List ℕ) (P : A → Type 0) (bytes : List ℕ) (x : List A × List ℕ) : Type 0 where
  pub parts : bytes ≡ flat_map spell x.0 ++ x.1
  pub rules : AllByRecursion P x.0

one_taken : {A : Type 0} (item : ℕ → List ℕ → Read (A × List ℕ)) (spell : A → List ℕ) (P : A → Type 0) → TakesItem item spell P → (limit at : ℕ) (bytes : List ℕ)
    → ((a : ℕ) (b : List ℕ) → AreTaken spell P b (many item limit a b))
    → (r : Read (A × List ℕ)) → item at bytes ≡ r → AreTaken spell P bytes (go_on r (λ x. with_first x.0 (many item limit (at + 1) x.1)) bytes)
one_taken item spell P takes limit at bytes others (Err fault) e = record { parts = refl; rules = tt }
one_taken {A = A} item spell P takes limit at bytes others (Ok x) e =
    let first = takes at bytes x e in
    let rest = others (at + 1) x.1 in
    let read : List A × List ℕ = many item limit (at + 1) x.1 in
    let parts : bytes ≡ (spell x.0 ++ flat_map spell read.0) ++ read.1 = first.0 ∙ ap (λ (r : List ℕ). spell x.0 ++ r) rest.parts ∙ sym (append_assoc (spell x.0) (flat_map spell read.0) read.1) in
    record { parts = parts; rules = (first.1, rest.rules) }

pub many_taken : {A : Type 0} (item : ℕ → List ℕ → Read (A × List ℕ)) (spell : A → List ℕ) (P : A → Type 0) → TakesItem item spell P → (limit at : ℕ) (bytes : List ℕ)
    → AreTaken spell P bytes (many item limit at bytes)
unfolding many
many_taken item spell P takes zero at bytes = record { parts = refl; rules = tt }
many_taken item spell P takes (suc limit) at bytes = one_taken item spell P takes limit at bytes (λ a b. many_taken item spell P takes limit a b) (item at bytes) refl

-- what is spelled so is read again, before a text that may follow; each item has a byte at least
pub record ReadsItem {A : Type 0} (item : ℕ → List ℕ → Read (A × List ℕ)) (spell : A → List ℕ) (P : A → Type 0) (May : List ℕ → Type 0) : Type 0 where
  pub again : (at : ℕ) (x : A) (rest : List ℕ) → P x → May rest → item at (spell x ++ rest) ≡ Ok (x, rest)
  pub follows : (x : A) (rest : List ℕ) → P x → May (spell x ++ rest)
  pub long : (x : A) → P x → 1 ≤ length (spell x)

all_follow : {A : Type 0} (item : ℕ → List ℕ → Read (A × List ℕ)) (spell : A → List ℕ) (P : A → Type 0) (May : List ℕ → Type 0) → ReadsItem item spell P May → (xs : List A) (rest : List ℕ)
    → AllByRecursion P xs → May rest → May (flat_map spell xs ++ rest)
all_follow item spell P May reads [] rest all may = may
all_follow item spell P May reads (x ∷ xs) rest all may = rw (append_assoc (spell x) (flat_map spell xs) rest) (reads.follows x (flat_map spell xs ++ rest) all.0)

pub many_again : {A : Type 0} (item : ℕ → List ℕ → Read (A × List ℕ)) (spell : A → List ℕ) (P : A → Type 0) (May : List ℕ → Type 0) → ReadsItem item spell P May
    → (rest : List ℕ) → May rest → (fault : ℕ → Misspelled) → ((at : ℕ) → item at rest ≡ Err (fault at)) → (limit at : ℕ) (xs : List A) → length xs ≤ limit → AllByRecursion P xs → many item limit at (flat_map spell xs ++ rest) ≡ (xs, rest)
unfolding many
many_again item spell P May reads rest may fault stop zero at [] le all = refl
many_again item spell P May reads rest may fault stop zero at (x ∷ xs) le all = absurd (omega arith)
many_again item spell P May reads rest may fault stop (suc limit) at [] le all = rw (stop at) refl
many_again item spell P May reads rest may fault stop (suc limit) at (x ∷ xs) le all =
    let others : List ℕ = flat_map spell xs ++ rest in
    let few : length xs ≤ limit = omega (arith, le) in
    rw (append_assoc (spell x) (flat_map spell xs) rest, reads.again at x others all.0 (all_follow item spell P May reads xs rest all.1 may), many_again item spell P May reads rest may fault stop limit (at + 1) xs few all.1) refl

-- there are no more items than bytes
pub fewer_items : {A : Type 0} (spell : A → List ℕ) (P : A → Type 0) → ((x : A) → P x → 1 ≤ length (spell x)) → (xs : List A) (rest : List ℕ) → AllByRecursion P xs → length xs ≤ length (flat_map spell xs ++ rest)
fewer_items spell P long [] rest all = omega arith
fewer_items spell P long (x ∷ xs) rest all =
    let regrouped : (spell x ++ flat_map spell xs) ++ rest ≡ spell x ++ (flat_map spell xs ++ rest) = append_assoc (spell x) (flat_map spell xs) rest in
    rw regrouped (omega (arith, length-append (spell x) (flat_map spell xs ++ rest), long x all.0, fewer_items spell P long xs rest all.1))
