-- What several calls make of the files that a store tells.
use Rattle.std.proofs.Common.{◌≡◌, ℕ, Bool, true, false, cond, ◌++◌, take, Option, Some, None, MatchOption, IsSome, IsNone, is_some, Result, Ok, Err, OnOk, OnErr, is_ok, refl, sym, ap, ◌∙◌, subst, inl, inr}
use Rattle.std.proofs.lemmas.Bool.{false≢true}
use Rattle.std.specs.FinMap.{get, insert, get-insert, same_map, nat_cmp-IsAntisymmetric, slice_cmp-IsAntisymmetric}
use Rattle.std.specs.Ordering.{nat_cmp, eq_by_cmp, is_eq}
use Rattle.std.specs.declared.cmp.Ordering.{Ordering}
use Rattle.std.specs.declared.cmp.Ordering.TheVariants.{Less, Equal, Greater}
use Rattle.std.specs.Cmp.Lexicographic.{slice_cmp}
use Rattle.std.proofs.lemmas.Slice.Eq.{bytes_eq-Decides}
use Rattle.std.specs.Str.{bytes_eq}
use Rattle.std.proofs.lemmas.Cmp.{nat_list_cmp_total, eq_by_cmp_equiv}
use Rattle.port_store.specs.Files.{Bytes, Files, Told, MayHold, IsMissing, OfFile, IsAppended, MayBeAppended, MayBeCreated, IsWritten, MayBeWritten}

-- the file that was just put is there
pub get-insert-same : (files : Files) (name bytes : Bytes) → get (insert files name bytes) name ≡ Some bytes
get-insert-same files name bytes =
    get-insert nat_list_cmp_total files name bytes name
    ∙ ap (λ b. cond b (Some bytes) (get files name)) ((eq_by_cmp_equiv nat_list_cmp_total).refl name)

is_eq-true : (r : Ordering) → is_eq r ≡ true → r ≡ Equal
is_eq-true Less e = absurd (false≢true e)
is_eq-true Equal e = refl
is_eq-true Greater e = absurd (false≢true e)

-- names that compare alike are one
same_text : (xs ys : Bytes) → eq_by_cmp (slice_cmp nat_cmp) xs ys ≡ true → xs ≡ ys
same_text xs ys alike = slice_cmp-IsAntisymmetric nat_cmp-IsAntisymmetric xs ys (is_eq-true _ alike)

apart_by : (other name : Bytes) (same : Bool) → eq_by_cmp (slice_cmp nat_cmp) other name ≡ same → bytes_eq other name ≡ false → same ≡ false
apart_by other name true e apart = absurd (false≢true (sym apart ∙ (bytes_eq-Decides other name).1 (same_text other name e)))
apart_by other name false e apart = refl

-- files of other names stay
pub get-insert-other : (files : Files) (name bytes other : Bytes) → bytes_eq other name ≡ false → get (insert files name bytes) other ≡ get files other
get-insert-other files name bytes other apart =
    get-insert nat_list_cmp_total files name bytes other ∙ ap (λ b. cond b (Some bytes) (get files other)) (apart_by other name _ refl apart)

cond_twice : {A : Type 0} (b : Bool) (x y z : A) → cond b x (cond b y z) ≡ cond b x z
cond_twice true x y z = refl
cond_twice false x y z = refl

-- the second file put under a name stands in place of the first
pub insert-insert : (files : Files) (name xs ys : Bytes) → insert (insert files name xs) name ys ≡ insert files name ys
insert-insert files name xs ys =
    same_map nat_list_cmp_total (slice_cmp-IsAntisymmetric nat_cmp-IsAntisymmetric) _ _ (λ q.
    let here : Bool = eq_by_cmp (slice_cmp nat_cmp) q name in
    get-insert nat_list_cmp_total (insert files name xs) name ys q
    ∙ ap (cond here (Some ys)) (get-insert nat_list_cmp_total files name xs q)
    ∙ cond_twice here (Some ys) (Some xs) (get files q)
    ∙ sym (get-insert nat_list_cmp_total files name ys q))

found_here : (files : Files) (name bytes other : Bytes) (here : Bool) → eq_by_cmp (slice_cmp nat_cmp) other name ≡ here → get files name ≡ Some bytes → cond here (Some bytes) (get files other) ≡ get files other
found_here files name bytes other true here there = sym there ∙ ap (get files) (sym (same_text other name here))
found_here files name bytes other false here there = refl

-- to put a file that is there is to change nothing
pub insert-same : (files : Files) (name bytes : Bytes) → get files name ≡ Some bytes → insert files name bytes ≡ files
insert-same files name bytes there =
    same_map nat_list_cmp_total (slice_cmp-IsAntisymmetric nat_cmp-IsAntisymmetric) _ _ (λ other.
    get-insert nat_list_cmp_total files name bytes other ∙ found_here files name bytes other _ refl there)

get_written : (before now : Files) (name bytes : Bytes) → IsWritten name bytes before now → get now name ≡ Some bytes
get_written before now name bytes written = ap (λ m. get m name) written ∙ get-insert-same before name bytes

-- a file that was written is there
pub MayHold-written : (before now : Option Files) (name bytes : Bytes) → Told (IsWritten name bytes) before now → MayHold now name
MayHold-written before None name bytes told = tt
MayHold-written None (Some now) name bytes told = absurd told
MayHold-written (Some before) (Some now) name bytes told = ap is_some (get_written before now name bytes told)

-- to append to a file that was written is to write more
pub IsWritten-appended : (before now after : Option Files) (name bytes piece : Bytes) → Told (IsWritten name bytes) before now → Told (IsAppended name piece) now after → Told (IsWritten name (bytes ++ piece)) before after
IsWritten-appended None None None name bytes piece told appended = tt
IsWritten-appended None None (Some after) name bytes piece told appended = appended
IsWritten-appended None (Some now) after name bytes piece told appended = absurd told
IsWritten-appended (Some before) None after name bytes piece told appended = absurd told
IsWritten-appended (Some before) (Some now) None name bytes piece told appended = appended
IsWritten-appended (Some before) (Some now) (Some after) name bytes piece told appended =
    let put = subst (λ o. MatchOption o ⊥ (λ held. after ≡ insert now name (held ++ piece))) (get_written before now name bytes told) appended in
    put ∙ ap (λ m. insert m name (bytes ++ piece)) told ∙ insert-insert before name bytes (bytes ++ piece)

-- an append that fails leaves the beginning of the whole
pub MayBeWritten-appended : (before now after : Option Files) (name front piece whole : Bytes) → ((kept : ℕ) → (n : ℕ) × (front ++ take kept piece ≡ take n whole)) → Told (IsWritten name front) before now → Told (MayBeAppended name piece) now after → Told (MayBeWritten name whole) before after
MayBeWritten-appended None None None name front piece whole begins told failed = tt
MayBeWritten-appended None None (Some after) name front piece whole begins told failed = failed
MayBeWritten-appended None (Some now) after name front piece whole begins told failed = absurd told
MayBeWritten-appended (Some before) None after name front piece whole begins told failed = absurd told
MayBeWritten-appended (Some before) (Some now) None name front piece whole begins told failed = failed
MayBeWritten-appended (Some before) (Some now) (Some after) name front piece whole begins told failed =
    let put = subst (λ o. MatchOption o (after ≡ now) (λ held. (kept : ℕ) × (after ≡ insert now name (held ++ take kept piece)))) (get_written before now name front told) failed in
    let n = begins put.0 in
    inr (n.0, put.1 ∙ ap (λ m. insert m name (front ++ take put.0 piece)) told ∙ insert-insert before name front (front ++ take put.0 piece) ∙ ap (insert before name) n.1)

-- a call that made the file may have been stopped before the first byte of it
pub MayBeWritten-created : (before after : Option Files) (name bytes : Bytes) → Told (MayBeCreated name) before after → Told (MayBeWritten name bytes) before after
MayBeWritten-created None None name bytes told = tt
MayBeWritten-created None (Some after) name bytes told = told
MayBeWritten-created (Some before) None name bytes told = told
MayBeWritten-created (Some before) (Some after) name bytes (inl same) = inl same
MayBeWritten-created (Some before) (Some after) name bytes (inr empty) = inr (0, empty)

-- a file of which something is known is there
pub MayHold-of_file : (files : Option Files) (name : Bytes) (P : Bytes → Type 0) → OfFile files name P → MayHold files name
MayHold-of_file None name P known = tt
MayHold-of_file (Some files) name P known =
    elim (get files name) as (λ o. MatchOption o ⊥ P → IsSome o) [ None ↦ λ h. absurd h | Some bytes ↦ λ h. refl ] known

-- and is not known to be missing
pub not_missing : (files : Option Files) (name : Bytes) → MayHold files name → IsMissing files name → ⊥
not_missing None name held missing = missing
not_missing (Some files) name held missing =
    elim (get files name) as (λ o. IsSome o → IsNone o → ⊥) [ None ↦ λ h n. false≢true h | Some bytes ↦ λ h n. false≢true (sym n) ] held missing

-- what follows from one fact of the file, or from two
pub OfFile-weaker : (files : Option Files) (name : Bytes) (P Q : Bytes → Type 0) → ((bytes : Bytes) → P bytes → Q bytes) → OfFile files name P → OfFile files name Q
OfFile-weaker None name P Q step known = tt
OfFile-weaker (Some files) name P Q step known =
    elim (get files name) as (λ o. MatchOption o ⊥ P → MatchOption o ⊥ Q) [ None ↦ λ h. h | Some bytes ↦ step bytes ] known

pub OfFile-both : (files : Option Files) (name : Bytes) (P Q R : Bytes → Type 0) → ((bytes : Bytes) → P bytes → Q bytes → R bytes) → OfFile files name P → OfFile files name Q → OfFile files name R
OfFile-both None name P Q R step first second = tt
OfFile-both (Some files) name P Q R step first second =
    elim (get files name) as (λ o. MatchOption o ⊥ P → MatchOption o ⊥ Q → MatchOption o ⊥ R) [ None ↦ λ h _. h | Some bytes ↦ step bytes ] first second

-- of a file that may be there a fact that always holds
pub OfFile-always : (files : Option Files) (name : Bytes) (P : Bytes → Type 0) → ((bytes : Bytes) → P bytes) → MayHold files name → OfFile files name P
OfFile-always None name P always held = tt
OfFile-always (Some files) name P always held =
    elim (get files name) as (λ o. IsSome o → MatchOption o ⊥ P) [ None ↦ λ h. absurd (false≢true h) | Some bytes ↦ λ h. always bytes ] held

-- what a call leaves is left whatever the error
pub OnErr-always : {T E P : Type 0} (r : Result T E) → P → OnErr r P
OnErr-always (Ok value) p = tt
OnErr-always (Err error) p = p

-- a fact that holds of an Ok, or of an Err
pub OnOk-from : {T E P : Type 0} (r : Result T E) → (is_ok r ≡ true → P) → OnOk r P
OnOk-from (Ok value) p = p refl
OnOk-from (Err error) p = tt

pub OnErr-from : {T E P : Type 0} (r : Result T E) → (is_ok r ≡ false → P) → OnErr r P
OnErr-from (Ok value) p = tt
OnErr-from (Err error) p = p refl
