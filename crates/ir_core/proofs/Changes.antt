-- what the changes of a graph do to the uses of a value and to what stands before what
use Rattle.std.proofs.Common.{◌≡◌, ◌≢◌, ℕ, zero, suc, ◌+◌, ◌<◌, ◌≤◌, List, [], ◌∷◌, ◌++◌, length, map, All, sym, refl, ap, ◌∙◌, subst, inl, inr, ◌↔◌, arith}
use Rattle.std.specs.List.{insert, remove, Contains}
use Rattle.std.specs.List.Sorted.{IsPermutation}
use Rattle.std.proofs.lemmas.Bool.Decides.{eqb_tells}
use Rattle.std.proofs.lemmas.Bool.{cases_lt}
use Rattle.std.proofs.lemmas.List.{length-map}
use Rattle.std.proofs.lemmas.List.Edits.{insert_end}
use Rattle.std.proofs.lemmas.List.Elements.{All-nil, All-cons, All-append, All-contains}
use Rattle.std.proofs.lemmas.List.Sorted.{IsPermutation-insert, IsPermutation-sym, Contains-permutation}
use Rattle.ir_core.specs.Graph.{Operations, IsGraph, Holds, StandsBefore, place_of, numbers_of, pushed, inserted_before, erased, renamed, renamed_in, renamed_list, uses_replaced, uses_from, uses_of}
use Rattle.ir_core.proofs.Places.{place_at_most, holds_from_place, place_of-insert, place_of_inserted, before_after_insert, before_before_insert}
use Rattle.ir_core.proofs.Kept.{first_or_later, later_there, changed_there}

-- what holds of each operand that holds the value holds of each use among them
all_from : (P : ℕ × ℕ → Type 0) (place user : ℕ) (operands : List ℕ) (value : ℕ) → (Contains operands value → (at : ℕ) → P (user, at)) → All P (uses_from place user operands value)
all_from P place user [] value each = All-nil P
all_from P place user (operand ∷ rest) value each =
    let later : All P (uses_from (place + 1) user rest value) = all_from P (place + 1) user rest value (λ there at. each (later_there _ _ _ there) at) in
    elim (eqb_tells operand value) [
      | inl same ↦ rw same.0 (All-cons P (user, place) (uses_from (place + 1) user rest value) (each (0, omega arith, same.1) place) later)
      | inr other ↦ rw other.0 later
    ]

-- what holds of each operation that holds the value holds of each use
all_uses : {Op : Type 0} (P : ℕ × ℕ → Type 0) (operands : Op → List ℕ) (list : List (ℕ × Op)) (value : ℕ) → ((user : ℕ) (op : Op) → Contains list (user, op) → Contains (operands op) value → (at : ℕ) → P (user, at)) → All P (uses_of operands list value)
all_uses P operands [] value each = All-nil P
all_uses P operands (entry ∷ rest) value each =
    All-append P (uses_from 0 entry.0 (operands entry.1) value) (uses_of operands rest value)
    (all_from P 0 entry.0 (operands entry.1) value (each entry.0 entry.1 (0, omega arith, refl)))
    (all_uses P operands rest value (λ user op there. each user op (later_there _ _ _ there)))

-- a list of which nothing holds has no element
none_of_all : {X : Type 0} (xs : List X) → All (λ _. ⊥) xs → xs ≡ []
none_of_all [] none = refl
none_of_all (x ∷ xs) none = absurd (none 0 x (omega arith))

-- a value that no operation takes has no uses
unused : {Op : Type 0} (operands : Op → List ℕ) (list : List (ℕ × Op)) (value : ℕ) → ((user : ℕ) (op : Op) → Contains list (user, op) → Contains (operands op) value → ⊥) → uses_of operands list value ≡ []
unused operands list value none = none_of_all (uses_of operands list value) (all_uses (λ _. ⊥) operands list value (λ user op there holds _. none user op there holds))

pub users_after : {Op : Type 0} (operands : Op → List ℕ) (graph : Operations Op) (value : ℕ) → IsGraph operands graph → All (λ use_. StandsBefore graph.list value use_.0) (uses_of operands graph.list value)
users_after operands graph value keeps =
    all_uses (λ use_. StandsBefore graph.list value use_.0) operands graph.list value (λ user op there holds _. keeps.earlier user value op there holds)

pub before_there : {Op : Type 0} (list : List (ℕ × Op)) (a b : ℕ) → StandsBefore list a b → Holds list a
before_there list a b before = holds_from_place list a (omega (arith, before, place_at_most list b))

-- the next number is not there
made_absent : {Op : Type 0} (operands : Op → List ℕ) (graph : Operations Op) (number : ℕ) → IsGraph operands graph → Holds graph.list number → graph.made ≢ number
made_absent operands graph number keeps there same =
    let below : number < graph.made = All-contains (λ n. n < graph.made) (numbers_of graph.list) number keeps.given there in
    omega (arith, below, same)

-- so its place is past the end
made_past : {Op : Type 0} (operands : Op → List ℕ) (graph : Operations Op) → IsGraph operands graph → length graph.list ≤ place_of graph.list graph.made
made_past operands graph keeps =
    elim (cases_lt (place_of graph.list graph.made) (length graph.list)) [
      | inl there ↦ absurd (made_absent operands graph graph.made keeps (holds_from_place graph.list graph.made there) refl)
      | inr past ↦ past
    ]

-- what is put in, and takes what was there, has no uses
put_unused : {Op : Type 0} (operands : Op → List ℕ) (graph : Operations Op) (i : ℕ) (op : Op) → IsGraph operands graph → ((value : ℕ) → Contains (operands op) value → Holds graph.list value) → uses_of operands (insert graph.list i (graph.made, op)) graph.made ≡ []
put_unused {Op} operands graph i op keeps takes =
    let entries : IsPermutation ((graph.made, op) ∷ graph.list) (insert graph.list i (graph.made, op)) = IsPermutation-insert graph.list i (graph.made, op) in
    unused operands (insert graph.list i (graph.made, op)) graph.made (λ user user_op there holds.
    elim (first_or_later _ _ _ (Contains-permutation _ _ _ (IsPermutation-sym _ _ entries) there)) [
      | inl same ↦ made_absent operands graph graph.made keeps (takes graph.made (subst (λ (o : Op). Contains (operands o) graph.made) (sym (ap (λ (e : ℕ × Op). e.1) same)) holds)) refl
      | inr old ↦ made_absent operands graph graph.made keeps (before_there graph.list graph.made user (keeps.earlier user graph.made user_op old holds)) refl
    ])

pub push_unused : {Op : Type 0} (operands : Op → List ℕ) (graph : Operations Op) (op : Op) → IsGraph operands graph → All (Holds graph.list) (operands op) → uses_of operands (pushed graph op).list graph.made ≡ []
push_unused operands graph op keeps there =
    ap (λ list. uses_of operands list graph.made) (sym (insert_end graph.list (graph.made, op)))
    ∙ put_unused operands graph (length graph.list) op keeps (λ value held. All-contains (Holds graph.list) (operands op) value there held)

pub insertion_unused : {Op : Type 0} (operands : Op → List ℕ) (graph : Operations Op) (place : ℕ) (op : Op) → IsGraph operands graph → All (λ value. StandsBefore graph.list value place) (operands op) → uses_of operands (inserted_before graph place op).list graph.made ≡ []
insertion_unused operands graph place op keeps earlier =
    put_unused operands graph (place_of graph.list place) op keeps
    (λ value held. before_there graph.list value place (All-contains (λ v. StandsBefore graph.list v place) (operands op) value earlier held))

pub insertion_before : {Op : Type 0} (operands : Op → List ℕ) (graph : Operations Op) (place : ℕ) (op : Op) → IsGraph operands graph → Holds graph.list place → place_of (inserted_before graph place op).list graph.made + 1 ≡ place_of (inserted_before graph place op).list place
insertion_before operands graph place op keeps there =
    let i = place_of graph.list place in
    let within = place_at_most graph.list place in
    let new = place_of_inserted graph.list i graph.made op within (omega (arith, within, made_past operands graph keeps)) in
    let moved = (place_of-insert graph.list i (graph.made, op) place within (made_absent operands graph place keeps there)).1 (omega arith) in
    omega (arith, new, moved)

pub insertion_keeps : {Op : Type 0} (operands : Op → List ℕ) (graph : Operations Op) (place : ℕ) (op : Op) (a b : ℕ) → IsGraph operands graph → Holds graph.list a → Holds graph.list b → StandsBefore (inserted_before graph place op).list a b ↔ StandsBefore graph.list a b
insertion_keeps operands graph place op a b keeps a_there b_there =
    let i = place_of graph.list place in
    let within = place_at_most graph.list place in
    let not_a = made_absent operands graph a keeps a_there in
    let not_b = made_absent operands graph b keeps b_there in
    (before_before_insert graph.list i (graph.made, op) a b within not_a not_b, before_after_insert graph.list i (graph.made, op) a b within not_a not_b)

-- a value for which another was put is not among the values
renamed_gone : (from to : ℕ) (values : List ℕ) → from ≢ to → Contains (map (renamed from to) values) from → ⊥
renamed_gone from to [] differs (k, within, at) = absurd (omega arith)
renamed_gone from to (first ∷ rest) differs (zero, within, at) =
    elim (eqb_tells first from) [
      | inl same ↦ let put = rw same.0 at at in differs (sym put)
      | inr other ↦ let stays = rw other.0 at at in other.1 stays
    ]
renamed_gone from to (first ∷ rest) differs (suc k, within, at) = renamed_gone from to rest differs (k, omega arith, at)

pub replaced_unused : {Op : Type 0} (operands : Op → List ℕ) (with_operands : Op → List ℕ → Op) (put_is_read : (op : Op) (values : List ℕ) → length values ≡ length (operands op) → operands (with_operands op values) ≡ values) (graph : Operations Op) (from to : ℕ) → from ≢ to → uses_of operands (uses_replaced operands with_operands graph from to).list from ≡ []
replaced_unused {Op} operands with_operands put_is_read graph from to differs =
    let change : Op → Op = renamed_in operands with_operands from to in
    let read : (op : Op) → operands (change op) ≡ map (renamed from to) (operands op) = λ op. put_is_read op (map (renamed from to) (operands op)) (length-map (operands op) (renamed from to)) in
    unused operands (renamed_list operands with_operands from to graph.list) from (λ user op there holds.
    let was = changed_there change graph.list user op there in
    let held : Contains (map (renamed from to) (operands was.0)) from = subst (λ (values : List ℕ). Contains values from) (ap operands was.2 ∙ read was.0) holds in
    renamed_gone from to (operands was.0) differs held)

-- the last element is taken away
remove_last : {X : Type 0} (xs : List X) (x : X) (i : ℕ) → i ≡ length xs → remove (xs ++ x ∷ []) i ≡ xs
remove_last [] x zero at = refl
remove_last [] x (suc i) at = absurd (omega arith)
remove_last (y ∷ ys) x zero at = absurd (omega arith)
remove_last (y ∷ ys) x (suc i) at = ap (λ zs. y ∷ zs) (remove_last ys x i (omega arith))

pub push_erased : {Op : Type 0} (operands : Op → List ℕ) (graph : Operations Op) (op : Op) → IsGraph operands graph → erased (pushed graph op) graph.made ≡ record { list = graph.list; made = graph.made + 1 }
push_erased {Op} operands graph op keeps =
    let last : place_of (insert graph.list (length graph.list) (graph.made, op)) graph.made ≡ length graph.list = place_of_inserted graph.list (length graph.list) graph.made op (omega arith) (made_past operands graph keeps) in
    let at : place_of (pushed graph op).list graph.made ≡ length graph.list = ap (λ list. place_of list graph.made) (sym (insert_end graph.list (graph.made, op))) ∙ last in
    ap (λ (list : List (ℕ × Op)). record { list = list; made = graph.made + 1 }) (remove_last graph.list (graph.made, op) (place_of (pushed graph op).list graph.made) at)
