-- What parts add to what is read off them, whatever stands behind.
use Rattle.std.proofs.Common.{◌≡◌, ℕ, Bool, true, false, ◌||◌, List, [], ◌∷◌, ◌++◌, refl, sym, ap, ◌∙◌, subst, inl, inr}
use Rattle.std.specs.List.{list_any, AllByRecursion}
use Rattle.std.proofs.lemmas.Bool.{cond-true, cond-false, or_parts}
use Rattle.std.proofs.lemmas.List.{append-nil, append_assoc}
use Rattle.std.proofs.lemmas.List.Folds.{list_any-append}
use Rattle.fhe_text.specs.Patterns.{Pattern, nothing, token, both, either, many, IsWhole, joined}
use Rattle.fhe_text.specs.Roles.{Spelled, Place, of_argument, of_function, of_operand, of_operation, of_return, Role, width, scalar, tensor_length}
use Rattle.fhe_text.specs.Conditions.{Part, texts_in}
use Rattle.fhe_text.specs.Program.{is_place, type_at, types_in, roles_in}

-- what is read off the parts and those behind them is this, and then what is read off those behind
pub record Adds {X : Type 0} (read : List Part → List X) (parts : List Part) (found : List X) : Type 0 where
  pub adds : (rest : List Part) → read (parts ++ rest) ≡ found ++ read rest

pub adds_both : {X : Type 0} {read : List Part → List X} {p q : List Part} {xs ys : List X} → Adds read p xs → Adds read q ys → Adds read (p ++ q) (xs ++ ys)
adds_both {X} {read} {p} {q} {xs} {ys} one other = record {
  adds = λ rest. ap read (append_assoc p q rest) ∙ one.adds (q ++ rest) ∙ ap (λ l. xs ++ l) (other.adds rest) ∙ sym (append_assoc xs ys (read rest));
}

pub adds_more : {X : Type 0} {read : List Part → List X} {p q : List Part} {xs : List X} → Adds read p xs → Adds read q [] → Adds read (p ++ q) xs
adds_more {X} {read} {p} {q} {xs} one other = subst (λ l. Adds read (p ++ q) l) (append-nil xs) (adds_both one other)

-- with nothing behind them
pub adds_all : {X : Type 0} {read : List Part → List X} {p : List Part} {xs : List X} → Adds read p xs → read [] ≡ [] → read p ≡ xs
adds_all {X} {read} {p} {xs} h e = ap read (sym (append-nil p)) ∙ h.adds [] ∙ ap (λ l. xs ++ l) e ∙ append-nil xs

-- ---- roles that stand nowhere in a pattern

-- a role of the pattern passes the test
abbrev pub has_role : (Role → Bool) → Pattern Role → Bool
has_role test nothing = false
has_role test (token role) = test role
has_role test (both p q) = has_role test p || has_role test q
has_role test (either p q) = has_role test p || has_role test q
has_role test (many p) = has_role test p

neither : (a b : Bool) → a ≡ false → b ≡ false → (a || b) ≡ false
neither a b e f = ap (λ x. x || b) e ∙ f

no_role_many : (test : Role → Bool) (p : Pattern Role) (one : (roles : List Role) → IsWhole p roles → list_any test roles ≡ false) (items : List (List Role)) → AllByRecursion (λ i. IsWhole p i) items → list_any test (joined items) ≡ false
no_role_many test p one [] all = refl
no_role_many test p one (i ∷ items) all = list_any-append test i (joined items) ∙ neither (list_any test i) (list_any test (joined items)) (one i all.0) (no_role_many test p one items all.1)

pub no_role : (test : Role → Bool) (p : Pattern Role) (roles : List Role) → has_role test p ≡ false → IsWhole p roles → list_any test roles ≡ false
no_role test nothing roles e h = ap (λ l. list_any test l) h
no_role test (token role) roles e h = ap (λ l. list_any test l) h ∙ ap (λ b. b || false) e
no_role test (both p q) roles e h =
    let parts = or_parts (has_role test p) (has_role test q) e in
    ap (λ l. list_any test l) h.2 ∙ list_any-append test h.0 h.1
    ∙ neither (list_any test h.0) (list_any test h.1) (no_role test p h.0 parts.0 h.3) (no_role test q h.1 parts.1 h.4)
no_role test (either p q) roles e (inl h) = no_role test p roles (or_parts (has_role test p) (has_role test q) e).0 h
no_role test (either p q) roles e (inr h) = no_role test q roles (or_parts (has_role test p) (has_role test q) e).1 h
no_role test (many p) roles e h = ap (λ l. list_any test l) h.1 ∙ no_role_many test p (λ rs w. no_role test p rs e w) h.0 h.2

-- a test that none passes, and one that passes less
pub all_quiet : (wide test : Role → Bool) (roles : List Role) → ((role : Role) → wide role ≡ false → test role ≡ false) → list_any wide roles ≡ false → list_any test roles ≡ false
all_quiet wide test [] quiet e = refl
all_quiet wide test (role ∷ roles) quiet e =
    let both_none = or_parts (wide role) (list_any wide roles) e in
    neither (test role) (list_any test roles) (quiet role both_none.0) (all_quiet wide test roles quiet both_none.1)

-- ---- texts

texts_none : (test : Role → Bool) (parts rest : List Part) → list_any test (roles_in parts) ≡ false → texts_in test (parts ++ rest) ≡ texts_in test rest
texts_none test [] rest e = refl
texts_none test (part ∷ parts) rest e =
    let both_none = or_parts (test part.0) (list_any test (roles_in parts)) e in
    cond-false (test part.0) (part.1.1 ∷ texts_in test (parts ++ rest)) (texts_in test (parts ++ rest)) both_none.0 ∙ texts_none test parts rest both_none.1

-- a pattern without such a role adds no text
pub no_texts : (p : Pattern Role) (test : Role → Bool) (parts : List Part) → has_role test p ≡ false → IsWhole p (roles_in parts) → Adds (texts_in test) parts []
no_texts p test parts e h = record { adds = λ rest. texts_none test parts rest (no_role test p (roles_in parts) e h) }

pub quiet_texts : (test : Role → Bool) (parts : List Part) → list_any test (roles_in parts) ≡ false → Adds (texts_in test) parts []
quiet_texts test parts e = record { adds = λ rest. texts_none test parts rest e }

-- one token adds its bytes
pub one_text : (test : Role → Bool) (role : Role) (found : Spelled) (parts : List Part) → test role ≡ true → parts ≡ (role, found) ∷ [] → Adds (texts_in test) parts (found.1 ∷ [])
one_text test role found parts e h = record { adds = λ rest. ap (λ ps. texts_in test (ps ++ rest)) h ∙ cond-true (test role) (found.1 ∷ texts_in test rest) (texts_in test rest) e }

-- ---- types

-- a type at the place begins with the role
abbrev pub writes : Place → Role → Bool
writes place (width other) = is_place place other
writes place (scalar other) = is_place place other
writes place (tensor_length other) = is_place place other
writes place _ = false

no_type : (place : Place) (role : Role) (text : List ℕ) (parts : List Part) → writes place role ≡ false → type_at place role text parts ≡ []
no_type place (width other) text parts e = cond-false (is_place place other) _ _ e
no_type place (scalar other) text parts e = cond-false (is_place place other) _ _ e
no_type place (tensor_length other) text parts e = cond-false (is_place place other) _ _ e
no_type place _ text parts e = refl

types_none : (place : Place) (parts rest : List Part) → list_any (writes place) (roles_in parts) ≡ false → types_in place (parts ++ rest) ≡ types_in place rest
types_none place [] rest e = refl
types_none place (part ∷ parts) rest e =
    let both_none = or_parts (writes place part.0) (list_any (writes place) (roles_in parts)) e in
    ap (λ l. l ++ types_in place (parts ++ rest)) (no_type place part.0 part.1.1 (parts ++ rest) both_none.0) ∙ types_none place parts rest both_none.1

-- a pattern without a type at the place adds none
pub no_types : (p : Pattern Role) (place : Place) (parts : List Part) → has_role (writes place) p ≡ false → IsWhole p (roles_in parts) → Adds (types_in place) parts []
no_types p place parts e h = record { adds = λ rest. types_none place parts rest (no_role (writes place) p (roles_in parts) e h) }

pub quiet_types : (place : Place) (parts : List Part) → list_any (writes place) (roles_in parts) ≡ false → Adds (types_in place) parts []
quiet_types place parts e = record { adds = λ rest. types_none place parts rest e }

pub same_place : (place : Place) → is_place place place ≡ true
same_place of_argument = refl
same_place of_function = refl
same_place of_operand = refl
same_place of_operation = refl
same_place of_return = refl
