-- At each place of a program at most one of the roles that may stand there fits a token.
use Rattle.std.proofs.Common.{◌≡◌, ℕ, Bool, true, false, not, ◌&&◌, ◌||◌, List, [], ◌∷◌, ◌++◌, cond, map, refl, sym, ap, ◌∙◌, subst, inl, inr, ◌⊎◌, Result, Ok, Err}
use Rattle.std.specs.List.{list_all}
use Rattle.std.specs.Str.{bytes_eq}
use Rattle.std.specs.Cmp.Lexicographic.{bytes_decides}
use Rattle.std.proofs.lemmas.Bool.{and_parts, and_from, or_cases, not-true, cond-true, cond-false, cases_Bool, both_ways, false≢true, cond_both}
use Rattle.std.proofs.lemmas.List.{map-append}
use Rattle.std.proofs.lemmas.List.Folds.{list_all-append}
use Rattle.mlir_lex.specs.declared.TokenKind.{TokenKind}
use Rattle.mlir_lex.specs.declared.TokenKind.TheVariants.{Word, Int, Value, Symbol, TypeName, Text, Sign}
use Rattle.fhe_text.specs.declared.fault.TextKind.{TextKind}
use Rattle.fhe_text.specs.declared.fault.TextKind.TheVariants as kinds
use Rattle.fhe_text.specs.Patterns.{Pattern, nothing, token, both, either, many}
use Rattle.std.specs.Prelude.{is_some}
use Rattle.fhe_text.specs.Numbers.{itype_of}
use Rattle.fhe_text.specs.Roles.{Spelled, Role, word, sign, scalar, range_word, argument_entry, kind_of, has_form, is_kind, fits}
use Rattle.fhe_text.specs.Grammar.{program}
use Rattle.fhe_text.specs.Conditions.{Part, meets, fault_kind}
use Rattle.fhe_text.specs.Reading.{can_be_nothing, Way, ways_into, ways, way_of}
use Rattle.fhe_text.proofs.Whole.{Among, among_parts, where_among}

-- ---- roles that no token fits both

-- equal texts
pub text_is : (a b : List ℕ) → bytes_eq a b ≡ true → a ≡ b
text_is a b h = (bytes_decides a b).0 h

pub same_text : (a : List ℕ) → bytes_eq a a ≡ true
same_text a = (bytes_decides a a).1 refl

-- no bytes have the form of both
abbrev pub texts_apart : Role → Role → Bool
texts_apart (word one) (word other) = not (bytes_eq one other)
texts_apart (sign one) (sign other) = not (bytes_eq one other)
texts_apart (word one) (scalar place) = not (is_some (itype_of one))
texts_apart range_word argument_entry = true
texts_apart _ _ = false

-- no token fits both roles
abbrev pub apart : Role → Role → Bool
apart one other = not (is_kind (kind_of one) (kind_of other)) || texts_apart one other

pub kind_is : (kind other : TokenKind) → is_kind kind other ≡ true → kind ≡ other
kind_is Word Word h = refl
kind_is Int Int h = refl
kind_is Value Value h = refl
kind_is Symbol Symbol h = refl
kind_is TypeName TypeName h = refl
kind_is Text Text h = refl
kind_is Sign Sign h = refl
kind_is _ _ h = absurd (false≢true h)

pub same_kind : (kind : TokenKind) → is_kind kind kind ≡ true
same_kind Word = refl
same_kind Int = refl
same_kind Value = refl
same_kind Symbol = refl
same_kind TypeName = refl
same_kind Text = refl
same_kind Sign = refl

texts_exclude : (one other : Role) (text : List ℕ) → texts_apart one other ≡ true → has_form one text ≡ true → has_form other text ≡ true → ⊥
texts_exclude (word one) (word other) text e h g =
    let same : one ≡ other = sym (text_is text one h) ∙ text_is text other g in
    both_ways (bytes_eq one other) (not-true (bytes_eq one other) e) (subst (λ (t : List ℕ). bytes_eq one t ≡ true) same (same_text one))
texts_exclude (sign one) (sign other) text e h g =
    let same : one ≡ other = sym (text_is text one h) ∙ text_is text other g in
    both_ways (bytes_eq one other) (not-true (bytes_eq one other) e) (subst (λ (t : List ℕ). bytes_eq one t ≡ true) same (same_text one))
texts_exclude (word one) (scalar place) text e h g =
    both_ways (is_some (itype_of one)) (not-true (is_some (itype_of one)) e) (subst (λ (t : List ℕ). is_some (itype_of t) ≡ true) (text_is text one h) g)
texts_exclude range_word argument_entry text e h g = both_ways _ (not-true _ g) h
texts_exclude _ _ text e h g = false≢true e

pub apart_excludes : (one other : Role) (next : Spelled) → apart one other ≡ true → fits one next ≡ true → fits other next ≡ true → ⊥
apart_excludes one other next e h g =
    let first = and_parts (is_kind (kind_of one) next.0) (has_form one next.1) h in
    let second = and_parts (is_kind (kind_of other) next.0) (has_form other next.1) g in
    let same : kind_of one ≡ kind_of other = kind_is (kind_of one) next.0 first.0 ∙ sym (kind_is (kind_of other) next.0 second.0) in
    elim (or_cases (not (is_kind (kind_of one) (kind_of other))) (texts_apart one other) e) [
      | inl f ↦ both_ways (is_kind (kind_of one) (kind_of other)) (not-true (is_kind (kind_of one) (kind_of other)) f) (subst (λ (k : TokenKind). is_kind (kind_of one) k ≡ true) same (same_kind (kind_of one)))
      | inr f ↦ texts_exclude one other next.1 f first.1 second.1
    ]

-- ---- patterns whose roles can be told apart

-- each role of the first is apart from each of the second
abbrev pub disjoint : List Role → List Role → Bool
disjoint ones others = list_all (λ one. list_all (apart one) others) ones

-- each role is apart from each behind it
abbrev pub all_apart : List Role → Bool
all_apart [] = true
all_apart (role ∷ roles) = list_all (apart role) roles && all_apart roles

-- the roles that may stand first in a pattern
abbrev pub firsts : Pattern Role → List Role
firsts nothing = []
firsts (token role) = role ∷ []
firsts (both p q) = firsts p ++ cond (can_be_nothing p) (firsts q) []
firsts (either p q) = firsts p ++ firsts q
firsts (many p) = firsts p

-- and in patterns in order
abbrev pub nexts : List (Pattern Role) → List Role
nexts [] = []
nexts (p ∷ rest) = firsts p ++ cond (can_be_nothing p) (nexts rest) []

-- in the pattern, before what may stand first behind it, the next token tells the way
abbrev pub is_plain : Pattern Role → List Role → Bool
is_plain nothing follow = true
is_plain (token role) follow = true
is_plain (both p q) follow = is_plain p (firsts q ++ cond (can_be_nothing q) follow []) && is_plain q follow
is_plain (either p q) follow =
    is_plain p follow && (is_plain q follow && (disjoint (firsts p) (firsts q)
    && disjoint (firsts p ++ firsts q) (cond (can_be_nothing p || can_be_nothing q) follow [])))
is_plain (many p) follow = is_plain p (firsts p ++ follow) && disjoint (firsts p) follow

abbrev pub are_plain : List (Pattern Role) → Bool
are_plain [] = true
are_plain (p ∷ rest) = is_plain p (nexts rest) && are_plain rest

-- the whole grammar is
pub grammar_is_plain : are_plain (program ∷ []) ≡ true
grammar_is_plain = refl

-- ---- lists of roles

disjoint_right : (ones others more : List Role) → disjoint ones (others ++ more) ≡ true → (disjoint ones others ≡ true) × (disjoint ones more ≡ true)
disjoint_right [] others more h = (refl, refl)
disjoint_right (one ∷ ones) others more h =
    let parts = and_parts (list_all (apart one) (others ++ more)) (disjoint ones (others ++ more)) h in
    let here = and_parts (list_all (apart one) others) (list_all (apart one) more) (sym (list_all-append (apart one) others more) ∙ parts.0) in
    let rest = disjoint_right ones others more parts.1 in
    (and_from (list_all (apart one) others) (disjoint ones others) here.0 rest.0, and_from (list_all (apart one) more) (disjoint ones more) here.1 rest.1)

disjoint_both : (ones others more : List Role) → disjoint ones more ≡ true → disjoint others more ≡ true → disjoint (ones ++ others) more ≡ true
disjoint_both ones others more h g = list_all-append (λ one. list_all (apart one) more) ones others ∙ and_from (disjoint ones more) (disjoint others more) h g

disjoint_none : (ones : List Role) → disjoint ones [] ≡ true
disjoint_none [] = refl
disjoint_none (one ∷ ones) = disjoint_none ones

all_apart_both : (ones others : List Role) → all_apart ones ≡ true → all_apart others ≡ true → disjoint ones others ≡ true → all_apart (ones ++ others) ≡ true
all_apart_both [] others h g d = g
all_apart_both (one ∷ ones) others h g d =
    let parts = and_parts (list_all (apart one) ones) (all_apart ones) h in
    let apart_parts = and_parts (list_all (apart one) others) (disjoint ones others) d in
    and_from (list_all (apart one) (ones ++ others)) (all_apart (ones ++ others))
    (list_all-append (apart one) ones others ∙ and_from (list_all (apart one) ones) (list_all (apart one) others) parts.0 apart_parts.0)
    (all_apart_both ones others parts.1 g apart_parts.1)

where_apart : (b : Bool) (roles : List Role) → all_apart roles ≡ true → all_apart (cond b roles []) ≡ true
where_apart b roles h = cond_both b roles [] (λ l. all_apart l ≡ true) (λ e. h) (λ e. refl)

where_disjoint : (b : Bool) (ones others : List Role) → (b ≡ true → disjoint ones others ≡ true) → disjoint ones (cond b others []) ≡ true
where_disjoint b ones others h = cond_both b others [] (λ l. disjoint ones l ≡ true) (λ e. h e) (λ e. disjoint_none ones)

-- ---- what a plain pattern has

-- what may be nothing has other first roles than what follows
plain_follow : (p : Pattern Role) (follow : List Role) → is_plain p follow ≡ true → can_be_nothing p ≡ true → disjoint (firsts p) follow ≡ true
plain_follow nothing follow h e = refl
plain_follow (token role) follow h e = absurd (false≢true e)
plain_follow (both p q) follow h e =
    let parts = and_parts (is_plain p (firsts q ++ cond (can_be_nothing q) follow [])) (is_plain q follow) h in
    let empty = and_parts (can_be_nothing p) (can_be_nothing q) e in
    let first : disjoint (firsts p) (cond (can_be_nothing q) follow []) ≡ true = (disjoint_right (firsts p) (firsts q) (cond (can_be_nothing q) follow []) (plain_follow p _ parts.0 empty.0)).1 in
    let before : disjoint (firsts p) follow ≡ true = subst (λ (l : List Role). disjoint (firsts p) l ≡ true) (cond-true (can_be_nothing q) follow [] empty.1) first in
    let last : disjoint (firsts q) follow ≡ true = plain_follow q follow parts.1 empty.1 in
    disjoint_both (firsts p) (cond (can_be_nothing p) (firsts q) []) follow before
    (subst (λ (l : List Role). disjoint l follow ≡ true) (sym (cond-true (can_be_nothing p) (firsts q) [] empty.0)) last)
plain_follow (either p q) follow h e =
    let parts = and_parts (is_plain p follow) _ h in
    let more = and_parts (is_plain q follow) _ parts.1 in
    let last = and_parts (disjoint (firsts p) (firsts q)) _ more.1 in
    subst (λ (l : List Role). disjoint (firsts p ++ firsts q) l ≡ true) (cond-true (can_be_nothing p || can_be_nothing q) follow [] e) last.1
plain_follow (many p) follow h e = (and_parts (is_plain p (firsts p ++ follow)) (disjoint (firsts p) follow) h).1

-- its first roles are apart
plain_firsts : (p : Pattern Role) (follow : List Role) → is_plain p follow ≡ true → all_apart (firsts p) ≡ true
plain_firsts nothing follow h = refl
plain_firsts (token role) follow h = refl
plain_firsts (both p q) follow h =
    let parts = and_parts (is_plain p (firsts q ++ cond (can_be_nothing q) follow [])) (is_plain q follow) h in
    all_apart_both (firsts p) (cond (can_be_nothing p) (firsts q) []) (plain_firsts p _ parts.0)
    (where_apart (can_be_nothing p) (firsts q) (plain_firsts q follow parts.1))
    (where_disjoint (can_be_nothing p) (firsts p) (firsts q) (λ e. (disjoint_right (firsts p) (firsts q) (cond (can_be_nothing q) follow []) (plain_follow p _ parts.0 e)).0))
plain_firsts (either p q) follow h =
    let parts = and_parts (is_plain p follow) _ h in
    let more = and_parts (is_plain q follow) _ parts.1 in
    let last = and_parts (disjoint (firsts p) (firsts q)) _ more.1 in
    all_apart_both (firsts p) (firsts q) (plain_firsts p follow parts.0) (plain_firsts q follow more.0) last.0
plain_firsts (many p) follow h = plain_firsts p (firsts p ++ follow) (and_parts (is_plain p (firsts p ++ follow)) (disjoint (firsts p) follow) h).0

plain_nexts : (patterns : List (Pattern Role)) → are_plain patterns ≡ true → all_apart (nexts patterns) ≡ true
plain_nexts [] h = refl
plain_nexts (p ∷ rest) h =
    let parts = and_parts (is_plain p (nexts rest)) (are_plain rest) h in
    all_apart_both (firsts p) (cond (can_be_nothing p) (nexts rest) []) (plain_firsts p (nexts rest) parts.0)
    (where_apart (can_be_nothing p) (nexts rest) (plain_nexts rest parts.1))
    (where_disjoint (can_be_nothing p) (firsts p) (nexts rest) (plain_follow p (nexts rest) parts.0))

-- what follows a way is plain
into_plain : (p : Pattern Role) (rest : List (Pattern Role)) (role : Role) (next : List (Pattern Role)) → is_plain p (nexts rest) ≡ true → are_plain rest ≡ true → Among (role, next) (ways_into p rest) → are_plain next ≡ true
into_plain nothing rest role next h g i = absurd i
into_plain (token other) rest role next h g (inl e) = subst (λ (l : List (Pattern Role)). are_plain l ≡ true) (sym (ap (λ (way : Way Role). way.1) e)) g
into_plain (token other) rest role next h g (inr i) = absurd i
into_plain (both p q) rest role next h g i =
    let parts = and_parts (is_plain p (firsts q ++ cond (can_be_nothing q) (nexts rest) [])) (is_plain q (nexts rest)) h in
    elim (among_parts (role, next) (ways_into p (q ∷ rest)) (cond (can_be_nothing p) (ways_into q rest) []) i) [
      | inl j ↦ into_plain p (q ∷ rest) role next parts.0 (and_from (is_plain q (nexts rest)) (are_plain rest) parts.1 g) j
      | inr j ↦ into_plain q rest role next parts.1 g (where_among (role, next) (can_be_nothing p) (ways_into q rest) j).1
    ]
into_plain (either p q) rest role next h g i =
    let parts = and_parts (is_plain p (nexts rest)) _ h in
    let more = and_parts (is_plain q (nexts rest)) _ parts.1 in
    elim (among_parts (role, next) (ways_into p rest) (ways_into q rest) i) [
      | inl j ↦ into_plain p rest role next parts.0 g j
      | inr j ↦ into_plain q rest role next more.0 g j
    ]
into_plain (many p) rest role next h g i =
    let parts = and_parts (is_plain p (firsts p ++ nexts rest)) (disjoint (firsts p) (nexts rest)) h in
    into_plain p (many p ∷ rest) role next parts.0 (and_from (is_plain (many p) (nexts rest)) (are_plain rest) h g) i

pub way_plain : (patterns : List (Pattern Role)) (role : Role) (next : List (Pattern Role)) → are_plain patterns ≡ true → Among (role, next) (ways patterns) → are_plain next ≡ true
way_plain [] role next h i = absurd i
way_plain (p ∷ rest) role next h i =
    let parts = and_parts (is_plain p (nexts rest)) (are_plain rest) h in
    elim (among_parts (role, next) (ways_into p rest) (cond (can_be_nothing p) (ways rest) []) i) [
      | inl j ↦ into_plain p rest role next parts.0 parts.1 j
      | inr j ↦ way_plain rest role next parts.1 (where_among (role, next) (can_be_nothing p) (ways rest) j).1
    ]

-- the roles of the ways are the first roles
abbrev pub roles_of : List (Way Role) → List Role
roles_of there = map (λ (way : Way Role). way.0) there

where_roles : (b : Bool) (there : List (Way Role)) → roles_of (cond b there []) ≡ cond b (roles_of there) []
where_roles true there = refl
where_roles false there = refl

pub into_roles : (p : Pattern Role) (rest : List (Pattern Role)) → roles_of (ways_into p rest) ≡ firsts p
into_roles nothing rest = refl
into_roles (token role) rest = refl
into_roles (both p q) rest =
    map-append (λ (way : Way Role). way.0) (ways_into p (q ∷ rest)) (cond (can_be_nothing p) (ways_into q rest) [])
    ∙ ap (λ l. l ++ roles_of (cond (can_be_nothing p) (ways_into q rest) [])) (into_roles p (q ∷ rest))
    ∙ ap (λ l. firsts p ++ l) (where_roles (can_be_nothing p) (ways_into q rest) ∙ ap (λ l. cond (can_be_nothing p) l []) (into_roles q rest))
into_roles (either p q) rest =
    map-append (λ (way : Way Role). way.0) (ways_into p rest) (ways_into q rest)
    ∙ ap (λ l. l ++ roles_of (ways_into q rest)) (into_roles p rest)
    ∙ ap (λ l. firsts p ++ l) (into_roles q rest)
into_roles (many p) rest = into_roles p (many p ∷ rest)

ways_roles : (patterns : List (Pattern Role)) → roles_of (ways patterns) ≡ nexts patterns
ways_roles [] = refl
ways_roles (p ∷ rest) =
    map-append (λ (way : Way Role). way.0) (ways_into p rest) (cond (can_be_nothing p) (ways rest) [])
    ∙ ap (λ l. l ++ roles_of (cond (can_be_nothing p) (ways rest) [])) (into_roles p rest)
    ∙ ap (λ l. firsts p ++ l) (where_roles (can_be_nothing p) (ways rest) ∙ ap (λ l. cond (can_be_nothing p) l []) (ways_roles rest))

pub ways_apart : (patterns : List (Pattern Role)) → are_plain patterns ≡ true → all_apart (roles_of (ways patterns)) ≡ true
ways_apart patterns h = subst (λ (l : List Role). all_apart l ≡ true) (sym (ways_roles patterns)) (plain_nexts patterns h)

-- ---- the way of a token

-- what the way of a token is, where it fits the role
abbrev pub judged : List Part → Way Role → Spelled → Result (Way Role) TextKind
judged before way next = cond (meets before way.0 next.1) (Ok way) (Err (fault_kind way.0))

-- a role that is apart from all others is among them only if no token fits it too
apart_among : (one : Role) (there : List (Way Role)) (way : Way Role) → list_all (apart one) (roles_of there) ≡ true → Among way there → apart one way.0 ≡ true
apart_among one [] way h i = absurd i
apart_among one (other ∷ there) way h (inl e) = subst (λ (w : Way Role). apart one w.0 ≡ true) (sym e) (and_parts (apart one other.0) _ h).0
apart_among one (other ∷ there) way h (inr i) = apart_among one there way (and_parts (apart one other.0) _ h).1 i

-- the way that a token fits is its way
pub way_that_fits : (there : List (Way Role)) (before : List Part) (way : Way Role) (next : Spelled) → all_apart (roles_of there) ≡ true → Among way there → fits way.0 next ≡ true → way_of there before next ≡ judged before way next
way_that_fits [] before way next h i f = absurd i
way_that_fits (other ∷ there) before way next h (inl e) f =
    subst (λ (w : Way Role). way_of (w ∷ there) before next ≡ judged before way next) e (cond-true (fits way.0 next) (judged before way next) (way_of there before next) f)
way_that_fits (other ∷ there) before way next h (inr i) f =
    let parts = and_parts (list_all (apart other.0) (roles_of there)) (all_apart (roles_of there)) h in
    let excluded = apart_excludes other.0 way.0 next (apart_among other.0 there way parts.0 i) in
    elim (cases_Bool (fits other.0 next)) [
      | inl g ↦ absurd (excluded g f)
      | inr g ↦ cond-false (fits other.0 next) (judged before other next) (way_of there before next) g ∙ way_that_fits there before way next parts.1 i f
    ]

-- what is known of a token's way: one that it fits, or none
abbrev pub IsWayOf : List (Way Role) → List Part → Spelled → Result (Way Role) TextKind → Type 0
IsWayOf there before next (Ok way) = Among way there × (fits way.0 next ≡ true) × (meets before way.0 next.1 ≡ true)
IsWayOf there before next (Err kind) =
    ((way : Way Role) × Among way there × (fits way.0 next ≡ true) × (meets before way.0 next.1 ≡ false) × (kind ≡ fault_kind way.0))
    ⊎ (((way : Way Role) → Among way there → fits way.0 next ≡ true → ⊥) × (kind ≡ kinds.Syntax))

is_way_behind : (other : Way Role) (there : List (Way Role)) (before : List Part) (next : Spelled) (found : Result (Way Role) TextKind) → fits other.0 next ≡ false → IsWayOf there before next found → IsWayOf (other ∷ there) before next found
is_way_behind other there before next (Ok way) g h = (inr h.0, h.1, h.2)
is_way_behind other there before next (Err kind) g (inl h) = inl (h.0, inr h.1, h.2, h.3, h.4)
is_way_behind other there before next (Err kind) g (inr h) = inr (none, h.1)
  where
    none : (way : Way Role) → Among way (other ∷ there) → fits way.0 next ≡ true → ⊥
    none way (inl e) f = both_ways (fits other.0 next) g (subst (λ (w : Way Role). fits w.0 next ≡ true) e f)
    none way (inr i) f = h.0 way i f

is_way_here : (other : Way Role) (there : List (Way Role)) (before : List Part) (next : Spelled) (b : Bool) → meets before other.0 next.1 ≡ b → fits other.0 next ≡ true → IsWayOf (other ∷ there) before next (cond b (Ok other) (Err (fault_kind other.0)))
is_way_here other there before next true e g = (inl refl, g, e)
is_way_here other there before next false e g = inl (other, inl refl, g, e, refl)

pub way_of-is : (there : List (Way Role)) (before : List Part) (next : Spelled) → IsWayOf there before next (way_of there before next)
way_of-is [] before next = inr (λ way i f. i, refl)
way_of-is (other ∷ there) before next =
    cond_both (fits other.0 next) (judged before other next) (way_of there before next) (λ found. IsWayOf (other ∷ there) before next found)
    (λ g. is_way_here other there before next (meets before other.0 next.1) refl g)
    (λ g. is_way_behind other there before next (way_of there before next) g (way_of-is there before next))
