-- The reader's steps against the tokens in their roles: tokens, one step behind another, choices and lists.
use Rattle.std.proofs.Common.{◌≡◌, ℕ, Bool, true, false, ◌&&◌, ◌||◌, List, [], ◌∷◌, ◌++◌, length, cond, refl, sym, ap, ◌∙◌, subst, inl, inr, ◌⊎◌, Option, Some, None, Result, Ok, Err}
use Rattle.std.specs.Prelude.{is_some}
use Rattle.std.specs.List.{list_all, list_any}
use Rattle.std.proofs.lemmas.Bool.{cond_both, cond-true, cond-false, cases_Bool, and_from, and_left, and_right, or_parts}
use Rattle.std.proofs.lemmas.List.{append-nil, append_assoc, map-append}
use Rattle.refusals.specs.Reading.{◌>>=◌}
use Rattle.fhe_text.specs.declared.fault.Wrong.{Wrong}
use Rattle.fhe_text.specs.declared.fault.TextKind.{TextKind}
use Rattle.fhe_text.specs.declared.fault.TextKind.TheVariants as kinds
use Rattle.fhe_text.specs.Patterns.{Pattern, token, both, either, many, IsWhole, optional}
use Rattle.fhe_text.specs.Roles.{Spelled, Role, kind_of, has_form, is_kind, fits}
use Rattle.fhe_text.specs.Conditions.{Part, meets, fault_kind}
use Rattle.fhe_text.specs.Program.{tokens_in, roles_in}
use Rattle.fhe_text.specs.Reading.{can_be_nothing, Way, ways_into, ways, way_of, wrong_end, behind_token, parts_from}
use Rattle.fhe_text.specs.Descent.{Read, wrong_at, kind_at, role_at, some_or}
use Rattle.fhe_text.proofs.Plain.{roles_of, firsts, into_roles}

-- what a step of the reader gives: a value and the tokens behind its parts, which are the pattern and fit the value; or
-- the fault of the text
abbrev pub ReadsAs : {A : Type 0} → Pattern Role → List Part → List Spelled → (A → List Part → Type 0) → Read A → Type 0
ReadsAs p before tokens Fit (Ok x) =
    (parts : List Part) × (tokens ≡ tokens_in parts ++ x.1) × IsWhole p (roles_in parts) × Fit x.0 parts
    × ((others : List (Pattern Role)) → parts_from (p ∷ others) before tokens ≡ parts_from others (before ++ parts) x.1)
ReadsAs p before tokens Fit (Err wrong) = (others : List (Pattern Role)) → parts_from (p ∷ others) before tokens ≡ Err wrong

-- a step of the reader reads the tokens in the roles of the pattern
pub record IsReadBy {A : Type 0} (p : Pattern Role) (before : List Part) (tokens : List Spelled) (Fit : A → List Part → Type 0) (read : Read A) : Type 0 where
  pub is_read : ReadsAs p before tokens Fit read

-- ---- a token

-- one token in the role, with these bytes
pub record IsToken (role : Role) (text : List ℕ) (parts : List Part) : Type 0 where
  pub found : Spelled
  pub text_is : text ≡ found.1
  pub parts_are : parts ≡ (role, found) ∷ []

-- one token in the role, whose bytes spell the value
pub record IsSpelledBy {A : Type 0} (role : Role) (value : List ℕ → Option A) (x : A) (parts : List Part) : Type 0 where
  pub found : Spelled
  pub value_is : Some x ≡ value found.1
  pub parts_are : parts ≡ (role, found) ∷ []

-- the way of one role
one_way : (role : Role) (others : List (Pattern Role)) (before : List Part) (next : Spelled) (behind : List Spelled) (found : Result (Way Role) TextKind) → way_of ((role, others) ∷ []) before next ≡ found → parts_from (token role ∷ others) before (next ∷ behind) ≡ behind_token found (λ way. parts_from way.1 (before ++ (way.0, next) ∷ []) behind) (length (next ∷ behind))
one_way role others before next behind found e = ap (λ f. behind_token f (λ way. parts_from way.1 (before ++ (way.0, next) ∷ []) behind) (length (next ∷ behind))) e

no_form : (role : Role) (others : List (Pattern Role)) (before : List Part) (next : Spelled) (behind : List Spelled) → fits role next ≡ false → parts_from (token role ∷ others) before (next ∷ behind) ≡ Err (wrong_at kinds.Syntax (next ∷ behind))
no_form role others before next behind e = one_way role others before next behind (Err kinds.Syntax) (cond-false (fits role next) _ _ e)

-- a step behind a token of the role's kind: a value and what is behind, or the fault of its form or of its condition
abbrev pub Steps : {A : Type 0} → Role → List Part → List Spelled → (A → List Part → Type 0) → Spelled → List Spelled → Read A → Type 0
Steps role before tokens Fit found rest (Ok x) = (x.1 ≡ rest) × (has_form role found.1 ≡ true) × (meets before role found.1 ≡ true) × Fit x.0 ((role, found) ∷ [])
Steps role before tokens Fit found rest (Err wrong) =
    ((wrong ≡ wrong_at kinds.Syntax tokens) × (has_form role found.1 ≡ false))
    ⊎ ((wrong ≡ wrong_at (fault_kind role) tokens) × (has_form role found.1 ≡ true) × (meets before role found.1 ≡ false))

-- a token in the role
pub token_by : {A : Type 0} (role : Role) (before : List Part) (tokens : List Spelled) (Fit : A → List Part → Type 0) (step : List ℕ × List Spelled → Read A) → ((found : Spelled) (rest : List Spelled) → Steps role before tokens Fit found rest (step (found.1, rest))) → IsReadBy (token role) before tokens Fit (kind_at (kind_of role) tokens >>= step)
unfolding kind_at
token_by role before [] Fit step h = record { is_read = λ others. refl }
token_by {A} role before (next ∷ behind) Fit step h =
    cond_both (is_kind (kind_of role) next.0) (Ok (next.1, behind)) (Err (wrong_at kinds.Syntax (next ∷ behind)))
    (λ r. IsReadBy (token role) before (next ∷ behind) Fit (r >>= step))
    (λ e. stepped (step (next.1, behind)) e (h next behind))
    (λ e. record { is_read = λ others. no_form role others before next behind (and_left (is_kind (kind_of role) next.0) (has_form role next.1) e) })
  where
    stepped : (r : Read A) → is_kind (kind_of role) next.0 ≡ true → Steps role before (next ∷ behind) Fit next behind r → IsReadBy (token role) before (next ∷ behind) Fit r
    stepped (Ok x) e s = record {
      is_read = (
        (role, next) ∷ [],
        ap (λ l. next ∷ l) (sym s.0),
        refl,
        s.3,
        λ others. one_way role others before next behind (Ok (role, others)) (cond-true (fits role next) _ _ (and_from _ _ e s.1) ∙ cond-true (meets before role next.1) _ _ s.2)
            ∙ ap (λ l. parts_from others (before ++ (role, next) ∷ []) l) (sym s.0),
      );
    }
    stepped (Err wrong) e (inl s) = record {
      is_read =
          λ others. no_form role others before next behind (and_right (is_kind (kind_of role) next.0) (has_form role next.1) s.1) ∙ ap (λ w. Err w) (sym s.0);
    }
    stepped (Err wrong) e (inr s) = record {
      is_read =
          λ others. one_way role others before next behind (Err (fault_kind role)) (cond-true (fits role next) _ _ (and_from _ _ e s.1) ∙ cond-false (meets before role next.1) _ _ s.2) ∙ ap (λ w. Err w) (sym s.0);
    }

-- a token in a role that has no condition
pub plain_token : (role : Role) (before : List Part) (tokens : List Spelled) → ((text : List ℕ) → meets before role text ≡ true) → IsReadBy (token role) before tokens (IsToken role) (role_at role tokens)
unfolding role_at
plain_token role before tokens same =
    token_by role before tokens (IsToken role) (λ found. cond (has_form role found.0) (Ok found) (Err (wrong_at kinds.Syntax tokens)))
    (λ found rest. cond_both (has_form role found.1) (Ok (found.1, rest)) (Err (wrong_at kinds.Syntax tokens)) (λ r. Steps role before tokens (IsToken role) found rest r)
    (λ e. (refl, e, same found.1, record { found = found; text_is = refl; parts_are = refl }))
    (λ e. inl (refl, e)))

-- a value that the token spells, and else the fault of its form
pub formed_token : {A : Type 0} (role : Role) (before : List Part) (tokens : List Spelled) (value : List ℕ → Option A) → ((text : List ℕ) → has_form role text ≡ is_some (value text)) → ((text : List ℕ) → meets before role text ≡ true) → IsReadBy (token role) before tokens (IsSpelledBy role value) (kind_at (kind_of role) tokens >>= λ found. some_or (value found.0) found.1 (wrong_at kinds.Syntax tokens))
formed_token {A} role before tokens value form same =
    token_by role before tokens (IsSpelledBy role value) (λ found. some_or (value found.0) found.1 (wrong_at kinds.Syntax tokens))
    (λ found rest. by_value found rest (value found.1) refl)
  where
    by_value : (found : Spelled) (rest : List Spelled) (o : Option A) → value found.1 ≡ o → Steps role before tokens (IsSpelledBy role value) found rest (some_or o rest (wrong_at kinds.Syntax tokens))
    by_value found rest (Some x) e = (refl, form found.1 ∙ ap is_some e, same found.1, record { found = found; value_is = sym e; parts_are = refl })
    by_value found rest None e = inl (refl, form found.1 ∙ ap is_some e)

-- a value that the token spells, and else the fault of its condition
pub judged_token : {A : Type 0} (role : Role) (before : List Part) (tokens : List Spelled) (value : List ℕ → Option A) → ((text : List ℕ) → has_form role text ≡ true) → ((text : List ℕ) → meets before role text ≡ is_some (value text)) → IsReadBy (token role) before tokens (IsSpelledBy role value) (kind_at (kind_of role) tokens >>= λ found. some_or (value found.0) found.1 (wrong_at (fault_kind role) tokens))
judged_token {A} role before tokens value form same =
    token_by role before tokens (IsSpelledBy role value) (λ found. some_or (value found.0) found.1 (wrong_at (fault_kind role) tokens))
    (λ found rest. by_value found rest (value found.1) refl)
  where
    by_value : (found : Spelled) (rest : List Spelled) (o : Option A) → value found.1 ≡ o → Steps role before tokens (IsSpelledBy role value) found rest (some_or o rest (wrong_at (fault_kind role) tokens))
    by_value found rest (Some x) e = (refl, form found.1, same found.1 ∙ ap is_some e, record { found = found; value_is = sym e; parts_are = refl })
    by_value found rest None e = inr (refl, form found.1, same found.1 ∙ ap is_some e)

-- ---- a step behind another

both_nothing : (p q : Pattern Role) (others : List (Pattern Role)) → list_all can_be_nothing (both p q ∷ others) ≡ list_all can_be_nothing (p ∷ q ∷ others)
both_nothing p q others = assoc (can_be_nothing p) (can_be_nothing q) (list_all can_be_nothing others)
  where
    assoc : (a b c : Bool) → (a && b && c) ≡ (a && (b && c))
    assoc true b c = refl
    assoc false b c = refl

both_ways_in : (p q : Pattern Role) (others : List (Pattern Role)) → ways (both p q ∷ others) ≡ ways (p ∷ q ∷ others)
both_ways_in p q others = by_cases (can_be_nothing p) (can_be_nothing q) (ways_into p (q ∷ others)) (ways_into q others) (ways others)
  where
    by_cases : (a b : Bool) (xs ys zs : List (Way Role)) → (xs ++ cond a ys []) ++ cond (a && b) zs [] ≡ xs ++ cond a (ys ++ cond b zs []) []
    by_cases true b xs ys zs = append_assoc xs ys (cond b zs [])
    by_cases false b xs ys zs = append-nil (xs ++ [])

pub both_is : (p q : Pattern Role) (others : List (Pattern Role)) (before : List Part) (tokens : List Spelled) → parts_from (both p q ∷ others) before tokens ≡ parts_from (p ∷ q ∷ others) before tokens
both_is p q others before [] = ap (λ b. cond b (Ok before) (Err wrong_end)) (both_nothing p q others)
both_is p q others before (next ∷ behind) = ap (λ there. behind_token (way_of there before next) (λ way. parts_from way.1 (before ++ (way.0, next) ∷ []) behind) (length (next ∷ behind))) (both_ways_in p q others)

second_step : {B : Type 0} (p q : Pattern Role) (before : List Part) (tokens rest : List Spelled) (parts : List Part) (Fit : B → List Part → Type 0) (read : Read B) → tokens ≡ tokens_in parts ++ rest → IsWhole p (roles_in parts) → ((others : List (Pattern Role)) → parts_from (p ∷ others) before tokens ≡ parts_from others (before ++ parts) rest) → ReadsAs q (before ++ parts) rest (λ y more. Fit y (parts ++ more)) read → ReadsAs (both p q) before tokens Fit read
second_step p q before tokens rest parts Fit (Ok y) there whole step h = (
  parts ++ h.0,
  there ∙ ap (λ l. tokens_in parts ++ l) h.1 ∙ sym (append_assoc (tokens_in parts) (tokens_in h.0) y.1) ∙ ap (λ l. l ++ y.1) (sym (map-append (λ (part : Part). part.1) parts h.0)),
  (roles_in parts, roles_in h.0, map-append (λ (part : Part). part.0) parts h.0, whole, h.2),
  h.3,
  λ others. both_is p q others before tokens ∙ step (q ∷ others) ∙ h.4 others ∙ ap (λ l. parts_from others l y.1) (append_assoc before parts h.0),
)
second_step p q before tokens rest parts Fit (Err wrong) there whole step h = λ others. both_is p q others before tokens ∙ step (q ∷ others) ∙ h others

then_reads : {A B : Type 0} (p q : Pattern Role) (before : List Part) (tokens : List Spelled) (First : A → List Part → Type 0) (Fit : B → List Part → Type 0) (read : Read A) (next : A × List Spelled → Read B) → ReadsAs p before tokens First read → ((x : A × List Spelled) (parts : List Part) → IsWhole p (roles_in parts) → First x.0 parts → ReadsAs q (before ++ parts) x.1 (λ y more. Fit y (parts ++ more)) (next x)) → ReadsAs (both p q) before tokens Fit (read >>= next)
then_reads p q before tokens First Fit (Ok x) next h k = second_step p q before tokens x.1 h.0 Fit (next x) h.1 h.2 h.4 (k x h.0 h.2 h.3)
then_reads p q before tokens First Fit (Err wrong) next h k = λ others. both_is p q others before tokens ∙ h (q ∷ others)

-- one step and then another
pub then_read : {A B : Type 0} {p q : Pattern Role} {before : List Part} {tokens : List Spelled} {First : A → List Part → Type 0} {Fit : B → List Part → Type 0} {read : Read A} {next : A × List Spelled → Read B} → IsReadBy p before tokens First read → ((x : A × List Spelled) (parts : List Part) → IsWhole p (roles_in parts) → First x.0 parts → IsReadBy q (before ++ parts) x.1 (λ y more. Fit y (parts ++ more)) (next x)) → IsReadBy (both p q) before tokens Fit (read >>= next)
then_read {A} {B} {p} {q} {before} {tokens} {First} {Fit} {read} {next} h k = record { is_read = then_reads p q before tokens First Fit read next h.is_read (λ x parts whole first. (k x parts whole first).is_read) }

value_reads : {A B : Type 0} (p : Pattern Role) (before : List Part) (tokens : List Spelled) (First : A → List Part → Type 0) (Fit : B → List Part → Type 0) (read : Read A) (next : A × List Spelled → Read B) → ReadsAs p before tokens First read → ((x : A × List Spelled) → (y : B) × (next x ≡ Ok (y, x.1)) × ((parts : List Part) → IsWhole p (roles_in parts) → First x.0 parts → Fit y parts)) → ReadsAs p before tokens Fit (read >>= next)
value_reads p before tokens First Fit (Ok x) next h k =
    let there = k x in
    subst (λ r. ReadsAs p before tokens Fit r) (sym there.1) (h.0, h.1, h.2, there.2 h.0 h.2 h.3, h.4)
value_reads p before tokens First Fit (Err wrong) next h k = h

-- the last step, with the value
pub value_read : {A B : Type 0} {p : Pattern Role} {before : List Part} {tokens : List Spelled} {First : A → List Part → Type 0} {Fit : B → List Part → Type 0} {read : Read A} {next : A × List Spelled → Read B} → IsReadBy p before tokens First read → ((x : A × List Spelled) → (y : B) × (next x ≡ Ok (y, x.1)) × ((parts : List Part) → IsWhole p (roles_in parts) → First x.0 parts → Fit y parts)) → IsReadBy p before tokens Fit (read >>= next)
value_read {A} {B} {p} {before} {tokens} {First} {Fit} {read} {next} h k = record { is_read = value_reads p before tokens First Fit read next h.is_read k }

fit_reads : {A : Type 0} (p : Pattern Role) (before : List Part) (tokens : List Spelled) (First Fit : A → List Part → Type 0) (read : Read A) → ReadsAs p before tokens First read → ((x : A) (parts : List Part) → IsWhole p (roles_in parts) → First x parts → Fit x parts) → ReadsAs p before tokens Fit read
fit_reads p before tokens First Fit (Ok x) h k = (h.0, h.1, h.2, k x.0 h.0 h.2 h.3, h.4)
fit_reads p before tokens First Fit (Err wrong) h k = h

-- a step whose parts fit something else too
pub fit_read : {A : Type 0} {p : Pattern Role} {before : List Part} {tokens : List Spelled} {First Fit : A → List Part → Type 0} {read : Read A} → IsReadBy p before tokens First read → ((x : A) (parts : List Part) → IsWhole p (roles_in parts) → First x parts → Fit x parts) → IsReadBy p before tokens Fit read
fit_read {A} {p} {before} {tokens} {First} {Fit} {read} h k = record { is_read = fit_reads p before tokens First Fit read h.is_read k }

-- ---- choices

-- the token fits one of the ways
abbrev pub any_way : List (Way Role) → Spelled → Bool
any_way there next = list_any (λ way. fits way.0 next) there

-- the token fits one of the roles
abbrev pub any_role : List Role → Spelled → Bool
any_role roles next = list_any (λ role. fits role next) roles

any_way-roles : (there : List (Way Role)) (next : Spelled) → any_way there next ≡ any_role (roles_of there) next
any_way-roles [] next = refl
any_way-roles (way ∷ there) next = ap (λ b. fits way.0 next || b) (any_way-roles there next)

-- whether the token begins the pattern
into_fits : (p : Pattern Role) (others : List (Pattern Role)) (next : Spelled) (b : Bool) → any_role (firsts p) next ≡ b → any_way (ways_into p others) next ≡ b
into_fits p others next b e = any_way-roles (ways_into p others) next ∙ ap (λ roles. any_role roles next) (into_roles p others) ∙ e

-- where it fits one of the first ways, the others do not matter
way_left : (there others : List (Way Role)) (before : List Part) (next : Spelled) → any_way there next ≡ true → way_of (there ++ others) before next ≡ way_of there before next
way_left [] others before next h = absurd cc
way_left (way ∷ there) others before next h =
    elim (cases_Bool (fits way.0 next)) [
      | inl e ↦ cond-true (fits way.0 next) _ _ e ∙ sym (cond-true (fits way.0 next) _ _ e)
      | inr e ↦ ap (λ r. cond (fits way.0 next) (cond (meets before way.0 next.1) (Ok way) (Err (fault_kind way.0))) r) (way_left there others before next (subst (λ (b : Bool). (b || any_way there next) ≡ true) e h))
    ]

-- where it fits none, they do not matter
way_right : (there others : List (Way Role)) (before : List Part) (next : Spelled) → any_way there next ≡ false → way_of (there ++ others) before next ≡ way_of others before next
way_right [] others before next h = refl
way_right (way ∷ there) others before next h =
    let parts = or_parts (fits way.0 next) (any_way there next) h in
    cond-false (fits way.0 next) _ _ parts.0 ∙ way_right there others before next parts.1

-- where it fits none of the others, those do not matter
way_front : (there others : List (Way Role)) (before : List Part) (next : Spelled) → any_way others next ≡ false → way_of (there ++ others) before next ≡ way_of there before next
way_front [] [] before next h = refl
way_front [] (way ∷ others) before next h =
    let parts = or_parts (fits way.0 next) (any_way others next) h in
    cond-false (fits way.0 next) _ _ parts.0 ∙ way_front [] others before next parts.1
way_front (way ∷ there) others before next h = ap (λ r. cond (fits way.0 next) (cond (meets before way.0 next.1) (Ok way) (Err (fault_kind way.0))) r) (way_front there others before next h)

-- the same way leads to the same parts
abbrev From : List (Way Role) → List Part → Spelled → List Spelled → Result (List Part) Wrong
From there before next behind = behind_token (way_of there before next) (λ way. parts_from way.1 (before ++ (way.0, next) ∷ []) behind) (length (next ∷ behind))

same_way : (there others : List (Way Role)) (before : List Part) (next : Spelled) (behind : List Spelled) → way_of there before next ≡ way_of others before next → From there before next behind ≡ From others before next behind
same_way there others before next behind e = ap (λ found. behind_token found (λ way. parts_from way.1 (before ++ (way.0, next) ∷ []) behind) (length (next ∷ behind))) e

-- the first of two, where the token begins it
pub either_left : (p q : Pattern Role) (others : List (Pattern Role)) (before : List Part) (next : Spelled) (behind : List Spelled) → any_role (firsts p) next ≡ true → parts_from (either p q ∷ others) before (next ∷ behind) ≡ parts_from (p ∷ others) before (next ∷ behind)
either_left p q others before next behind h =
    let here : any_way (ways_into p others) next ≡ true = into_fits p others next true h in
    same_way (ways (either p q ∷ others)) (ways (p ∷ others)) before next behind
    (ap (λ there. way_of there before next) (append_assoc (ways_into p others) (ways_into q others) (cond (can_be_nothing p || can_be_nothing q) (ways others) []))
    ∙ way_left (ways_into p others) _ before next here ∙ sym (way_left (ways_into p others) (cond (can_be_nothing p) (ways others) []) before next here))

-- the second, where it begins not the first, which has at least a token
pub either_right : (p q : Pattern Role) (others : List (Pattern Role)) (before : List Part) (next : Spelled) (behind : List Spelled) → can_be_nothing p ≡ false → any_role (firsts p) next ≡ false → parts_from (either p q ∷ others) before (next ∷ behind) ≡ parts_from (q ∷ others) before (next ∷ behind)
either_right p q others before next behind e h =
    same_way (ways (either p q ∷ others)) (ways (q ∷ others)) before next behind
    (ap (λ there. way_of there before next) (append_assoc (ways_into p others) (ways_into q others) (cond (can_be_nothing p || can_be_nothing q) (ways others) []))
    ∙ way_right (ways_into p others) _ before next (into_fits p others next false h)
    ∙ ap (λ b. way_of (ways_into q others ++ cond (b || can_be_nothing q) (ways others) []) before next) e)

-- the first, where the token begins not the second and both have at least a token
pub either_only : (p q : Pattern Role) (others : List (Pattern Role)) (before : List Part) (next : Spelled) (behind : List Spelled) → can_be_nothing p ≡ false → can_be_nothing q ≡ false → any_role (firsts q) next ≡ false → parts_from (either p q ∷ others) before (next ∷ behind) ≡ parts_from (p ∷ others) before (next ∷ behind)
either_only p q others before next behind n m h =
    same_way (ways (either p q ∷ others)) (ways (p ∷ others)) before next behind
    (ap (λ b. way_of ((ways_into p others ++ ways_into q others) ++ cond b (ways others) []) before next) (ap (λ b. b || can_be_nothing q) n ∙ m)
    ∙ ap (λ there. way_of there before next) (append-nil (ways_into p others ++ ways_into q others))
    ∙ way_front (ways_into p others) (ways_into q others) before next (into_fits q others next false h)
    ∙ ap (λ there. way_of there before next) (sym (append-nil (ways_into p others)))
    ∙ ap (λ b. way_of (ways_into p others ++ cond b (ways others) []) before next) (sym n))

-- what may stand or not, where the token begins it, and where it does not
pub optional_some : (p : Pattern Role) (others : List (Pattern Role)) (before : List Part) (next : Spelled) (behind : List Spelled) → any_role (firsts p) next ≡ true → parts_from (optional p ∷ others) before (next ∷ behind) ≡ parts_from (p ∷ others) before (next ∷ behind)
optional_some p others before next behind h =
    let here : any_way (ways_into p others) next ≡ true = into_fits p others next true h in
    same_way (ways (optional p ∷ others)) (ways (p ∷ others)) before next behind
    (way_left (ways_into p others) (ways others) before next here ∙ sym (way_left (ways_into p others) (cond (can_be_nothing p) (ways others) []) before next here))

-- a token in the role whose condition does not hold
pub refused_token : (role : Role) (q : Pattern Role) (others : List (Pattern Role)) (before : List Part) (next : Spelled) (behind : List Spelled) → fits role next ≡ true → meets before role next.1 ≡ false → parts_from (both (token role) q ∷ others) before (next ∷ behind) ≡ Err (wrong_at (fault_kind role) (next ∷ behind))
refused_token role q others before next behind e f =
    both_is (token role) q others before (next ∷ behind)
    ∙ one_way role (q ∷ others) before next behind (Err (fault_kind role)) (cond-true (fits role next) _ _ e ∙ cond-false (meets before role next.1) _ _ f)

-- what may stand or not and has at least a token, where the token does not begin what must stand behind it
pub optional_only : (p q : Pattern Role) (others : List (Pattern Role)) (before : List Part) (next : Spelled) (behind : List Spelled) → can_be_nothing p ≡ false → can_be_nothing q ≡ false → any_role (firsts q) next ≡ false → parts_from (optional p ∷ q ∷ others) before (next ∷ behind) ≡ parts_from (p ∷ q ∷ others) before (next ∷ behind)
optional_only p q others before next behind n m h =
    same_way (ways (optional p ∷ q ∷ others)) (ways (p ∷ q ∷ others)) before next behind
    (ap (λ b. way_of (ways_into p (q ∷ others) ++ (ways_into q others ++ cond b (ways others) [])) before next) m
    ∙ ap (λ there. way_of (ways_into p (q ∷ others) ++ there) before next) (append-nil (ways_into q others))
    ∙ way_front (ways_into p (q ∷ others)) (ways_into q others) before next (into_fits q others next false h)
    ∙ ap (λ there. way_of there before next) (sym (append-nil (ways_into p (q ∷ others))))
    ∙ ap (λ b. way_of (ways_into p (q ∷ others) ++ cond b (ways (q ∷ others)) []) before next) (sym n))

pub optional_none : (p : Pattern Role) (others : List (Pattern Role)) (before : List Part) (next : Spelled) (behind : List Spelled) → any_role (firsts p) next ≡ false → parts_from (optional p ∷ others) before (next ∷ behind) ≡ parts_from others before (next ∷ behind)
optional_none p others before next behind h =
    same_way (ways (optional p ∷ others)) (ways others) before next behind (way_right (ways_into p others) (ways others) before next (into_fits p others next false h))

-- one more of many, where the token begins one, and none where it does not
pub many_more : (p : Pattern Role) (others : List (Pattern Role)) (before : List Part) (next : Spelled) (behind : List Spelled) → any_role (firsts p) next ≡ true → parts_from (many p ∷ others) before (next ∷ behind) ≡ parts_from (p ∷ many p ∷ others) before (next ∷ behind)
many_more p others before next behind h =
    let here : any_way (ways_into p (many p ∷ others)) next ≡ true = into_fits p (many p ∷ others) next true h in
    same_way (ways (many p ∷ others)) (ways (p ∷ many p ∷ others)) before next behind
    (way_left (ways_into p (many p ∷ others)) (ways others) before next here ∙ sym (way_left (ways_into p (many p ∷ others)) (cond (can_be_nothing p) (ways (many p ∷ others)) []) before next here))

pub many_done : (p : Pattern Role) (others : List (Pattern Role)) (before : List Part) (next : Spelled) (behind : List Spelled) → any_role (firsts p) next ≡ false → parts_from (many p ∷ others) before (next ∷ behind) ≡ parts_from others before (next ∷ behind)
many_done p others before next behind h =
    same_way (ways (many p ∷ others)) (ways others) before next behind (way_right (ways_into p (many p ∷ others)) (ways others) before next (into_fits p (many p ∷ others) next false h))
