-- The tokens in their roles, as they are read, against what is whole, what may follow, and the conditions.
use Rattle.std.proofs.Common.{◌≡◌, Bool, true, false, List, [], ◌∷◌, ◌++◌, length, cond, refl, sym, ap, ◌∙◌, subst, inl, inr, ◌⊎◌, Result, Ok, Err}
use Rattle.std.specs.List.{list_all}
use Rattle.std.proofs.lemmas.Bool.{cond-true, both_ways}
use Rattle.std.proofs.lemmas.List.{append-nil, append_assoc}
use Rattle.fhe_text.specs.declared.fault.Wrong.{Wrong}
use Rattle.fhe_text.specs.declared.fault.TextKind.{TextKind}
use Rattle.fhe_text.specs.declared.fault.TextKind.TheVariants as kinds
use Rattle.fhe_text.specs.Patterns.{Pattern}
use Rattle.fhe_text.specs.Roles.{Spelled, Role, fits}
use Rattle.fhe_text.specs.Conditions.{Part, meets, fault_kind, MeetConditions}
use Rattle.fhe_text.specs.Program.{tokens_in, roles_in}
use Rattle.fhe_text.specs.Reading.{can_be_nothing, Way, ways, way_of, wrong_end, behind_token, parts_from}
use Rattle.fhe_text.proofs.Whole.{Among, AreWhole, first_way, way_whole, all_nothing_whole, whole_all_nothing, all_go_on}
use Rattle.fhe_text.proofs.Plain.{are_plain, ways_apart, way_plain, judged, way_that_fits, IsWayOf, way_of-is}

-- the tokens are these parts, each condition kept behind those before, and with more roles behind they are the patterns
pub record PartsThen (patterns : List (Pattern Role)) (before : List Part) (tokens : List Spelled) (parts : List Part) (more : List Role) : Type 0 where
  pub tokens_are : tokens_in parts ≡ tokens
  pub whole : AreWhole patterns (roles_in parts ++ more)
  pub met : MeetConditions before parts

-- the tokens begin the patterns
abbrev pub Begins : List (Pattern Role) → List Part → List Spelled → Type 0
Begins patterns before tokens = (parts : List Part) × (more : List Role) × PartsThen patterns before tokens parts more

-- behind the tokens, which begin the patterns, a token may stand in the role
abbrev pub MayStandIn : List (Pattern Role) → List Part → List Spelled → Role → Spelled → Type 0
MayStandIn patterns before tokens role next =
    (parts : List Part) × (more : List Role) × PartsThen patterns before tokens parts (role ∷ more) × (fits role next ≡ true)

-- the kind of the fault there
abbrev pub IsKindIn : List (Pattern Role) → List Part → List Spelled → Spelled → TextKind → Type 0
IsKindIn patterns before tokens next kind =
    ((role : Role) × MayStandIn patterns before tokens role next × (kind ≡ fault_kind role))
    ⊎ (((role : Role) → MayStandIn patterns before tokens role next → ⊥) × (kind ≡ kinds.Syntax))

-- the first token with which the tokens so far do not begin the patterns
abbrev pub IsFirstWrong : List (Pattern Role) → List Part → List Spelled → Wrong → Type 0
IsFirstWrong patterns before tokens wrong =
    (front : List Spelled) × (next : Spelled) × (behind : List Spelled) × (tokens ≡ front ++ next ∷ behind) × (wrong.left ≡ length (next ∷ behind))
    × Begins patterns before front × (Begins patterns before (front ++ next ∷ []) → ⊥) × IsKindIn patterns before front next wrong.kind

-- all tokens begin the patterns and are not whole
abbrev pub IsCutShort : List (Pattern Role) → List Part → List Spelled → Wrong → Type 0
IsCutShort patterns before tokens wrong =
    (wrong ≡ wrong_end) × Begins patterns before tokens × ((parts : List Part) → PartsThen patterns before tokens parts [] → ⊥)

-- what is known of what is read
abbrev pub IsReadAs : List (Pattern Role) → List Part → List Spelled → Result (List Part) Wrong → Type 0
IsReadAs patterns before tokens (Ok all) = (parts : List Part) × (all ≡ before ++ parts) × PartsThen patterns before tokens parts []
IsReadAs patterns before tokens (Err wrong) = IsFirstWrong patterns before tokens wrong ⊎ IsCutShort patterns before tokens wrong

-- ---- one token

-- a part in front
push : (patterns : List (Pattern Role)) (before : List Part) (way : Way Role) (next : Spelled) (tokens : List Spelled) (parts : List Part) (more : List Role) → Among way (ways patterns) → fits way.0 next ≡ true → meets before way.0 next.1 ≡ true → PartsThen way.1 (before ++ (way.0, next) ∷ []) tokens parts more → PartsThen patterns before (next ∷ tokens) ((way.0, next) ∷ parts) more
push patterns before way next tokens parts more i f m then_ = record {
  tokens_are = ap (λ l. next ∷ l) then_.tokens_are;
  whole = way_whole patterns way.0 way.1 (roles_in parts ++ more) i then_.whole;
  met = (f, m, then_.met);
}

-- the way of the first role, where the roles are whole
the_way : (patterns : List (Pattern Role)) (before : List Part) (role : Role) (roles : List Role) (next : Spelled) → are_plain patterns ≡ true → AreWhole patterns (role ∷ roles) → fits role next ≡ true → (rest : List (Pattern Role)) × Among (role, rest) (ways patterns) × AreWhole rest roles × (way_of (ways patterns) before next ≡ judged before (role, rest) next)
the_way patterns before role roles next plain whole f =
    let first = first_way patterns role roles whole in
    (first.0, first.1, first.2, way_that_fits (ways patterns) before (role, first.0) next (ways_apart patterns plain) first.1 f)

-- the first part, in its one way
abbrev Popped : List (Pattern Role) → List Part → Spelled → List Spelled → List Role → Type 0
Popped patterns before next tokens more = (rest : List (Pattern Role)) × (role : Role) × (parts : List Part) × Among (role, rest) (ways patterns) × (way_of (ways patterns) before next ≡ Ok (role, rest)) × PartsThen rest (before ++ (role, next) ∷ []) tokens parts more

pop : (patterns : List (Pattern Role)) (before : List Part) (next : Spelled) (tokens : List Spelled) (parts : List Part) (more : List Role) → are_plain patterns ≡ true → PartsThen patterns before (next ∷ tokens) parts more → Popped patterns before next tokens more
pop patterns before next tokens [] more plain then_ = let none = then_.tokens_are in absurd cc
pop patterns before next tokens (part ∷ parts) more plain then_ =
    let all = then_.tokens_are in
    let head : part.1 ≡ next = cc in
    let tail : tokens_in parts ≡ tokens = cc in
    let first = the_way patterns before part.0 (roles_in parts ++ more) part.1 plain then_.whole then_.met.0 in
    let way : way_of (ways patterns) before part.1 ≡ Ok (part.0, first.0) = first.3 ∙ cond-true (meets before part.0 part.1.1) (Ok (part.0, first.0)) (Err (fault_kind part.0)) then_.met.1 in
    let moved : PartsThen first.0 (before ++ (part.0, part.1) ∷ []) tokens parts more = record { tokens_are = tail; whole = first.2; met = then_.met.2 } in (
      first.0,
      part.0,
      parts,
      first.1,
      subst (λ (s : Spelled). way_of (ways patterns) before s ≡ Ok (part.0, first.0)) head way,
      subst (λ (s : Spelled). PartsThen first.0 (before ++ (part.0, s) ∷ []) tokens parts more) head moved,
    )

-- two ways that were taken are one
same_ok : (one other : Way Role) (found : Result (Way Role) TextKind) → found ≡ Ok one → found ≡ Ok other → one ≡ other
same_ok one other found e f = cc

-- which is the way that was taken
pop_on : (patterns : List (Pattern Role)) (before : List Part) (way : Way Role) (next : Spelled) (tokens : List Spelled) (parts : List Part) (more : List Role) → are_plain patterns ≡ true → way_of (ways patterns) before next ≡ Ok way → PartsThen patterns before (next ∷ tokens) parts more → (ps : List Part) × PartsThen way.1 (before ++ (way.0, next) ∷ []) tokens ps more
pop_on patterns before way next tokens parts more plain taken then_ =
    let popped = pop patterns before next tokens parts more plain then_ in
    let same : (popped.1, popped.0) ≡ way = same_ok (popped.1, popped.0) way (way_of (ways patterns) before next) popped.4 taken in
    (popped.2, subst (λ (w : Way Role). PartsThen w.1 (before ++ (w.0, next) ∷ []) tokens popped.2 more) same popped.5)

-- where no way was found there is none
no_pop : (patterns : List (Pattern Role)) (before : List Part) (kind : TextKind) (next : Spelled) (tokens : List Spelled) (parts : List Part) (more : List Role) → are_plain patterns ≡ true → way_of (ways patterns) before next ≡ Err kind → PartsThen patterns before (next ∷ tokens) parts more → ⊥
no_pop patterns before kind next tokens parts more plain wrong then_ =
    let popped = pop patterns before next tokens parts more plain then_ in
    let found = popped.4 in
    absurd cc

-- ---- no token

-- no part spells no token
no_parts : (parts : List Part) → tokens_in parts ≡ [] → parts ≡ []
no_parts [] e = refl
no_parts (part ∷ parts) e = absurd cc

at_end : (patterns : List (Pattern Role)) (before : List Part) (b : Bool) → list_all can_be_nothing patterns ≡ b → IsReadAs patterns before [] (cond b (Ok before) (Err wrong_end))
at_end patterns before true e = ([], sym (append-nil before), record { tokens_are = refl; whole = all_nothing_whole patterns e; met = tt })
at_end patterns before false e =
    let on = all_go_on patterns in
    inr (refl, ([], on.0, record { tokens_are = refl; whole = on.1; met = tt }), not_whole)
  where
    not_whole : (parts : List Part) → PartsThen patterns before [] parts [] → ⊥
    not_whole parts then_ =
        let none : parts ≡ [] = no_parts parts then_.tokens_are in
        let whole : AreWhole patterns [] = subst (λ (ps : List Part). AreWhole patterns (roles_in ps ++ [])) none then_.whole in
        both_ways (list_all can_be_nothing patterns) e (whole_all_nothing patterns [] refl whole)

-- ---- a token that stands nowhere

-- nothing stands before the first token
before_first_token : (patterns : List (Pattern Role)) (before : List Part) → Begins patterns before []
before_first_token patterns before = let on = all_go_on patterns in ([], on.0, record { tokens_are = refl; whole = on.1; met = tt })

wrong_kind : (patterns : List (Pattern Role)) (before : List Part) (next : Spelled) (kind : TextKind) → IsWayOf (ways patterns) before next (Err kind) → IsKindIn patterns before [] next kind
wrong_kind patterns before next kind (inl h) =
    let on = all_go_on h.0.1 in
    inl (h.0.0, ([], on.0, record { tokens_are = refl; whole = way_whole patterns h.0.0 h.0.1 on.0 h.1 on.1; met = tt }, h.2), h.4)
wrong_kind patterns before next kind (inr h) = inr (none, h.1)
  where
    none : (role : Role) → MayStandIn patterns before [] role next → ⊥
    none role may =
        let empty : may.0 ≡ [] = no_parts may.0 may.2.tokens_are in
        let whole : AreWhole patterns (role ∷ may.1) = subst (λ (ps : List Part). AreWhole patterns (roles_in ps ++ role ∷ may.1)) empty may.2.whole in
        let first = first_way patterns role may.1 whole in
        h.0 (role, first.0) first.1 may.3

at_wrong : (patterns : List (Pattern Role)) (before : List Part) (next : Spelled) (behind : List Spelled) (kind : TextKind) → are_plain patterns ≡ true → way_of (ways patterns) before next ≡ Err kind → IsWayOf (ways patterns) before next (Err kind) → IsReadAs patterns before (next ∷ behind) (Err (record { left = length (next ∷ behind); kind = kind }))
at_wrong patterns before next behind kind plain wrong known =
    inl ([], next, behind, refl, refl, before_first_token patterns before, (λ begins. no_pop patterns before kind next [] begins.0 begins.1 plain wrong begins.2), wrong_kind patterns before next kind known)

-- ---- what is read behind a token

behind_ok : (patterns : List (Pattern Role)) (before : List Part) (way : Way Role) (next : Spelled) (behind : List Spelled) (read : Result (List Part) Wrong) → are_plain patterns ≡ true → way_of (ways patterns) before next ≡ Ok way → IsWayOf (ways patterns) before next (Ok way) → IsReadAs way.1 (before ++ (way.0, next) ∷ []) behind read → IsReadAs patterns before (next ∷ behind) read
behind_ok patterns before way next behind (Ok all) plain taken known h =
    ((way.0, next) ∷ h.0, h.1 ∙ append_assoc before ((way.0, next) ∷ []) h.0, push patterns before way next behind h.0 [] known.0 known.1 known.2 h.2)
behind_ok patterns before way next behind (Err wrong) plain taken known (inl (front, first, rest, tokens_are, left, begins, not_begins, kind)) =
    inl (
      next ∷ front,
      first,
      rest,
      ap (λ l. next ∷ l) tokens_are,
      left,
      lift_begins front begins,
      (λ b. not_begins (lower_begins (front ++ first ∷ []) b)),
      lift_kind kind,
    )
  where
    lift_begins : (tokens : List Spelled) → Begins way.1 (before ++ (way.0, next) ∷ []) tokens → Begins patterns before (next ∷ tokens)
    lift_begins tokens b = ((way.0, next) ∷ b.0, b.1, push patterns before way next tokens b.0 b.1 known.0 known.1 known.2 b.2)

    lower_begins : (tokens : List Spelled) → Begins patterns before (next ∷ tokens) → Begins way.1 (before ++ (way.0, next) ∷ []) tokens
    lower_begins tokens b = let popped = pop_on patterns before way next tokens b.0 b.1 plain taken b.2 in (popped.0, b.1, popped.1)

    lift_may : (role : Role) → MayStandIn way.1 (before ++ (way.0, next) ∷ []) front role first → MayStandIn patterns before (next ∷ front) role first
    lift_may role m = ((way.0, next) ∷ m.0, m.1, push patterns before way next front m.0 (role ∷ m.1) known.0 known.1 known.2 m.2, m.3)

    lower_may : (role : Role) → MayStandIn patterns before (next ∷ front) role first → MayStandIn way.1 (before ++ (way.0, next) ∷ []) front role first
    lower_may role m = let popped = pop_on patterns before way next front m.0 (role ∷ m.1) plain taken m.2 in (popped.0, m.1, popped.1, m.3)

    lift_kind : IsKindIn way.1 (before ++ (way.0, next) ∷ []) front first wrong.kind → IsKindIn patterns before (next ∷ front) first wrong.kind
    lift_kind (inl k) = inl (k.0, lift_may k.0 k.1, k.2)
    lift_kind (inr k) = inr ((λ role m. k.0 role (lower_may role m)), k.1)
behind_ok patterns before way next behind (Err wrong) plain taken known (inr h) =
    inr (
      h.0,
      ((way.0, next) ∷ h.1.0, h.1.1, push patterns before way next behind h.1.0 h.1.1 known.0 known.1 known.2 h.1.2),
      λ parts then_. let popped = pop_on patterns before way next behind parts [] plain taken then_ in h.2 popped.0 popped.1,
    )

-- what is read is known
pub read_as : (patterns : List (Pattern Role)) (before : List Part) (tokens : List Spelled) → are_plain patterns ≡ true → IsReadAs patterns before tokens (parts_from patterns before tokens)
read_as patterns before [] plain = at_end patterns before (list_all can_be_nothing patterns) refl
read_as patterns before (next ∷ behind) plain =
    by_way (way_of (ways patterns) before next) refl (way_of-is (ways patterns) before next)
    (λ way i. read_as way.1 (before ++ (way.0, next) ∷ []) behind (way_plain patterns way.0 way.1 plain i))
  where
    by_way : (found : Result (Way Role) TextKind) → way_of (ways patterns) before next ≡ found → IsWayOf (ways patterns) before next found → ((way : Way Role) → Among way (ways patterns) → IsReadAs way.1 (before ++ (way.0, next) ∷ []) behind (parts_from way.1 (before ++ (way.0, next) ∷ []) behind)) → IsReadAs patterns before (next ∷ behind) (behind_token found (λ way. parts_from way.1 (before ++ (way.0, next) ∷ []) behind) (length (next ∷ behind)))
    by_way (Ok way) taken known rest = behind_ok patterns before way next behind (parts_from way.1 (before ++ (way.0, next) ∷ []) behind) plain taken known (rest way known.0)
    by_way (Err kind) taken known rest = at_wrong patterns before next behind kind plain taken known

-- what is whole is read
pub whole_read : (patterns : List (Pattern Role)) (before : List Part) (tokens : List Spelled) (parts : List Part) → are_plain patterns ≡ true → PartsThen patterns before tokens parts [] → parts_from patterns before tokens ≡ Ok (before ++ parts)
whole_read patterns before [] parts plain then_ =
    let none : parts ≡ [] = no_parts parts then_.tokens_are in
    let whole : AreWhole patterns [] = subst (λ (ps : List Part). AreWhole patterns (roles_in ps ++ [])) none then_.whole in
    cond-true (list_all can_be_nothing patterns) (Ok before) (Err wrong_end) (whole_all_nothing patterns [] refl whole)
    ∙ ap (λ l. Ok l) (sym (append-nil before) ∙ ap (λ l. before ++ l) (sym none))
whole_read patterns before (next ∷ tokens) [] plain then_ = let none = then_.tokens_are in absurd cc
whole_read patterns before (next ∷ tokens) (part ∷ parts) plain then_ =
    let all = then_.tokens_are in
    let head : part.1 ≡ next = cc in
    let tail : tokens_in parts ≡ tokens = cc in
    let first = the_way patterns before part.0 (roles_in parts ++ []) part.1 plain then_.whole then_.met.0 in
    let way : way_of (ways patterns) before part.1 ≡ Ok (part.0, first.0) = first.3 ∙ cond-true (meets before part.0 part.1.1) (Ok (part.0, first.0)) (Err (fault_kind part.0)) then_.met.1 in
    let way_there : way_of (ways patterns) before next ≡ Ok (part.0, first.0) = subst (λ (s : Spelled). way_of (ways patterns) before s ≡ Ok (part.0, first.0)) head way in
    let moved : PartsThen first.0 (before ++ (part.0, part.1) ∷ []) tokens parts [] = record { tokens_are = tail; whole = first.2; met = then_.met.2 } in
    let there : PartsThen first.0 (before ++ (part.0, next) ∷ []) tokens parts [] = subst (λ (s : Spelled). PartsThen first.0 (before ++ (part.0, s) ∷ []) tokens parts []) head moved in
    let rest : parts_from first.0 (before ++ (part.0, next) ∷ []) tokens ≡ Ok ((before ++ (part.0, next) ∷ []) ++ parts) = whole_read first.0 (before ++ (part.0, next) ∷ []) tokens parts (way_plain patterns part.0 first.0 plain first.1) there in
    ap (λ found. behind_token found (λ way. parts_from way.1 (before ++ (way.0, next) ∷ []) tokens) (length (next ∷ tokens))) way_there
    ∙ rest ∙ ap (λ l. Ok l) (append_assoc before ((part.0, next) ∷ []) parts ∙ ap (λ (s : Spelled). before ++ (part.0, s) ∷ parts) (sym head))
