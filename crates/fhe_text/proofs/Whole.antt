-- Which roles may stand next, against what is whole and what is cut.
use Rattle.std.proofs.Common.{◌≡◌, Bool, true, false, List, [], ◌∷◌, ◌++◌, cond, refl, sym, ap, ◌∙◌, subst, inl, inr, ◌⊎◌}
use Rattle.std.specs.List.{AllByRecursion, list_all}
use Rattle.std.proofs.lemmas.Bool.{and_parts, and_from, or_cases, or_left, or_right, false≢true}
use Rattle.std.proofs.lemmas.List.{append-nil, append_assoc}
use Rattle.fhe_text.specs.Patterns.{Pattern, nothing, token, both, either, many, IsWhole, IsCut, joined}
use Rattle.fhe_text.specs.Reading.{can_be_nothing, Way, ways_into, ways}

-- ---- lists

-- the element is among those of the list
abbrev pub Among : {X : Type 0} → X → List X → Type 0
Among x [] = ⊥
Among x (y ∷ ys) = (x ≡ y) ⊎ Among x ys

pub among_left : {X : Type 0} (x : X) (xs ys : List X) → Among x xs → Among x (xs ++ ys)
among_left x [] ys h = absurd h
among_left x (z ∷ zs) ys (inl e) = inl e
among_left x (z ∷ zs) ys (inr h) = inr (among_left x zs ys h)

pub among_right : {X : Type 0} (x : X) (xs ys : List X) → Among x ys → Among x (xs ++ ys)
among_right x [] ys h = h
among_right x (z ∷ zs) ys h = inr (among_right x zs ys h)

pub among_parts : {X : Type 0} (x : X) (xs ys : List X) → Among x (xs ++ ys) → Among x xs ⊎ Among x ys
among_parts x [] ys h = inr h
among_parts x (z ∷ zs) ys (inl e) = inl (inl e)
among_parts x (z ∷ zs) ys (inr h) = elim (among_parts x zs ys h) [ inl g ↦ inl (inr g) | inr g ↦ inr g ]

-- among what stands there where the test holds
pub among_where : {X : Type 0} (x : X) (b : Bool) (xs : List X) → b ≡ true → Among x xs → Among x (cond b xs [])
among_where x b xs e h = subst (λ (c : Bool). Among x (cond c xs [])) (sym e) h

pub where_among : {X : Type 0} (x : X) (b : Bool) (xs : List X) → Among x (cond b xs []) → (b ≡ true) × Among x xs
where_among x true xs h = (refl, h)
where_among x false xs h = absurd h

-- nothing stands before or behind nothing
pub no_front : {X : Type 0} (xs ys : List X) → xs ++ ys ≡ [] → xs ≡ []
no_front [] ys e = refl
no_front (x ∷ xs) ys e = absurd cc

pub no_back : {X : Type 0} (xs ys : List X) → xs ++ ys ≡ [] → ys ≡ []
no_back [] ys e = e
no_back (x ∷ xs) ys e = absurd cc

-- two ways to take one list apart
pub split : {X : Type 0} (as_ bs cs ds : List X) → as_ ++ bs ≡ cs ++ ds → ((k : List X) × (as_ ≡ cs ++ k) × (ds ≡ k ++ bs)) ⊎ ((k : List X) × (cs ≡ as_ ++ k) × (bs ≡ k ++ ds))
split [] bs cs ds e = inr (cs, refl, e)
split (a ∷ as_) bs [] ds e = inl (a ∷ as_, refl, sym e)
split {X} (a ∷ as_) bs (c ∷ cs) ds e =
    let heads : a ≡ c = cc in
    let tails : as_ ++ bs ≡ cs ++ ds = cc in
    elim (split as_ bs cs ds tails) [
      | inl s ↦ inl (s.0, cc (heads, s.1), s.2)
      | inr s ↦ inr (s.0, cc (heads, s.1), s.2)
    ]

-- ---- whole and cut

pub missing : {Role : Type 0} (p : Pattern Role) → IsCut p []
missing nothing = refl
missing (token role) = inl refl
missing (both p q) = inl (missing p)
missing (either p q) = inl (missing p)
missing (many p) = ([], [], refl, tt, missing p)

-- what is whole is cut
pub whole_cut : {Role : Type 0} (p : Pattern Role) (roles : List Role) → IsWhole p roles → IsCut p roles
whole_cut nothing roles h = h
whole_cut (token role) roles h = inr h
whole_cut (both p q) roles h = inr (h.0, h.1, h.2, h.3, whole_cut q h.1 h.4)
whole_cut (either p q) roles (inl h) = inl (whole_cut p roles h)
whole_cut (either p q) roles (inr h) = inr (whole_cut q roles h)
whole_cut (many p) roles h = (h.0, [], h.1 ∙ sym (append-nil (joined h.0)), h.2, missing p)

front_many : {Role : Type 0} (p : Pattern Role) (front_item : (r m : List Role) → IsCut p (r ++ m) → IsCut p r) (items : List (List Role)) (last roles more : List Role) → roles ++ more ≡ joined items ++ last → AllByRecursion (λ i. IsWhole p i) items → IsCut p last → IsCut (many p) roles
front_many p front_item [] last roles more e all c = ([], roles, refl, tt, front_item roles more (subst (λ l. IsCut p l) (sym e) c))
front_many {Role} p front_item (i ∷ items) last roles more e all c =
    let together : roles ++ more ≡ i ++ (joined items ++ last) = e ∙ append_assoc i (joined items) last in
    elim (split roles more i (joined items ++ last) together) [
      | inl s ↦
          let rest : IsCut (many p) s.0 = front_many p front_item items last s.0 more (sym s.2) all.1 c in
          (i ∷ rest.0, rest.1, s.1 ∙ ap (λ l. i ++ l) rest.2 ∙ sym (append_assoc i (joined rest.0) rest.1), (all.0, rest.3), rest.4)
      | inr s ↦ ([], roles, refl, tt, front_item roles s.0 (subst (λ (r : List Role). IsCut p r) s.1 (whole_cut p i all.0)))
    ]

-- a front of what is cut is cut
pub front_cut : {Role : Type 0} (p : Pattern Role) (roles more : List Role) → IsCut p (roles ++ more) → IsCut p roles
front_cut nothing roles more h = no_front roles more h
front_cut (token role) roles more (inl h) = inl (no_front roles more h)
front_cut (token role) [] more (inr h) = inl refl
front_cut {Role} (token role) (r ∷ roles) more (inr h) =
    let head : r ≡ role = cc in
    let tail : roles ++ more ≡ [] = cc in
    inr (cc (head, no_front roles more tail))
front_cut (both p q) roles more (inl h) = inl (front_cut p roles more h)
front_cut {Role} (both p q) roles more (inr h) =
    elim (split roles more h.0 h.1 h.2) [
      | inl s ↦ inr (h.0, s.0, s.1, h.3, front_cut q s.0 more (subst (λ (l : List Role). IsCut q l) s.2 h.4))
      | inr s ↦ inl (front_cut p roles s.0 (subst (λ (l : List Role). IsCut p l) s.1 (whole_cut p h.0 h.3)))
    ]
front_cut (either p q) roles more (inl h) = inl (front_cut p roles more h)
front_cut (either p q) roles more (inr h) = inr (front_cut q roles more h)
front_cut (many p) roles more h = front_many p (λ r m c. front_cut p r m c) h.0 h.1 roles more h.2 h.3 h.4

-- each pattern is whole with some tokens
pub some_whole : {Role : Type 0} (p : Pattern Role) → (roles : List Role) × IsWhole p roles
some_whole nothing = ([], refl)
some_whole (token role) = (role ∷ [], refl)
some_whole (both p q) = let first = some_whole p in let last = some_whole q in (first.0 ++ last.0, (first.0, last.0, refl, first.1, last.1))
some_whole (either p q) = let one = some_whole p in (one.0, inl one.1)
some_whole (many p) = ([], ([], refl, tt))

-- so what is cut is the front of something whole
pub cut_goes_on : {Role : Type 0} (p : Pattern Role) (roles : List Role) → IsCut p roles → (more : List Role) × IsWhole p (roles ++ more)
cut_goes_on nothing roles h = ([], append-nil roles ∙ h)
cut_goes_on (token role) roles (inl h) = (role ∷ [], ap (λ l. l ++ role ∷ []) h)
cut_goes_on (token role) roles (inr h) = ([], append-nil roles ∙ h)
cut_goes_on (both p q) roles (inl h) =
    let first = cut_goes_on p roles h in
    let last = some_whole q in
    (first.0 ++ last.0, (roles ++ first.0, last.0, sym (append_assoc roles first.0 last.0), first.1, last.1))
cut_goes_on (both p q) roles (inr h) =
    let last = cut_goes_on q h.1 h.4 in
    (last.0, (h.0, h.1 ++ last.0, ap (λ l. l ++ last.0) h.2 ∙ append_assoc h.0 h.1 last.0, h.3, last.1))
cut_goes_on (either p q) roles (inl h) = let one = cut_goes_on p roles h in (one.0, inl one.1)
cut_goes_on (either p q) roles (inr h) = let other = cut_goes_on q roles h in (other.0, inr other.1)
cut_goes_on {Role} (many p) roles h =
    let last = cut_goes_on p h.1 h.4 in
    (last.0, (h.0 ++ (h.1 ++ last.0) ∷ [], ap (λ l. l ++ last.0) h.2 ∙ append_assoc (joined h.0) h.1 last.0 ∙ sym (joined_push h.0 (h.1 ++ last.0)), all_push h.0 (h.1 ++ last.0) h.3 last.1))
  where
    joined_push : (items : List (List Role)) (one : List Role) → joined (items ++ one ∷ []) ≡ joined items ++ one
    joined_push [] one = append-nil one
    joined_push (i ∷ items) one = ap (λ l. i ++ l) (joined_push items one) ∙ sym (append_assoc i (joined items) one)

    all_push : (items : List (List Role)) (one : List Role) → AllByRecursion (λ i. IsWhole p i) items → IsWhole p one → AllByRecursion (λ i. IsWhole p i) (items ++ one ∷ [])
    all_push [] one all h = (h, tt)
    all_push (i ∷ items) one all h = (all.0, all_push items one all.1 h)

-- ---- patterns in order

-- the tokens in these roles are the patterns, one behind the other
abbrev pub AreWhole : {Role : Type 0} → List (Pattern Role) → List Role → Type 0
AreWhole [] roles = roles ≡ []
AreWhole {Role} (p ∷ rest) roles = (left right : List Role) × (roles ≡ left ++ right) × IsWhole p left × AreWhole rest right

-- whole with no token
pub nothing_whole : {Role : Type 0} (p : Pattern Role) → can_be_nothing p ≡ true → IsWhole p []
nothing_whole nothing e = refl
nothing_whole (token role) e = absurd (false≢true e)
nothing_whole (both p q) e = let parts = and_parts (can_be_nothing p) (can_be_nothing q) e in ([], [], refl, nothing_whole p parts.0, nothing_whole q parts.1)
nothing_whole (either p q) e = elim (or_cases (can_be_nothing p) (can_be_nothing q) e) [ inl f ↦ inl (nothing_whole p f) | inr f ↦ inr (nothing_whole q f) ]
nothing_whole (many p) e = ([], refl, tt)

pub whole_nothing : {Role : Type 0} (p : Pattern Role) (roles : List Role) → roles ≡ [] → IsWhole p roles → can_be_nothing p ≡ true
whole_nothing nothing roles e h = refl
whole_nothing (token role) roles e h = absurd cc
whole_nothing (both p q) roles e h =
    let together = sym h.2 ∙ e in
    and_from (can_be_nothing p) (can_be_nothing q) (whole_nothing p h.0 (no_front h.0 h.1 together) h.3) (whole_nothing q h.1 (no_back h.0 h.1 together) h.4)
whole_nothing (either p q) roles e (inl h) = or_left (can_be_nothing p) (can_be_nothing q) (whole_nothing p roles e h)
whole_nothing (either p q) roles e (inr h) = or_right (can_be_nothing p) (can_be_nothing q) (whole_nothing q roles e h)
whole_nothing (many p) roles e h = refl

pub all_nothing_whole : {Role : Type 0} (rest : List (Pattern Role)) → list_all can_be_nothing rest ≡ true → AreWhole rest []
all_nothing_whole [] e = refl
all_nothing_whole (p ∷ rest) e = let parts = and_parts (can_be_nothing p) (list_all can_be_nothing rest) e in ([], [], refl, nothing_whole p parts.0, all_nothing_whole rest parts.1)

pub whole_all_nothing : {Role : Type 0} (rest : List (Pattern Role)) (roles : List Role) → roles ≡ [] → AreWhole rest roles → list_all can_be_nothing rest ≡ true
whole_all_nothing [] roles e h = refl
whole_all_nothing (p ∷ rest) roles e h =
    let together = sym h.2 ∙ e in
    and_from (can_be_nothing p) (list_all can_be_nothing rest) (whole_nothing p h.0 (no_front h.0 h.1 together) h.3) (whole_all_nothing rest h.1 (no_back h.0 h.1 together) h.4)

-- ---- the role that stands first is one of the ways, and what stands behind it goes on there

-- a way with the role, on which the roles are whole
abbrev pub Leads : {Role : Type 0} → List (Way Role) → Role → List Role → Type 0
Leads {Role} there role roles = (rest : List (Pattern Role)) × Among (role, rest) there × AreWhole rest roles

leads_left : {Role : Type 0} (there others : List (Way Role)) (role : Role) (roles : List Role) → Leads there role roles → Leads (there ++ others) role roles
leads_left there others role roles h = (h.0, among_left (role, h.0) there others h.1, h.2)

leads_right : {Role : Type 0} (there others : List (Way Role)) (role : Role) (roles : List Role) → Leads others role roles → Leads (there ++ others) role roles
leads_right there others role roles h = (h.0, among_right (role, h.0) there others h.1, h.2)

leads_where : {Role : Type 0} (b : Bool) (there : List (Way Role)) (role : Role) (roles : List Role) → b ≡ true → Leads there role roles → Leads (cond b there []) role roles
leads_where b there role roles e h = (h.0, among_where (role, h.0) b there e h.1, h.2)

into_many : {Role : Type 0} (p : Pattern Role) (rest : List (Pattern Role)) (into : (role : Role) (left right : List Role) → IsWhole p (role ∷ left) → AreWhole (many p ∷ rest) right → Leads (ways_into p (many p ∷ rest)) role (left ++ right)) (items : List (List Role)) (role : Role) (left right : List Role) → role ∷ left ≡ joined items → AllByRecursion (λ i. IsWhole p i) items → AreWhole rest right → Leads (ways_into p (many p ∷ rest)) role (left ++ right)
into_many p rest into [] role left right e all h = absurd cc
into_many p rest into ([] ∷ items) role left right e all h = into_many p rest into items role left right e all.1 h
into_many {Role} p rest into ((r ∷ i) ∷ items) role left right e all h =
    let head : role ≡ r = cc in
    let tail : left ≡ i ++ joined items = cc in
    let whole : IsWhole p (role ∷ i) = subst (λ (x : Role). IsWhole p (x ∷ i)) (sym head) all.0 in
    let found : Leads (ways_into p (many p ∷ rest)) role (i ++ (joined items ++ right)) = into role i (joined items ++ right) whole (joined items, right, refl, (items, refl, all.1), h) in
    subst (λ (l : List Role). Leads (ways_into p (many p ∷ rest)) role l) (sym (append_assoc i (joined items) right) ∙ ap (λ l. l ++ right) (sym tail)) found

-- into a pattern
pub into_whole : {Role : Type 0} (p : Pattern Role) (rest : List (Pattern Role)) (role : Role) (left right : List Role) → IsWhole p (role ∷ left) → AreWhole rest right → Leads (ways_into p rest) role (left ++ right)
into_whole nothing rest role left right h g = absurd cc
into_whole {Role} (token other) rest role left right h g =
    let head : role ≡ other = cc in
    let tail : left ≡ [] = cc in
    (rest, inl (cc (head)), subst (λ (l : List Role). AreWhole rest (l ++ right)) (sym tail) g)
into_whole {Role} (both p q) rest role left right h g = in_order p q rest role left right h.0 h.1 h.2 h.3 h.4 g (λ l m w v. into_whole p (q ∷ rest) role l m w v) (λ w. into_whole q rest role left right w g)
  where
    in_order : (p q : Pattern Role) (rest : List (Pattern Role)) (role : Role) (left right first last : List Role) → role ∷ left ≡ first ++ last → IsWhole p first → IsWhole q last → AreWhole rest right → ((l m : List Role) → IsWhole p (role ∷ l) → AreWhole (q ∷ rest) m → Leads (ways_into p (q ∷ rest)) role (l ++ m)) → (IsWhole q (role ∷ left) → Leads (ways_into q rest) role (left ++ right)) → Leads (ways_into (both p q) rest) role (left ++ right)
    in_order p q rest role left right [] last e wp wq g into_p into_q =
        leads_right (ways_into p (q ∷ rest)) (cond (can_be_nothing p) (ways_into q rest) []) role (left ++ right)
        (leads_where (can_be_nothing p) (ways_into q rest) role (left ++ right) (whole_nothing p [] refl wp) (into_q (subst (λ (l : List Role). IsWhole q l) (sym e) wq)))
    in_order p q rest role left right (r ∷ first) last e wp wq g into_p into_q =
        let head : role ≡ r = cc in
        let tail : left ≡ first ++ last = cc in
        let found : Leads (ways_into p (q ∷ rest)) role (first ++ (last ++ right)) = into_p first (last ++ right) (subst (λ (x : Role). IsWhole p (x ∷ first)) (sym head) wp) (last, right, refl, wq, g) in
        leads_left (ways_into p (q ∷ rest)) (cond (can_be_nothing p) (ways_into q rest) []) role (left ++ right)
        (subst (λ (l : List Role). Leads (ways_into p (q ∷ rest)) role l) (sym (append_assoc first last right) ∙ ap (λ l. l ++ right) (sym tail)) found)
into_whole (either p q) rest role left right (inl h) g = leads_left (ways_into p rest) (ways_into q rest) role (left ++ right) (into_whole p rest role left right h g)
into_whole (either p q) rest role left right (inr h) g = leads_right (ways_into p rest) (ways_into q rest) role (left ++ right) (into_whole q rest role left right h g)
into_whole (many p) rest role left right h g = into_many p rest (λ r l m w v. into_whole p (many p ∷ rest) r l m w v) h.0 role left right h.1 h.2 g

-- into patterns in order
pub first_way : {Role : Type 0} (patterns : List (Pattern Role)) (role : Role) (roles : List Role) → AreWhole patterns (role ∷ roles) → Leads (ways patterns) role roles
first_way [] role roles h = absurd cc
first_way {Role} (p ∷ rest) role roles h = in_order h.0 h.1 h.2 h.3 h.4 (λ g. first_way rest role roles g)
  where
    in_order : (left right : List Role) → role ∷ roles ≡ left ++ right → IsWhole p left → AreWhole rest right → (AreWhole rest (role ∷ roles) → Leads (ways rest) role roles) → Leads (ways (p ∷ rest)) role roles
    in_order [] right e w g into_rest =
        leads_right (ways_into p rest) (cond (can_be_nothing p) (ways rest) []) role roles
        (leads_where (can_be_nothing p) (ways rest) role roles (whole_nothing p [] refl w) (into_rest (subst (λ (l : List Role). AreWhole rest l) (sym e) g)))
    in_order (r ∷ left) right e w g into_rest =
        let head : role ≡ r = cc in
        let tail : roles ≡ left ++ right = cc in
        leads_left (ways_into p rest) (cond (can_be_nothing p) (ways rest) []) role roles
        (subst (λ (l : List Role). Leads (ways_into p rest) role l) (sym tail) (into_whole p rest role left right (subst (λ (x : Role). IsWhole p (x ∷ left)) (sym head) w) g))

-- ---- and what goes on behind a way is whole with it

-- what stands behind a role that begins the pattern: the rest of the pattern, and then the others
abbrev pub Continues : {Role : Type 0} → Pattern Role → List (Pattern Role) → Role → List Role → Type 0
Continues {Role} p rest role roles = (left right : List Role) × (roles ≡ left ++ right) × IsWhole p (role ∷ left) × AreWhole rest right

pub whole_from : {Role : Type 0} (p : Pattern Role) (rest : List (Pattern Role)) (role : Role) (next : List (Pattern Role)) (roles : List Role) → Among (role, next) (ways_into p rest) → AreWhole next roles → Continues p rest role roles
whole_from nothing rest role next roles h g = absurd h
whole_from {Role} (token other) rest role next roles (inl e) g =
    let head : role ≡ other = ap (λ (way : Way Role). way.0) e in
    let tail : next ≡ rest = ap (λ (way : Way Role). way.1) e in
    ([], roles, refl, ap (λ r. r ∷ []) head, subst (λ (l : List (Pattern Role)). AreWhole l roles) tail g)
whole_from (token other) rest role next roles (inr h) g = absurd h
whole_from {Role} (both p q) rest role next roles h g =
    elim (among_parts (role, next) (ways_into p (q ∷ rest)) (cond (can_be_nothing p) (ways_into q rest) []) h) [
      | inl i ↦
          let first = whole_from p (q ∷ rest) role next roles i g in
          let last = first.4 in
          (first.0 ++ last.0, last.1, first.2 ∙ ap (λ l. first.0 ++ l) last.2 ∙ sym (append_assoc first.0 last.0 last.1), (role ∷ first.0, last.0, refl, first.3, last.3), last.4)
      | inr i ↦
          let there = where_among (role, next) (can_be_nothing p) (ways_into q rest) i in
          let last = whole_from q rest role next roles there.1 g in
          (last.0, last.1, last.2, ([], role ∷ last.0, refl, nothing_whole p there.0, last.3), last.4)
    ]
whole_from (either p q) rest role next roles h g =
    elim (among_parts (role, next) (ways_into p rest) (ways_into q rest) h) [
      | inl i ↦ let one = whole_from p rest role next roles i g in (one.0, one.1, one.2, inl one.3, one.4)
      | inr i ↦ let other = whole_from q rest role next roles i g in (other.0, other.1, other.2, inr other.3, other.4)
    ]
whole_from (many p) rest role next roles h g =
    let first = whole_from p (many p ∷ rest) role next roles h g in
    let last = first.4 in (
      first.0 ++ last.0,
      last.1,
      first.2 ∙ ap (λ l. first.0 ++ l) last.2 ∙ sym (append_assoc first.0 last.0 last.1),
      ((role ∷ first.0) ∷ last.3.0, ap (λ l. role ∷ (first.0 ++ l)) last.3.1, (first.3, last.3.2)),
      last.4,
    )

pub way_whole : {Role : Type 0} (patterns : List (Pattern Role)) (role : Role) (next : List (Pattern Role)) (roles : List Role) → Among (role, next) (ways patterns) → AreWhole next roles → AreWhole patterns (role ∷ roles)
way_whole [] role next roles h g = absurd h
way_whole (p ∷ rest) role next roles h g =
    elim (among_parts (role, next) (ways_into p rest) (cond (can_be_nothing p) (ways rest) []) h) [
      | inl i ↦ let here = whole_from p rest role next roles i g in (role ∷ here.0, here.1, ap (λ l. role ∷ l) here.2, here.3, here.4)
      | inr i ↦
          let there = where_among (role, next) (can_be_nothing p) (ways rest) i in
          ([], role ∷ roles, refl, nothing_whole p there.0, way_whole rest role next roles there.1 g)
    ]

-- ---- cut, as the front of something whole

-- more may follow these roles, up to something whole
abbrev pub GoesOn : {Role : Type 0} → List (Pattern Role) → List Role → Type 0
GoesOn {Role} patterns roles = (more : List Role) × AreWhole patterns (roles ++ more)

pub goes_on-cut : {Role : Type 0} (p : Pattern Role) (roles : List Role) → GoesOn (p ∷ []) roles → IsCut p roles
goes_on-cut {Role} p roles h =
    let whole : IsWhole p (roles ++ h.0) = subst (λ (l : List Role). IsWhole p l) (sym (append-nil h.1.0) ∙ ap (λ l. h.1.0 ++ l) (sym h.1.4) ∙ sym h.1.2) h.1.3 in
    front_cut p roles h.0 (whole_cut p (roles ++ h.0) whole)

pub cut-goes_on : {Role : Type 0} (p : Pattern Role) (roles : List Role) → IsCut p roles → GoesOn (p ∷ []) roles
cut-goes_on p roles h = let on = cut_goes_on p roles h in (on.0, (roles ++ on.0, [], sym (append-nil (roles ++ on.0)), on.1, refl))

-- patterns go on from nothing
pub all_go_on : {Role : Type 0} (patterns : List (Pattern Role)) → GoesOn patterns []
all_go_on [] = ([], refl)
all_go_on (p ∷ rest) = let first = some_whole p in let last = all_go_on rest in (first.0 ++ last.0, (first.0, last.0, refl, first.1, last.1))
