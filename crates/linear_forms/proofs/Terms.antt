-- Terms that rise in their leaves, and two lists of them that are merged.
use Rattle.std.proofs.Common.{◌≡◌, ◌≢◌, ℕ, zero, suc, ◌+◌, ◌-◌, ◌<◌, ◌≤◌, ◌==◌, true, false, List, [], ◌∷◌, ◌++◌, length, drop, get_or, ℤ, pos, ◌+ℤ◌, refl, sym, ap, ◌∙◌, subst, append_assoc, inl, inr, arith, min}
use Rattle.std.specs.Prelude.{◌⊎◌}
use Rattle.std.specs.Ordering.{int_eq}
use Rattle.std.proofs.lemmas.Int.{ints}
use Rattle.std.proofs.lemmas.Bool.{ne_eqb, eq-eqb, eqb-true, eqb-false, ltb-true, lt-ltb, and_parts, and_cases, ltb-false, cases_order, cases_lt, and_from, cond_both, cond-true}
use Rattle.std.proofs.lemmas.Bool.Decides.{Decides-int_eq}
use Rattle.std.proofs.lemmas.List.{append-nil, drop_more, drop_all}
use Rattle.forms.specs.Forms.{AreRising}
use Rattle.linear_forms.specs.Forms.{weight_on, term_on, terms_of, weights_of, weighted}
use Rattle.linear_forms.specs.declared.linear.Form.{Form}
use Rattle.linear_forms.specs.Merging.{is_at, place_past, IsFirst, IsLeast}
use Rattle.linear_forms.proofs.Ring.{weighted_none}

-- ---- weights

pub rising_from : (low high : ℕ) (terms : List (ℕ × ℤ)) → high ≤ low → AreRising low terms → AreRising high terms
rising_from low high [] le rising = tt
rising_from low high (t ∷ terms) le rising = (omega (arith, rising.0, le), rising.1)

-- there is no weight below the first leaf
pub none_below : (low leaf : ℕ) (terms : List (ℕ × ℤ)) → leaf < low → AreRising low terms → weight_on terms leaf ≡ pos 0
none_below low leaf [] below rising = refl
none_below low leaf (t ∷ terms) below rising =
    let other : (t.0 == leaf) ≡ false = ne_eqb t.0 leaf (λ e. omega (arith, e, rising.0, below)) in
    rw other (none_below (t.0 + 1) leaf terms (omega (arith, rising.0, below)) rising.1)

alone : (z : ℤ) → z +ℤ pos 0 ≡ z
alone z = omega (arith, ints)

first_weight : (t : ℕ × ℤ) (terms : List (ℕ × ℤ)) (leaf : ℕ) → t.0 ≡ leaf → AreRising leaf (t ∷ terms) → weight_on (t ∷ terms) leaf ≡ t.1
first_weight t terms leaf same rising =
    let here : (t.0 == leaf) ≡ true = eq-eqb t.0 leaf same in
    let rest : weight_on terms leaf ≡ pos 0 = none_below (t.0 + 1) leaf terms (omega (arith, same)) rising.1 in
    rw (here, rest) (alone t.1)

other_weight : (t : ℕ × ℤ) (terms : List (ℕ × ℤ)) (leaf : ℕ) → t.0 ≢ leaf → weight_on (t ∷ terms) leaf ≡ weight_on terms leaf
other_weight t terms leaf differs = let other : (t.0 == leaf) ≡ false = ne_eqb t.0 leaf differs in rw other refl

-- ---- the term at a place

module _ (terms : List (ℕ × ℤ)) (place leaf : ℕ) where
  abbrev here : ℕ × ℤ
  here = get_or terms place (0, pos 0)

  pub at_is : is_at terms place leaf ≡ true → (place < length terms) × (here.0 ≡ leaf)
  at_is is =
      let parts = and_parts _ _ is in
      (ltb-true place (length terms) parts.0, eqb-true here.0 leaf parts.1)

  pub at_not : is_at terms place leaf ≡ false → (length terms ≤ place) ⊎ (here.0 ≢ leaf)
  at_not is = elim (and_cases _ _ is) [
    | inl far ↦ inl (ltb-false place (length terms) far)
    | inr other ↦ inr (eqb-false here.0 leaf other)
  ]

  pub weight_at : AreRising leaf (drop place terms) → is_at terms place leaf ≡ true → weight_on (drop place terms) leaf ≡ here.1
  weight_at rising is =
      let at = at_is is in
      let split : drop place terms ≡ here ∷ drop (place + 1) terms = drop_more terms place (0, pos 0) at.0 in
      ap (λ ts. weight_on ts leaf) split
      ∙ first_weight here (drop (place + 1) terms) leaf at.1 (subst (λ ts. AreRising leaf ts) split rising)

  pub weight_not : AreRising leaf (drop place terms) → is_at terms place leaf ≡ false → weight_on (drop place terms) leaf ≡ pos 0
  weight_not rising is = elim (cases_lt place (length terms)) [
    | inr far ↦ ap (λ ts. weight_on ts leaf) (drop_all place terms far)
    | inl inside ↦
        let differs : here.0 ≢ leaf = elim (at_not is) [ inl far ↦ absurd (omega (arith, far, inside)) | inr other ↦ other ] in
        let split : drop place terms ≡ here ∷ drop (place + 1) terms = drop_more terms place (0, pos 0) inside in
        let apart : AreRising leaf (here ∷ drop (place + 1) terms) = subst (λ ts. AreRising leaf ts) split rising in
        ap (λ ts. weight_on ts leaf) split
        ∙ other_weight here (drop (place + 1) terms) leaf differs
        ∙ none_below (here.0 + 1) leaf (drop (place + 1) terms) (omega (arith, apart.0)) apart.1
  ]

-- the first leaf from a place on
pub first_is : (terms : List (ℕ × ℤ)) (place : ℕ) → place < length terms → AreRising 0 (drop place terms)
    → IsFirst terms place (get_or terms place (0, pos 0)).0
first_is terms place inside rising =
    let t : ℕ × ℤ = get_or terms place (0, pos 0) in
    let split : drop place terms ≡ t ∷ drop (place + 1) terms = drop_more terms place (0, pos 0) inside in
    let apart : AreRising 0 (t ∷ drop (place + 1) terms) = subst (λ ts. AreRising 0 ts) split rising in
    let here : AreRising t.0 (t ∷ drop (place + 1) terms) = (omega arith, apart.1) in
    record {
      there = and_from _ _ (lt-ltb place (length terms) inside) (eq-eqb t.0 t.0 refl);
      rising = subst (λ ts. AreRising t.0 ts) (sym split) here;
      below = λ leaves under. under place (0, pos 0) inside;
    }

pub only_first : (terms others : List (ℕ × ℤ)) (place other_place leaf : ℕ) → IsFirst terms place leaf → length others ≤ other_place
    → IsLeast terms place others other_place leaf
only_first terms others place other_place leaf first far = record {
  rising = first.rising;
  other_rising = subst (λ ts. AreRising leaf ts) (sym (drop_all other_place others far)) tt;
  there = inl first.there;
  below = λ leaves under other_under. first.below leaves under;
}

pub only_second : (terms others : List (ℕ × ℤ)) (place other_place leaf : ℕ) → length terms ≤ place → IsFirst others other_place leaf
    → IsLeast terms place others other_place leaf
only_second terms others place other_place leaf far second = record {
  rising = subst (λ ts. AreRising leaf ts) (sym (drop_all place terms far)) tt;
  other_rising = second.rising;
  there = inr second.there;
  below = λ leaves under other_under. second.below leaves other_under;
}

both_first_at : (terms others : List (ℕ × ℤ)) (place other_place leaf other least : ℕ) → least ≡ min leaf other → IsFirst terms place leaf
    → IsFirst others other_place other → IsLeast terms place others other_place least
both_first_at terms others place other_place leaf other least is first second = record {
  rising = rising_from leaf least (drop place terms) (omega (arith, is)) first.rising;
  other_rising = rising_from other least (drop other_place others) (omega (arith, is)) second.rising;
  there = elim (cases_lt leaf other) [
    | inl less ↦ let same : leaf ≡ least = omega (arith, is, less) in inl (subst (λ l. is_at terms place l ≡ true) same first.there)
    | inr more ↦ let same : other ≡ least = omega (arith, is, more) in inr (subst (λ l. is_at others other_place l ≡ true) same second.there)
  ];
  below = λ leaves under other_under. omega (arith, is, first.below leaves under);
}

pub both_first : (terms others : List (ℕ × ℤ)) (place other_place leaf other : ℕ) → IsFirst terms place leaf
    → IsFirst others other_place other → IsLeast terms place others other_place (min leaf other)
both_first terms others place other_place leaf other first second =
    both_first_at terms others place other_place leaf other (min leaf other) refl first second

-- ---- terms of weights

no_term : (leaf : ℕ) (weight : ℤ) → weight ≡ pos 0 → term_on leaf weight ≡ []
no_term leaf weight none = let is : int_eq weight (pos 0) ≡ true = (Decides-int_eq weight (pos 0)).1 none in rw is refl

pub no_terms : (leaves : ℕ) (weight : ℕ → ℤ) → ((leaf : ℕ) → leaf < leaves → weight leaf ≡ pos 0) → terms_of leaves weight ≡ []
no_terms zero weight none = refl
no_terms (suc leaves) weight none =
    let rest : terms_of leaves weight ≡ [] = no_terms leaves weight (λ leaf below. none leaf (omega (arith, below))) in
    rw (rest, no_term leaves (weight leaves) (none leaves (omega arith))) refl

-- one leaf less
pub terms_step : (leaves leaf : ℕ) (weight next : ℕ → ℤ) → leaf < leaves → ((x : ℕ) → x < leaf → weight x ≡ pos 0)
    → ((x : ℕ) → x < leaf + 1 → next x ≡ pos 0) → ((x : ℕ) → leaf < x → next x ≡ weight x)
    → terms_of leaves weight ≡ term_on leaf (weight leaf) ++ terms_of leaves next
terms_step zero leaf weight next below before through later = absurd (omega arith)
terms_step (suc leaves) leaf weight next below before through later = elim (cases_order leaf leaves) [
  | inl same ↦
      let first : terms_of leaves weight ≡ [] = no_terms leaves weight (λ x lower. before x (omega (arith, lower, same))) in
      let rest : terms_of leaves next ≡ [] = no_terms leaves next (λ x lower. through x (omega (arith, lower, same))) in
      let last : term_on leaves (next leaves) ≡ [] = no_term leaves (next leaves) (through leaves (omega (arith, same))) in
      let own : term_on leaves (weight leaves) ≡ term_on leaf (weight leaf) = ap (λ l. term_on l (weight l)) (sym same) in
      rw (first, rest, last) (own ∙ sym (append-nil (term_on leaf (weight leaf))))
  | inr order ↦ elim order [
    | inl less ↦
        let own : terms_of leaves weight ≡ term_on leaf (weight leaf) ++ terms_of leaves next = terms_step leaves leaf weight next less before through later in
        let last : term_on leaves (next leaves) ≡ term_on leaves (weight leaves) = ap (term_on leaves) (later leaves less) in
        rw (own, last) (append_assoc (term_on leaf (weight leaf)) (terms_of leaves next) (term_on leaves (weight leaves)))
    | inr more ↦ absurd (omega (arith, more, below))
  ]
]

-- the merged terms with those of one leaf more
pub merged_more : (merged : List (ℕ × ℤ)) (factor other_factor : ℤ) (terms others later_terms later_others : List (ℕ × ℤ)) (leaves leaf : ℕ)
    (weight : ℤ) (whole : List (ℕ × ℤ)) → leaf < leaves → AreRising leaf terms → AreRising leaf others
    → AreRising (leaf + 1) later_terms → AreRising (leaf + 1) later_others
    → ((x : ℕ) → leaf < x → weight_on later_terms x ≡ weight_on terms x)
    → ((x : ℕ) → leaf < x → weight_on later_others x ≡ weight_on others x)
    → weight ≡ weights_of factor terms other_factor others leaf
    → merged ++ terms_of leaves (weights_of factor terms other_factor others) ≡ whole
    → (merged ++ term_on leaf weight) ++ terms_of leaves (weights_of factor later_terms other_factor later_others) ≡ whole
merged_more merged factor other_factor terms others later_terms later_others leaves leaf weight whole below rising other_rising later other_later same other_same is so_far =
    let step : terms_of leaves (weights_of factor terms other_factor others) ≡ term_on leaf (weights_of factor terms other_factor others leaf) ++ terms_of leaves (weights_of factor later_terms other_factor later_others) =
    terms_step leaves leaf (weights_of factor terms other_factor others) (weights_of factor later_terms other_factor later_others) below
    (λ x lower. weighted_none factor (weight_on terms x) other_factor (weight_on others x) (none_below leaf x terms lower rising) (none_below leaf x others lower other_rising))
    (λ x lower. weighted_none factor (weight_on later_terms x) other_factor (weight_on later_others x) (none_below (leaf + 1) x later_terms lower later) (none_below (leaf + 1) x later_others lower other_later))
    (λ x higher. ap (λ w. weighted factor w other_factor (weight_on later_others x)) (same x higher) ∙ ap (λ w. weighted factor (weight_on terms x) other_factor w) (other_same x higher)) in
    append_assoc merged (term_on leaf weight) (terms_of leaves (weights_of factor later_terms other_factor later_others))
    ∙ ap (λ w. merged ++ (term_on leaf w ++ terms_of leaves (weights_of factor later_terms other_factor later_others))) is
    ∙ ap (λ ts. merged ++ ts) (sym step) ∙ so_far

-- one of the two places moves on
pub place_moves : (terms others : List (ℕ × ℤ)) (place other_place leaf next other_next : ℕ) → IsLeast terms place others other_place leaf
    → next ≡ place_past terms place leaf → other_next ≡ place_past others other_place leaf
    → next ≤ length terms → other_next ≤ length others
    → (length terms - next) + (length others - other_next) < (length terms - place) + (length others - other_place)
place_moves terms others place other_place leaf next other_next least is other_is within other_within =
    let least_next : place ≤ next = subst (λ n. place ≤ n) (sym is) (cond_both (is_at terms place leaf) (place + 1) place (λ n. place ≤ n) (λ e. omega arith) (λ e. omega arith)) in
    let least_other : other_place ≤ other_next = subst (λ n. other_place ≤ n) (sym other_is) (cond_both (is_at others other_place leaf) (other_place + 1) other_place (λ n. other_place ≤ n) (λ e. omega arith) (λ e. omega arith)) in
    elim least.there [
      | inl here ↦ let moved : next ≡ place + 1 = is ∙ cond-true (is_at terms place leaf) (place + 1) place here in omega (arith, moved, within, other_within, least_other)
      | inr here ↦ let moved : other_next ≡ other_place + 1 = other_is ∙ cond-true (is_at others other_place leaf) (other_place + 1) other_place here in omega (arith, moved, within, other_within, least_next)
    ]

-- what is merged where nothing is left
pub merged_all : (merged terms others whole : List (ℕ × ℤ)) (factor other_factor : ℤ) (place other_place leaves : ℕ)
    → length terms ≤ place → length others ≤ other_place
    → merged ++ terms_of leaves (weights_of factor (drop place terms) other_factor (drop other_place others)) ≡ whole → merged ≡ whole
merged_all merged terms others whole factor other_factor place other_place leaves far other_far so_far =
    let none : terms_of leaves (weights_of factor (drop place terms) other_factor (drop other_place others)) ≡ [] =
    no_terms leaves (weights_of factor (drop place terms) other_factor (drop other_place others))
    (λ x lower. weighted_none factor (weight_on (drop place terms) x) other_factor (weight_on (drop other_place others) x)
    (ap (λ ts. weight_on ts x) (drop_all place terms far)) (ap (λ ts. weight_on ts x) (drop_all other_place others other_far))) in
    sym (append-nil merged) ∙ ap (λ ts. merged ++ ts) (sym none) ∙ so_far

-- a form by its constant and its terms
pub same_form : (z y : ℤ) (terms others : List (ℕ × ℤ)) → z ≡ y → terms ≡ others
    → ◌≡◌ {A = Form} (record { constant = z; terms = terms }) (record { constant = y; terms = others })
same_form z y terms others same same_terms =
    let first : ◌≡◌ {A = Form} (record { constant = z; terms = terms }) (record { constant = y; terms = terms }) =
    ap (λ x. let form : Form = record { constant = x; terms = terms } in form) same in
    first ∙ ap (λ ts. let form : Form = record { constant = y; terms = ts } in form) same_terms

pub terms_same : (leaves : ℕ) (f f' : ℤ) (terms terms' : List (ℕ × ℤ)) (g g' : ℤ) (others others' : List (ℕ × ℤ)) → f ≡ f' → terms ≡ terms' → g ≡ g'
    → others ≡ others' → terms_of leaves (weights_of f terms g others) ≡ terms_of leaves (weights_of f' terms' g' others')
terms_same leaves f f' terms terms' g g' others others' p q r s =
    ap (λ x. terms_of leaves (weights_of x terms g others)) p ∙ ap (λ x. terms_of leaves (weights_of f' x g others)) q
    ∙ ap (λ x. terms_of leaves (weights_of f' terms' x others)) r ∙ ap (λ x. terms_of leaves (weights_of f' terms' g' x)) s
