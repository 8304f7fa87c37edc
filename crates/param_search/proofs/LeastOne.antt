-- The least choice and the refused ones, out of what the first feasible of an ordered list is.
use Rattle.std.proofs.Common.{◌≡◌, Bool, true, false, List, [], ◌∷◌, take, Option, inl, inr, ◌⊎◌, sym, ap, refl, ◌∙◌, subst}
use Rattle.std.specs.Prelude.{Some, None, IfSome, IsNone, find, filter_map, is_none, Contains}
use Rattle.std.specs.Option.{option_map}
use Rattle.std.specs.List.{AllByRecursion, position_or_len, cons_option}
use Rattle.fhe_params.specs.declared.table.Table.{Table}
use Rattle.fhe_params.specs.declared.table.Choice.{Choice}
use Rattle.fhe_params.specs.Table.{IsChoice, params_of}
use Rattle.tfhe_level.specs.declared.shape.Shape.{Shape}
use Rattle.tfhe_level.specs.Nodes.{nodes_of}
use Rattle.tfhe_level.specs.Counts.{counts_of}
use Rattle.noise_model.specs.declared.constraints.Broken.{Broken}
use Rattle.noise_model.specs.Constraints.{first_broken_of, MeetsAll}
use Rattle.noise_model.specs.Laws.{ConstraintLaws}
use Rattle.param_search.specs.declared.choices.Priced.{Priced}
use Rattle.param_search.specs.Choices.{choices_in_order}
use Rattle.param_search.specs.Search.{broken_by, is_feasible, refused, refusal_of, least_choice, refused_choices}
use Rattle.param_search.specs.Laws.{GoesBefore, price_for}
use Rattle.param_search.proofs.Members.{Has, contains_from, each_at}
use Rattle.param_search.proofs.Ordered.{choices_ordered, before_once}
use Rattle.param_search.proofs.Trying.{place_later, place_here}
use Rattle.param_search.proofs.Firsts.{first_passes, first_before, none_found, in_front}
use Rattle.param_search.proofs.Chosen.{IsOf, each_is, has_choice}

-- ---- feasible is what meets all constraints

none_is : {A : Type 0} (o : Option A) → is_none o ≡ true → IsNone o
none_is None e = refl
none_is (Some x) e = absurd (let e = e in cc)

is_none_of : {A : Type 0} (o : Option A) → IsNone o → is_none o ≡ true
is_none_of None e = refl
is_none_of (Some x) e = absurd (let e = e in cc)

feasible_meets : ConstraintLaws → (table : Table) (shape : Shape) (p : Priced) → is_feasible table shape p ≡ true → MeetsAll (params_of table p.choice) shape
feasible_meets laws table shape p is = (laws.none (params_of table p.choice) shape).0 (none_is (broken_by table shape p) is)

meets_feasible : ConstraintLaws → (table : Table) (shape : Shape) (p : Priced) → MeetsAll (params_of table p.choice) shape → is_feasible table shape p ≡ true
meets_feasible laws table shape p meets = is_none_of (broken_by table shape p) ((laws.none (params_of table p.choice) shape).1 meets)

-- ---- the least choice

-- all choices in order, for a shape
abbrev ordered : Table → Shape → List Priced
ordered table shape = choices_in_order table (counts_of (nodes_of shape))

chosen_step : (table : Table) (shape : Shape) (found : Option Priced) → IfSome found (λ p. (is_feasible table shape p ≡ true) × Has (ordered table shape) p) → IfSome (option_map (λ choice. choice.choice) found) (IsChoice table)
chosen_step table shape None is = tt
chosen_step table shape (Some p) is = (each_at (IsOf table (counts_of (nodes_of shape))) (ordered table shape) p (each_is table (counts_of (nodes_of shape))) is.1).place

pub chosen : (table : Table) (shape : Shape) → IfSome (least_choice table shape) (IsChoice table)
chosen table shape = chosen_step table shape (find (is_feasible table shape) (ordered table shape)) (first_passes (is_feasible table shape) (ordered table shape))

meets_step : ConstraintLaws → (table : Table) (shape : Shape) (found : Option Priced) → IfSome found (λ p. (is_feasible table shape p ≡ true) × Has (ordered table shape) p) → IfSome (option_map (λ choice. choice.choice) found) (λ choice. MeetsAll (params_of table choice) shape)
meets_step laws table shape None is = tt
meets_step laws table shape (Some p) is = feasible_meets laws table shape p is.0

pub meets : ConstraintLaws → (table : Table) (shape : Shape) → IfSome (least_choice table shape) (λ choice. MeetsAll (params_of table choice) shape)
meets laws table shape = meets_step laws table shape (find (is_feasible table shape) (ordered table shape)) (first_passes (is_feasible table shape) (ordered table shape))

-- what was found is the price of its choice
found_price : (table : Table) (shape : Shape) (p : Priced) → find (is_feasible table shape) (ordered table shape) ≡ Some p → p ≡ price_for table shape p.choice
found_price table shape p e =
    let is = subst (λ o. IfSome o (λ q. (is_feasible table shape q ≡ true) × Has (ordered table shape) q)) e (first_passes (is_feasible table shape) (ordered table shape)) in
    (each_at (IsOf table (counts_of (nodes_of shape))) (ordered table shape) p (each_is table (counts_of (nodes_of shape))) is.1).priced

same_some : {A : Type 0} (a b : A) → Some a ≡ Some b → a ≡ b
same_some a b e = cc

least_case : (table : Table) (shape : Shape) (choice other : Choice) (p : Priced) → p.choice ≡ choice → p ≡ price_for table shape p.choice → (price_for table shape other ≡ p) ⊎ GoesBefore p (price_for table shape other)
    → (other ≡ choice) ⊎ GoesBefore (price_for table shape choice) (price_for table shape other)
least_case table shape choice other p same priced (inl e) = inl (ap (λ q. q.choice) e ∙ same)
least_case table shape choice other p same priced (inr before) =
    inr (subst (λ q. GoesBefore q (price_for table shape other)) (priced ∙ ap (λ c. price_for table shape c) same) before)

least_step : (table : Table) (shape : Shape) (choice other : Choice) (found : Option Priced) → find (is_feasible table shape) (ordered table shape) ≡ found → option_map (λ choice. choice.choice) found ≡ Some choice
    → ((p : Priced) → find (is_feasible table shape) (ordered table shape) ≡ Some p → (price_for table shape other ≡ p) ⊎ GoesBefore p (price_for table shape other))
    → (other ≡ choice) ⊎ GoesBefore (price_for table shape choice) (price_for table shape other)
least_step table shape choice other None is e later = absurd (let e = e in cc)
least_step table shape choice other (Some p) is e later = least_case table shape choice other p (same_some p.choice choice e) (found_price table shape p is) (later p is)

pub least : ConstraintLaws → (table : Table) (shape : Shape) (choice other : Choice) → least_choice table shape ≡ Some choice → IsChoice table other → MeetsAll (params_of table other) shape
    → (other ≡ choice) ⊎ GoesBefore (price_for table shape choice) (price_for table shape other)
least laws table shape choice other e is meets =
    least_step table shape choice other (find (is_feasible table shape) (ordered table shape)) refl e
    (λ p found. first_before GoesBefore (is_feasible table shape) (ordered table shape) (price_for table shape other) p (choices_ordered table (counts_of (nodes_of shape))) found
    (has_choice table (counts_of (nodes_of shape)) other is) (meets_feasible laws table shape (price_for table shape other) meets))

none_step : (found : Option Priced) → option_map (λ choice. choice.choice) found ≡ None → found ≡ None
none_step None e = refl
none_step (Some p) e = absurd (let e = e in cc)

pub none : ConstraintLaws → (table : Table) (shape : Shape) (other : Choice) → least_choice table shape ≡ None → IsChoice table other → MeetsAll (params_of table other) shape → ⊥
none laws table shape other e is meets =
    none_found (is_feasible table shape) (ordered table shape) (price_for table shape other) (none_step (find (is_feasible table shape) (ordered table shape)) e)
    (has_choice table (counts_of (nodes_of shape)) other is) (meets_feasible laws table shape (price_for table shape other) meets)

-- ---- the refused ones

front_step : (table : Table) (shape : Shape) (x : Priced) (xs : List Priced) (test : Bool) → is_feasible table shape x ≡ test
    → AllByRecursion (λ p. is_feasible table shape p ≡ false) (take (position_or_len (is_feasible table shape) xs) xs)
    → AllByRecursion (λ p. is_feasible table shape p ≡ false) (take (position_or_len (is_feasible table shape) (x ∷ xs)) (x ∷ xs))
front_step table shape x xs true is later =
    subst (λ n. AllByRecursion (λ p. is_feasible table shape p ≡ false) (take n (x ∷ xs))) (sym (place_here (is_feasible table shape) x xs is)) tt
front_step table shape x xs false is later =
    subst (λ n. AllByRecursion (λ p. is_feasible table shape p ≡ false) (take n (x ∷ xs))) (sym (place_later (is_feasible table shape) x xs is)) (is, later)

-- those in front of the first feasible one break a constraint
front_broken : (table : Table) (shape : Shape) (xs : List Priced) → AllByRecursion (λ p. is_feasible table shape p ≡ false) (take (position_or_len (is_feasible table shape) xs) xs)
front_broken table shape [] = tt
front_broken table shape (x ∷ xs) = front_step table shape x xs (is_feasible table shape x) refl (front_broken table shape xs)

some_broken : (o : Option Broken) → is_none o ≡ false → (broken : Broken) × (o ≡ Some broken)
some_broken None e = absurd (let e = e in cc)
some_broken (Some broken) e = (broken, refl)

refusal_behind : (table : Table) (shape : Shape) (p : Priced) (broken : Broken) (x : Priced) (xs : List Priced) (o : Option Broken) → broken_by table shape x ≡ o
    → Has (filter_map (refusal_of table shape) xs) (refused p broken) → Has (cons_option (option_map (refused x) o) (filter_map (refusal_of table shape) xs)) (refused p broken)
refusal_behind table shape p broken x xs None is later = later
refusal_behind table shape p broken x xs (Some other) is later = inr later

has_refusal : (table : Table) (shape : Shape) (p : Priced) (broken : Broken) (xs : List Priced) → broken_by table shape p ≡ Some broken → Has xs p → Has (filter_map (refusal_of table shape) xs) (refused p broken)
has_refusal table shape p broken [] is has = absurd has
has_refusal table shape p broken (x ∷ xs) is (inl same) = rw (same, is) (inl refl)
has_refusal table shape p broken (x ∷ xs) is (inr has) = refusal_behind table shape p broken x xs (broken_by table shape x) refl (has_refusal table shape p broken xs is has)

before_found : (table : Table) (shape : Shape) (other : Choice) (found : Option Priced) → find (is_feasible table shape) (ordered table shape) ≡ found
    → IfSome (option_map (λ choice. choice.choice) found) (λ choice. GoesBefore (price_for table shape other) (price_for table shape choice)) → IfSome found (GoesBefore (price_for table shape other))
before_found table shape other None is before = tt
before_found table shape other (Some p) is before = subst (GoesBefore (price_for table shape other)) (sym (found_price table shape p is)) before

pub refused_before_it : (table : Table) (shape : Shape) (other : Choice) → IsChoice table other
    → IfSome (least_choice table shape) (λ choice. GoesBefore (price_for table shape other) (price_for table shape choice))
    → (broken : Broken) × (first_broken_of (params_of table other) shape ≡ Some broken) × Contains (refused_choices table shape) (refused (price_for table shape other) broken)
refused_before_it table shape other is before =
    let p = price_for table shape other in
    let front = in_front GoesBefore before_once (is_feasible table shape) (ordered table shape) p (choices_ordered table (counts_of (nodes_of shape))) (has_choice table (counts_of (nodes_of shape)) other is)
    (before_found table shape other (find (is_feasible table shape) (ordered table shape)) refl before) in
    let broken = some_broken (broken_by table shape p) (each_at (λ q. is_feasible table shape q ≡ false) (take (position_or_len (is_feasible table shape) (ordered table shape)) (ordered table shape)) p (front_broken table shape (ordered table shape)) front) in
    (broken.0, broken.1, contains_from (refused_choices table shape) (refused p broken.0) (has_refusal table shape p broken.0 (take (position_or_len (is_feasible table shape) (ordered table shape)) (ordered table shape)) broken.1 front))
