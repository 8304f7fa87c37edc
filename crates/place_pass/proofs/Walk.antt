-- The placement goes over all patterns.
use Rattle.std.proofs.Common.{◌≡◌, ℕ, ◌+◌, ◌<◌, ◌≤◌, true, false, cond, List, [], ◌∷◌, ◌++◌, length, map, All, sym, refl, ap, ◌∙◌, subst, arith, ℤ}
use Prim.Native.Nat.{zero, suc}
use Rattle.std.specs.Prelude.{IsTrue, count_by, filter, not}
use Rattle.std.specs.List.{AllByRecursion}
use Rattle.std.proofs.lemmas.Bool.{false≢true, true≢false}
use Rattle.std.proofs.lemmas.List.{length_push, append_assoc, append-nil, map-append}
use Rattle.std.proofs.lemmas.List.Elements.{All-from_recursion, recursion_from_All, All-same, All-push}
use Rattle.forms.specs.Forms.{form_range}
use Rattle.forms.specs.Terms.{leaves_of}
use Rattle.forms.specs.FromEarlier.{from_earlier, from_earlier_push, from_earlier-append, from_earlier_keeps, length-from_earlier}
use Rattle.forms.specs.Ranges.{IsNumberRange}
use Rattle.range_pass.specs.Bounds.{IsSmallRange, IsSmallTerm}
use Rattle.ap_level.specs.declared.level.ApOp.{ApOp}
use Rattle.ap_level.specs.declared.level.ApOp.TheVariants.{Input, Look, Out}
use Rattle.ap_level.specs.Operations.{is_input, is_look, is_out}
use Rattle.ap_level.specs.Patterns.{pattern_ranges, range_of}
use Rattle.ap_level.specs.Rules.{IsLeafAt, IsTerm, IsForm, KeepsRule, KeepRules, ArePatterns}
use Rattle.place_pass.specs.declared.outlet.Outlet.{Outlet}
use Rattle.place_pass.specs.Placing.{Placed, place_op, place_ops, place_form, outlet_of, nothing_placed}
use Rattle.place_pass.specs.Placements.{HasRoom, IsFormThere, CanOut, CanPlace, CanFinish}
use Rattle.place_pass.proofs.Solving.{form_range_kept}
use Rattle.place_pass.proofs.Following.{AreOn}
use Rattle.place_pass.proofs.Steps.{Follows, AreInputs, AreFirst, input_follows, input_first, look_follows, look_first, OutsFollow, no_outs_follow, out_follows, outs_follow}
use Rattle.place_pass.proofs.Messages.{forms_from, forms_push}
use Rattle.place_pass.proofs.Keeping.{KeepSo}
use Rattle.place_pass.proofs.KeepSteps.{AreInputNodes, input_nodes, look_nodes, input_keeps, look_keeps, out_keeps}
use Rattle.place_pass.proofs.Small.{look_small, input_small, rising_few, count_first, count_push}

-- ---- the walk

-- the operations are put one after the other, each where it may be, and at the end this holds
abbrev pub Goes : (Placed → Type 0) → Placed → List ApOp → Type 0
Goes End p [] = End p
Goes End p (op ∷ operations) = CanPlace p op × Goes End (place_op p op) operations

pub goes_end : (End : Placed → Type 0) (p : Placed) (operations : List ApOp) → Goes End p operations → End (place_ops p operations)
goes_end End p [] goes = goes
goes_end End p (op ∷ operations) goes = goes_end End (place_op p op) operations goes.1

pub goes_weaker : (First Second : Placed → Type 0) → ((p : Placed) → First p → Second p) → (p : Placed) (operations : List ApOp) → Goes First p operations → Goes Second p operations
goes_weaker First Second weaker p [] goes = weaker p goes
goes_weaker First Second weaker p (op ∷ operations) goes = (goes.0, goes_weaker First Second weaker (place_op p op) operations goes.1)

-- ---- leaves

-- operations that are no results
abbrev pub AreNoOuts : List ApOp → Type 0
AreNoOuts operations = AllByRecursion (λ op. is_out op ≡ false) operations

-- results
abbrev pub AreOuts : List ApOp → Type 0
AreOuts operations = AllByRecursion (λ op. is_out op ≡ true) operations

no_leaf : (outs : List ApOp) (place : ℕ) → AreOuts outs → IsLeafAt outs place → ⊥
no_leaf [] place are at = absurd at
no_leaf (Input lo hi ∷ outs) place are at = absurd (false≢true are.0)
no_leaf (Look constant terms entries ∷ outs) place are at = absurd (false≢true are.0)
no_leaf (Out constant terms ∷ outs) zero are at = absurd (false≢true at)
no_leaf (Out constant terms ∷ outs) (suc place) are at = no_leaf outs place are.1 at

leaf_within : (leafs outs : List ApOp) (place : ℕ) → AreOuts outs → IsLeafAt (leafs ++ outs) place → place < length leafs
leaf_within [] outs place are at = absurd (no_leaf outs place are at)
leaf_within (leaf ∷ leafs) outs zero are at = omega arith
leaf_within (leaf ∷ leafs) outs (suc place) are at = omega (arith, leaf_within leafs outs place are at)

-- the terms of a form are on the leaves
terms_on : (leafs outs : List ApOp) (terms : List (ℕ × ℤ)) → AreOuts outs → AllByRecursion (IsTerm (leafs ++ outs)) terms → AreOn (length leafs) terms
terms_on leafs outs [] are each = tt
terms_on leafs outs (t ∷ terms) are each = (leaf_within leafs outs t.0 are each.0.leaf, terms_on leafs outs terms are each.1)

pub form_on : (leafs outs : List ApOp) (constant : ℤ) (terms : List (ℕ × ℤ)) → AreOuts outs → IsForm (leafs ++ outs) constant terms → AreOn (length leafs) terms
form_on leafs outs constant terms are form = terms_on leafs outs terms are (recursion_from_All (IsTerm (leafs ++ outs)) terms form.each)

pub leaves_on : (count : ℕ) (terms : List (ℕ × ℤ)) → AreOn count terms → AllByRecursion (λ o. o < count) (leaves_of terms)
leaves_on count [] on = tt
leaves_on count (t ∷ terms) on = (on.0, leaves_on count terms on.1)

-- the range of a form on leaves hangs on no result
pub range_on_leaves : (leafs outs : List ApOp) (constant : ℤ) (terms : List (ℕ × ℤ)) → AreOn (length leafs) terms → form_range constant terms (pattern_ranges (leafs ++ outs)) ≡ form_range constant terms (pattern_ranges leafs)
range_on_leaves leafs outs constant terms on =
    let first = pattern_ranges leafs in
    let keeps = from_earlier_keeps range_of first outs in
    let long : length first ≡ length leafs = omega (arith, length-from_earlier range_of [] leafs) in
    let on' : AllByRecursion (λ o. o < length first) (leaves_of terms) = subst (λ n. AllByRecursion (λ o. o < n) (leaves_of terms)) (sym long) (leaves_on (length leafs) terms on) in
    ap (form_range constant terms) (from_earlier-append range_of [] leafs outs ∙ keeps.1) ∙ form_range_kept constant terms first keeps.0 on'

-- ---- what holds on the way

-- of arguments and look-ups
pub record AreFew (leafs : List ApOp) : Type 0 where
  pub length : length leafs ≤ 64 + count_by is_look leafs
  pub looks : count_by is_look leafs ≤ 1024
  pub small : All IsSmallRange (pattern_ranges leafs)

-- while there are arguments and look-ups
pub record IsReady (leafs : List ApOp) (p : Placed) : Type 0 where
  pub follows : Follows leafs p
  pub first : AreFirst leafs p
  pub few : AreFew leafs
  pub none : p.outs ≡ []
  pub keep : KeepSo leafs p
  pub nodes : AreInputNodes leafs p

-- the range of an out
abbrev pub outlet_range : Outlet → ℤ × ℤ
outlet_range outlet = (outlet.lo, outlet.hi)

-- while there are results
pub record IsOutReady (leafs outs : List ApOp) (p : Placed) : Type 0 where
  pub follows : Follows leafs p
  pub outs_follow : OutsFollow leafs outs p
  pub few : AreFew leafs
  pub few_outs : length outs ≤ 64
  pub keep : KeepSo leafs p
  pub out_ranges : map outlet_range p.outs ≡ forms_from (pattern_ranges leafs) outs

has_room : (leafs : List ApOp) (p : Placed) → Follows leafs p → AreFew leafs → length p.outs ≤ 64 → HasRoom p
has_room leafs p follows few outs = record {
  numbers = omega (arith, follows.short, few.length, few.looks, outs);
  leaves = All-from_recursion (λ (leaf : ℕ). leaf < length p.nodes) p.leaves follows.agrees.on;
}

form_there : (leafs outs : List ApOp) (p : Placed) (constant : ℤ) (terms : List (ℕ × ℤ)) → Follows leafs p → AreFew leafs → AreOuts outs → IsForm (leafs ++ outs) constant terms → IsFormThere p terms
form_there leafs outs p constant terms follows few are form =
    let on = form_on leafs outs constant terms are form in
    let short = rising_few 0 (length leafs) terms (omega arith) form.rising on in
    record {
      leaves = All-from_recursion (λ (t : ℕ × ℤ). t.0 < length p.leaves) terms (subst (λ n. AreOn n terms) (sym follows.agrees.count) on);
      few = omega (arith, short, few.length, few.looks);
    }

-- ---- one step

on_placed : (leafs outs : List ApOp) (p : Placed) (constant : ℤ) (terms : List (ℕ × ℤ)) → Follows leafs p → AreOuts outs → IsForm (leafs ++ outs) constant terms → AreOn (length p.leaves) terms
on_placed leafs outs p constant terms follows are form = subst (λ n. AreOn n terms) (sym follows.agrees.count) (form_on leafs outs constant terms are form)

small_push : (leafs : List ApOp) (op : ApOp) → All IsSmallRange (pattern_ranges leafs) → IsSmallRange (range_of (pattern_ranges leafs) op) → All IsSmallRange (pattern_ranges (leafs ++ op ∷ []))
small_push leafs op all is =
    All-same IsSmallRange (pattern_ranges (leafs ++ op ∷ [])) (pattern_ranges leafs ++ range_of (pattern_ranges leafs) op ∷ []) (from_earlier_push range_of [] leafs op) (All-push IsSmallRange (pattern_ranges leafs) (range_of (pattern_ranges leafs) op) all is)

are_inputs : (leafs : List ApOp) → All (λ op. IsTrue (is_input op)) leafs → AreInputs leafs
are_inputs leafs all = recursion_from_All (λ op. IsTrue (is_input op)) leafs all

input_step : (all leafs : List ApOp) (p : Placed) (lo hi : ℤ) → KeepsRule all leafs (Input lo hi) → IsReady leafs p → IsReady (leafs ++ Input lo hi ∷ []) (place_op p (Input lo hi))
input_step all leafs p lo hi rule ready = record {
  follows = input_follows leafs p lo hi ready.follows ready.first (are_inputs leafs rule.first);
  first = input_first leafs p lo hi ready.first;
  few = record {
    length = omega (arith, rule.few, length_push leafs (Input lo hi), count_push is_look leafs (Input lo hi));
    looks = omega (arith, ready.few.looks, count_push is_look leafs (Input lo hi));
    small = small_push leafs (Input lo hi) ready.few.small (input_small lo hi rule.range);
  };
  none = ready.none;
  keep = input_keeps all leafs p lo hi rule ready.follows ready.first ready.nodes ready.none ready.keep;
  nodes = input_nodes leafs p lo hi ready.nodes;
}

look_step : (all leafs : List ApOp) (p : Placed) (constant : ℤ) (terms : List (ℕ × ℤ)) (entries : List ℤ) → KeepsRule all leafs (Look constant terms entries) → AreOn (length p.leaves) terms → IsReady leafs p
    → IsReady (leafs ++ Look constant terms entries ∷ []) (place_op p (Look constant terms entries))
look_step all leafs p constant terms entries rule on ready =
    let op = Look constant terms entries in
    record {
      follows = look_follows leafs p constant terms entries ready.follows on;
      first = look_first leafs p constant terms entries;
      few = record {
        length = omega (arith, ready.few.length, length_push leafs op, count_push is_look leafs op);
        looks = omega (arith, rule.few, count_push is_look leafs op);
        small = small_push leafs op ready.few.small (look_small entries rule.each);
      };
      none = ready.none;
      keep = look_keeps all leafs p constant terms entries rule ready.follows on ready.none ready.keep;
      nodes = look_nodes leafs p constant terms entries;
    }

whole_form : (leafs : List ApOp) (constant : ℤ) (terms : List (ℕ × ℤ)) → IsForm leafs constant terms → IsForm (leafs ++ []) constant terms
whole_form leafs constant terms form = subst (λ l. IsForm l constant terms) (sym (append-nil leafs)) form

leaf_step : (all leafs : List ApOp) (p : Placed) (op : ApOp) → is_out op ≡ false → KeepsRule all leafs op → IsReady leafs p → CanPlace p op × IsReady (leafs ++ op ∷ []) (place_op p op)
leaf_step all leafs p (Input lo hi) is_not rule ready = (has_room leafs p ready.follows ready.few (omega (arith, ap length ready.none)), input_step all leafs p lo hi rule ready)
leaf_step all leafs p (Look constant terms entries) is_not rule ready =
    let form = whole_form leafs constant terms rule.form in (
      record {
        room = has_room leafs p ready.follows ready.few (omega (arith, ap length ready.none));
        form = form_there leafs [] p constant terms ready.follows ready.few tt form;
      },
      look_step all leafs p constant terms entries rule (on_placed leafs [] p constant terms ready.follows tt form) ready,
    )
leaf_step all leafs p (Out constant terms) is_not rule ready = absurd (true≢false is_not)

small_terms : (earlier : List ApOp) (count : ℕ) (terms : List (ℕ × ℤ)) → AreOn count terms → AllByRecursion (IsTerm earlier) terms → AllByRecursion (IsSmallTerm count) terms
small_terms earlier count [] on each = tt
small_terms earlier count (t ∷ terms) on each = (record { leaf = on.0; weight = each.0.size }, small_terms earlier count terms on.1 each.1)

out_can : (all leafs outs : List ApOp) (p : Placed) (constant : ℤ) (terms : List (ℕ × ℤ)) → AreOuts outs → KeepsRule all (leafs ++ outs) (Out constant terms) → IsOutReady leafs outs p → CanOut p constant terms
out_can all leafs outs p constant terms are rule ready =
    let on = form_on leafs outs constant terms are rule.form in
    let long : length p.ranges ≡ length leafs = omega (arith, ap length ready.follows.ranges, length-from_earlier range_of [] leafs) in
    let short = rising_few 0 (length leafs) terms (omega arith) rule.form.rising on in
    let range : form_range constant terms (pattern_ranges (leafs ++ outs)) ≡ form_range constant terms p.ranges
    = range_on_leaves leafs outs constant terms on ∙ ap (form_range constant terms) (sym ready.follows.ranges) in
    record {
      room = has_room leafs p ready.follows ready.few (omega (arith, ready.outs_follow.count, ready.few_outs));
      form = form_there leafs outs p constant terms ready.follows ready.few are rule.form;
      small = record {
        few = omega (arith, short, ready.few.length, ready.few.looks);
        each_term = All-from_recursion (IsSmallTerm (length p.ranges)) terms (small_terms (leafs ++ outs) (length p.ranges) terms (subst (λ n. AreOn n terms) (sym long) on) (recursion_from_All (IsTerm (leafs ++ outs)) terms rule.form.each));
        each_range = All-same IsSmallRange p.ranges (pattern_ranges leafs) ready.follows.ranges ready.few.small;
      };
      range = subst (λ (r : ℤ × ℤ). IsNumberRange r.0 r.1) range rule.range;
    }

counted_one : (op : ApOp) → is_out op ≡ true → ◌≡◌ {A = ℕ} (cond (is_out op) 1 0) 1
counted_one op is = rw is refl

outs_counted : (leafs outs : List ApOp) → AreOuts outs → length outs ≤ count_by is_out (leafs ++ outs)
outs_counted [] [] are = omega arith
outs_counted [] (out ∷ outs) are = omega (arith, count_first is_out out outs, counted_one out are.0, outs_counted [] outs are.1)
outs_counted (leaf ∷ leafs) outs are = omega (arith, count_first is_out leaf (leafs ++ outs), outs_counted leafs outs are)

forms_more : (leafs outs : List ApOp) (p : Placed) (constant : ℤ) (terms : List (ℕ × ℤ)) (outlet : Outlet) → outlet_range outlet ≡ form_range constant terms p.ranges → p.ranges ≡ pattern_ranges leafs → AreOn (length leafs) terms → map outlet_range p.outs ≡ forms_from (pattern_ranges leafs) outs
    → map outlet_range (p.outs ++ outlet ∷ []) ≡ forms_from (pattern_ranges leafs) (outs ++ Out constant terms ∷ [])
forms_more leafs outs p constant terms outlet is ranges on before =
    let here : outlet_range outlet ≡ form_range constant terms (from_earlier range_of (pattern_ranges leafs) outs)
    = is ∙ ap (form_range constant terms) ranges ∙ sym (range_on_leaves leafs outs constant terms on) ∙ ap (form_range constant terms) (from_earlier-append range_of [] leafs outs) in
    map-append outlet_range p.outs (outlet ∷ [])
    ∙ ap (λ l. l ++ outlet_range outlet ∷ []) before
    ∙ ap (λ r. forms_from (pattern_ranges leafs) outs ++ r ∷ []) here
    ∙ sym (forms_push (pattern_ranges leafs) outs (Out constant terms))

out_step : (all leafs outs : List ApOp) (p : Placed) (constant : ℤ) (terms : List (ℕ × ℤ)) → AreOuts outs → KeepsRule all (leafs ++ outs) (Out constant terms) → IsOutReady leafs outs p → IsOutReady leafs (outs ++ Out constant terms ∷ []) (place_op p (Out constant terms))
out_step all leafs outs p constant terms are rule ready =
    let on = on_placed leafs outs p constant terms ready.follows are rule.form in
    record {
      follows = out_follows leafs p constant terms ready.follows on;
      outs_follow = outs_follow leafs outs p constant terms ready.follows ready.outs_follow on;
      few = ready.few;
      few_outs = omega (arith, rule.few, outs_counted leafs outs are, length_push outs (Out constant terms));
      keep = out_keeps leafs (leafs ++ outs) p constant terms rule.form (out_can all leafs outs p constant terms are rule ready).range ready.follows on
          (omega (arith, ready.keep.lins, ready.few.looks, ready.outs_follow.count, rule.few, outs_counted leafs outs are)) ready.keep;
      out_ranges = forms_more leafs outs p constant terms (outlet_of (place_form p constant terms).number (form_range constant terms p.ranges)) refl ready.follows.ranges (form_on leafs outs constant terms are rule.form) ready.out_ranges;
    }

-- ---- all of them

outs_push : (outs : List ApOp) (op : ApOp) → AreOuts outs → is_out op ≡ true → AreOuts (outs ++ op ∷ [])
outs_push [] op are is = (is, tt)
outs_push (out ∷ outs) op are is = (are.0, outs_push outs op are.1 is)

goes_outs : (all leafs outs rest : List ApOp) (p : Placed) → AreOuts outs → AreOuts rest → KeepRules all (leafs ++ outs) rest → IsOutReady leafs outs p → Goes (IsOutReady leafs (outs ++ rest)) p rest
goes_outs all leafs outs [] p are more rules ready = subst (λ l. IsOutReady leafs l p) (sym (append-nil outs)) ready
goes_outs all leafs outs (Input lo hi ∷ rest) p are more rules ready = absurd (false≢true more.0)
goes_outs all leafs outs (Look constant terms entries ∷ rest) p are more rules ready = absurd (false≢true more.0)
goes_outs all leafs outs (Out constant terms ∷ rest) p are more rules ready =
    let op = Out constant terms in
    let next = place_op p op in
    let later : Goes (IsOutReady leafs ((outs ++ op ∷ []) ++ rest)) next rest
    = goes_outs all leafs (outs ++ op ∷ []) rest next (outs_push outs op are refl) more.1 (subst (λ l. KeepRules all l rest) (append_assoc leafs outs (op ∷ [])) rules.1) (out_step all leafs outs p constant terms are rules.0 ready) in
    (out_can all leafs outs p constant terms are rules.0 ready, subst (λ l. Goes (IsOutReady leafs l) next rest) (append_assoc outs (op ∷ []) rest) later)

first_outs : (leafs : List ApOp) (p : Placed) → IsReady leafs p → IsOutReady leafs [] p
first_outs leafs p ready = record { follows = ready.follows; outs_follow = no_outs_follow leafs p ready.none; few = ready.few; few_outs = omega arith; keep = ready.keep; out_ranges = ap (map outlet_range) ready.none }

goes_leaves : (all leafs rest outs : List ApOp) (p : Placed) → AreNoOuts rest → AreOuts outs → KeepRules all leafs (rest ++ outs) → IsReady leafs p → Goes (IsOutReady (leafs ++ rest) outs) p (rest ++ outs)
goes_leaves all leafs [] outs p none are rules ready =
    subst (λ l. Goes (IsOutReady l outs) p outs) (sym (append-nil leafs))
    (goes_outs all leafs [] outs p tt are (subst (λ l. KeepRules all l outs) (sym (append-nil leafs)) rules) (first_outs leafs p ready))
goes_leaves all leafs (op ∷ rest) outs p none are rules ready =
    let step = leaf_step all leafs p op none.0 rules.0 ready in
    let later : Goes (IsOutReady ((leafs ++ op ∷ []) ++ rest) outs) (place_op p op) (rest ++ outs) = goes_leaves all (leafs ++ op ∷ []) rest outs (place_op p op) none.1 are rules.1 step.1 in
    (step.0, subst (λ l. Goes (IsOutReady l outs) (place_op p op) (rest ++ outs)) (append_assoc leafs (op ∷ []) rest) later)

nothing_ready : IsReady [] nothing_placed
nothing_ready = record {
  follows = record {
    agrees = record { sound = tt; on = tt; count = refl; ranges = refl; values = λ inputs. refl };
    ranges = refl;
    inputs = refl;
    short = omega arith;
  };
  first = λ are. refl;
  few = record { length = omega arith; looks = omega arith; small = λ k d below. absurd (omega arith) };
  none = refl;
  keep = record {
    rules = tt;
    leaves = tt;
    rising = λ i j d lt below. absurd (omega arith);
    lins = omega arith;
    switches = omega arith;
    boots = refl;
    messages = λ P. record { to_forms = λ is. tt; from_forms = λ is. tt };
    outs = tt;
  };
  nodes = λ are. tt;
}

-- the patterns without their results, and the results
abbrev pub leafs_of : List ApOp → List ApOp
leafs_of operations = filter (λ op. not (is_out op)) operations

abbrev pub outs_of : List ApOp → List ApOp
outs_of operations = filter is_out operations

are_no_outs : (operations : List ApOp) → AreNoOuts (leafs_of operations)
are_no_outs [] = tt
are_no_outs (Input lo hi ∷ operations) = (refl, are_no_outs operations)
are_no_outs (Look constant terms entries ∷ operations) = (refl, are_no_outs operations)
are_no_outs (Out constant terms ∷ operations) = are_no_outs operations

are_outs : (operations : List ApOp) → AreOuts (outs_of operations)
are_outs [] = tt
are_outs (Input lo hi ∷ operations) = are_outs operations
are_outs (Look constant terms entries ∷ operations) = are_outs operations
are_outs (Out constant terms ∷ operations) = (refl, are_outs operations)

-- at the end
pub record IsDone (leafs outs : List ApOp) (p : Placed) : Type 0 where
  pub ready : IsOutReady leafs outs p
  pub no_outs : AreNoOuts leafs
  pub are_outs : AreOuts outs

pub goes_all : (operations : List ApOp) → ArePatterns operations → Goes (IsOutReady (leafs_of operations) (outs_of operations)) nothing_placed operations
goes_all operations are =
    let leafs = leafs_of operations in
    let outs = outs_of operations in
    let rules : KeepRules operations [] (leafs ++ outs) = subst (KeepRules operations []) are.outs_last are.rules in
    subst (Goes (IsOutReady leafs outs) nothing_placed) (sym are.outs_last) (goes_leaves operations [] leafs outs nothing_placed (are_no_outs operations) (are_outs operations) rules nothing_ready)

can_finish : (leafs outs : List ApOp) (p : Placed) → IsOutReady leafs outs p → CanFinish p
can_finish leafs outs p ready = record {
  numbers = omega (arith, ready.follows.short, ready.few.length, ready.few.looks, ready.outs_follow.count, ready.few_outs);
  sources = All-from_recursion (λ (outlet : Outlet). outlet.source < length p.nodes) p.outs ready.outs_follow.on;
}

pub goes_to_finish : (operations : List ApOp) → ArePatterns operations → Goes CanFinish nothing_placed operations
goes_to_finish operations are =
    goes_weaker (IsOutReady (leafs_of operations) (outs_of operations)) CanFinish (can_finish (leafs_of operations) (outs_of operations)) nothing_placed operations (goes_all operations are)

pub done : (operations : List ApOp) → ArePatterns operations → IsDone (leafs_of operations) (outs_of operations) (place_ops nothing_placed operations)
done operations are = record {
  ready = goes_end (IsOutReady (leafs_of operations) (outs_of operations)) nothing_placed operations (goes_all operations are);
  no_outs = are_no_outs operations;
  are_outs = are_outs operations;
}
