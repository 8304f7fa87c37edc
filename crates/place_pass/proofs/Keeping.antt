-- The nodes so far keep their rules.
use Rattle.std.proofs.Common.{◌≡◌, ℕ, ◌+◌, ◌<◌, ◌≤◌, Bool, true, false, cond, List, [], ◌∷◌, ◌++◌, length, All, sym, refl, ap, ◌∙◌, subst, arith, ℤ, pos, ◌+ℤ◌}
use Rattle.std.specs.Prelude.{count_by, AllPairs, ◌==◌}
use Rattle.std.specs.List.{AllByRecursion, list_any}
use Rattle.std.proofs.lemmas.Int.{ints}
use Rattle.std.proofs.lemmas.Bool.{or_left, or_right, eq-eqb}
use Rattle.std.proofs.lemmas.List.Elements.{All-from_recursion, recursion_from_All}
use Rattle.std.proofs.lemmas.List.Folds.{list_any-append}
use Rattle.forms.specs.Forms.{range_at, span_of}
use Rattle.forms.specs.Ranges.{IsNumberRange}
use Rattle.ap_level.specs.declared.level.ApOp.{ApOp}
use Rattle.ap_level.specs.Operations.{is_look}
use Rattle.ap_level.specs.Rules as patterns_rules
use Rattle.tfhe_level.specs.declared.level.TfheOp.{TfheOp}
use Rattle.tfhe_level.specs.declared.level.TfheOp.TheVariants.{Lin, Switch, Boot}
use Rattle.tfhe_level.specs.Operations.{is_leaf, is_big_node, is_lin, is_switch, is_boot}
use Rattle.tfhe_level.specs.Nodes.{node_ranges}
use Rattle.tfhe_level.specs.Rules.{Stands, IsTerm, IsLinNode, is_boot_on, KeepsRule, KeepRules, message_ranges}
use Rattle.place_pass.specs.declared.outlet.Outlet.{Outlet}
use Rattle.place_pass.specs.Placing.{Put, on_nodes, Placed}
use Rattle.place_pass.proofs.Solving.{StandsAt}
use Rattle.place_pass.proofs.Puts.{IsPut, there, last, put_keeps, put_stands, IsFormPut, leaf, sum}
use Rattle.place_pass.proofs.Following.{AreOn}
use Rattle.place_pass.proofs.Small.{count_push}
use Rattle.place_pass.proofs.RuleKinds.{kind_at, leaf_is_big, stands_place, moved_rising, rules_push}
use Rattle.place_pass.proofs.Messages.{Fits, all_join, all_parts, message_push, no_message_put, message_at, forms_from}

-- ---- counts

counted_none : (kind : TfheOp → Bool) (node : TfheOp) (nodes : List TfheOp) (put : Put) → IsPut node nodes put → kind node ≡ false → count_by kind put.nodes ≡ count_by kind nodes
counted_none kind node nodes put is is_not =
    let none : ◌≡◌ {A = ℕ} (cond (kind node) 1 0) 0 = rw is_not refl in
    put_keeps (λ (l : List TfheOp). count_by kind l ≡ count_by kind nodes) node nodes put is refl (omega (arith, count_push kind nodes node, none))

at_most_one : (b : Bool) → cond b 1 0 ≤ 1
at_most_one true = omega arith
at_most_one false = omega arith

counted_one : (kind : TfheOp → Bool) (node : TfheOp) (nodes : List TfheOp) (put : Put) → IsPut node nodes put → count_by kind put.nodes ≤ count_by kind nodes + 1
counted_one kind node nodes put is =
    put_keeps (λ (l : List TfheOp). count_by kind l ≤ count_by kind nodes + 1) node nodes put is (omega arith) (omega (arith, count_push kind nodes node, at_most_one (kind node)))

-- ---- the node of a form

pub record IsFormKept (all nodes : List TfheOp) (put : Put) : Type 0 where
  pub rules : KeepRules all [] put.nodes
  pub big : Stands is_big_node put.nodes put.number
  pub lins : count_by is_lin put.nodes ≤ count_by is_lin nodes + 1
  pub switches : count_by is_switch put.nodes ≡ count_by is_switch nodes
  pub boots : count_by is_boot put.nodes ≡ count_by is_boot nodes
  pub messages : message_ranges put.nodes ≡ message_ranges nodes

pub form_kept : (all nodes : List TfheOp) (constant : ℤ) (terms : List (ℕ × ℤ)) (put : Put) → IsFormPut constant terms nodes put → KeepRules all [] nodes → IsLinNode nodes constant terms → IsFormKept all nodes put
form_kept all nodes constant terms put (leaf zero_is one same) rules rule =
    let each : All (IsTerm nodes) ((put.number, pos 1) ∷ []) = subst (All (IsTerm nodes)) one rule.each in
    let big : Stands is_big_node nodes put.number = leaf_is_big nodes put.number (recursion_from_All (IsTerm nodes) ((put.number, pos 1) ∷ []) each).0.leaf in
    record {
      rules = subst (KeepRules all []) (sym same) rules;
      big = subst (λ l. Stands is_big_node l put.number) (sym same) big;
      lins = omega (arith, ap (λ (l : List TfheOp). count_by is_lin l) same);
      switches = ap (λ (l : List TfheOp). count_by is_switch l) same;
      boots = ap (λ (l : List TfheOp). count_by is_boot l) same;
      messages = ap (λ (l : List TfheOp). message_ranges l) same;
    }
form_kept all nodes constant terms put (sum is) rules rule =
    let node = Lin constant terms in
    record {
      rules = put_keeps (KeepRules all []) node nodes put is rules (rules_push all [] nodes node rules rule);
      big = kind_at is_big_node put.nodes put.number node (put_stands node nodes put is) refl;
      lins = counted_one is_lin node nodes put is;
      switches = counted_none is_switch node nodes put is refl;
      boots = counted_none is_boot node nodes put is refl;
      messages = no_message_put node nodes put is refl;
    }

-- ---- what holds on the way

-- an out has the range of its node
pub record IsSoundOutlet (nodes : List TfheOp) (outlet : Outlet) : Type 0 where
  pub below : outlet.source < length nodes
  pub big : Stands is_big_node nodes outlet.source
  pub exact : (outlet.lo, outlet.hi) ≡ range_at (node_ranges nodes) outlet.source
  pub range : IsNumberRange outlet.lo outlet.hi

-- a width that holds the ranges of these nodes holds those of the forms of the look-ups, and the other way round
pub record SameMessages (leafs : List ApOp) (nodes : List TfheOp) (width : ℕ) : Type 0 where
  pub to_forms : AllByRecursion (Fits width) (message_ranges nodes) → AllByRecursion (Fits width) (forms_from [] leafs)
  pub from_forms : AllByRecursion (Fits width) (forms_from [] leafs) → AllByRecursion (Fits width) (message_ranges nodes)

pub record KeepSo (leafs : List ApOp) (p : Placed) : Type 0 where
  pub rules : KeepRules p.nodes [] p.nodes
  pub leaves : AllByRecursion (Stands is_leaf p.nodes) p.leaves
  pub rising : AllPairs (λ a b. a < b) p.leaves
  pub lins : count_by is_lin p.nodes ≤ count_by is_look leafs + length p.outs
  pub switches : count_by is_switch p.nodes ≤ count_by is_look leafs
  pub boots : count_by is_boot p.nodes ≡ count_by is_look leafs
  pub messages : (width : ℕ) → SameMessages leafs p.nodes width
  pub outs : AllByRecursion (IsSoundOutlet p.nodes) p.outs

-- ---- terms

moved_terms : (earlier : List ApOp) (nodes : List TfheOp) (leaves : List ℕ) (terms : List (ℕ × ℤ)) → AllByRecursion (Stands is_leaf nodes) leaves → AreOn (length leaves) terms → AllByRecursion (patterns_rules.IsTerm earlier) terms → AllByRecursion (IsTerm nodes) (on_nodes leaves terms)
moved_terms earlier nodes leaves [] stand on each = tt
moved_terms earlier nodes leaves (t ∷ terms) stand on each =
    (record { leaf = stands_place is_leaf nodes leaves t.0 stand on.0; weight = each.0.weight; size = each.0.size }, moved_terms earlier nodes leaves terms stand on.1 each.1)

pub lin_rule : (leafs earlier : List ApOp) (p : Placed) (constant : ℤ) (terms : List (ℕ × ℤ)) → KeepSo leafs p → AreOn (length p.leaves) terms → patterns_rules.IsForm earlier constant terms → count_by is_lin p.nodes < 1088 → IsLinNode p.nodes constant (on_nodes p.leaves terms)
lin_rule leafs earlier p constant terms keep on form few = record {
  size = form.size;
  each = All-from_recursion (IsTerm p.nodes) (on_nodes p.leaves terms) (moved_terms earlier p.nodes p.leaves terms keep.leaves on (recursion_from_All (patterns_rules.IsTerm earlier) terms form.each));
  rising = moved_rising p.leaves 0 0 terms keep.rising (λ k le below. omega arith) form.rising on;
  few = few;
}

-- ---- a key switch and a bootstrap

pub boot_used : (nodes : List TfheOp) (number source : ℕ) (entries : List ℤ) → source ≡ number → list_any (is_boot_on number) (nodes ++ Boot source entries ∷ []) ≡ true
boot_used nodes number source entries same =
    let one : list_any (is_boot_on number) (Boot source entries ∷ []) ≡ true = or_left (source == number) false (eq-eqb source number same) in
    list_any-append (is_boot_on number) nodes (Boot source entries ∷ []) ∙ or_right (list_any (is_boot_on number) nodes) (list_any (is_boot_on number) (Boot source entries ∷ [])) one

pub record IsSwitchKept (all : List TfheOp) (form switch : Put) : Type 0 where
  pub rules : KeepRules all [] switch.nodes
  pub stands : Stands is_switch switch.nodes switch.number
  pub lins : count_by is_lin switch.nodes ≡ count_by is_lin form.nodes
  pub switches : count_by is_switch switch.nodes ≤ count_by is_switch form.nodes + 1
  pub boots : count_by is_boot switch.nodes ≡ count_by is_boot form.nodes
  pub to_form : (width : ℕ) → AllByRecursion (Fits width) (message_ranges switch.nodes) → AllByRecursion (Fits width) (message_ranges form.nodes) × Fits width (range_at (node_ranges form.nodes) form.number)
  pub from_form : (width : ℕ) → AllByRecursion (Fits width) (message_ranges form.nodes) → Fits width (range_at (node_ranges form.nodes) form.number) → AllByRecursion (Fits width) (message_ranges switch.nodes)

switch_rules : (all : List TfheOp) (form switch : Put) → IsPut (Switch form.number) form.nodes switch → KeepRules all [] form.nodes → (length form.nodes ≡ switch.number → KeepsRule all form.nodes (Switch form.number)) → KeepRules all [] switch.nodes
switch_rules all form switch (there same at) rules rule = subst (KeepRules all []) (sym same) rules
switch_rules all form switch (last same) rules rule =
    subst (KeepRules all []) (sym (ap (λ (p : Put). p.nodes) same)) (rules_push all [] form.nodes (Switch form.number) rules (rule (sym (ap (λ (p : Put). p.number) same))))

switch_to_form : (P : ℤ × ℤ → Type 0) (form switch : Put) → IsPut (Switch form.number) form.nodes switch → range_at (node_ranges switch.nodes) switch.number ≡ range_at (node_ranges form.nodes) form.number
    → AllByRecursion P (message_ranges switch.nodes) → AllByRecursion P (message_ranges form.nodes) × P (range_at (node_ranges form.nodes) form.number)
switch_to_form P form switch (there same at) range all =
    let at' : StandsAt switch.nodes switch.number (Switch form.number) = subst (λ l. StandsAt l switch.number (Switch form.number)) (sym same) at in
    (subst (λ (l : List TfheOp). AllByRecursion P (message_ranges l)) same all, subst P range (message_at P switch.nodes switch.number (Switch form.number) at' refl all))
switch_to_form P form switch (last same) range all =
    let parts = all_parts P (message_ranges form.nodes) (range_at (node_ranges form.nodes) form.number ∷ [])
    (subst (AllByRecursion P) (ap (λ (p : Put). message_ranges p.nodes) same ∙ message_push form.nodes (Switch form.number)) all) in
    (parts.0, parts.1.0)

switch_from_form : (P : ℤ × ℤ → Type 0) (form switch : Put) → IsPut (Switch form.number) form.nodes switch → AllByRecursion P (message_ranges form.nodes) → P (range_at (node_ranges form.nodes) form.number) → AllByRecursion P (message_ranges switch.nodes)
switch_from_form P form switch (there same at) all is = subst (λ (l : List TfheOp). AllByRecursion P (message_ranges l)) (sym same) all
switch_from_form P form switch (last same) all is =
    subst (AllByRecursion P) (sym (ap (λ (p : Put). message_ranges p.nodes) same ∙ message_push form.nodes (Switch form.number))) (all_join P (message_ranges form.nodes) (range_at (node_ranges form.nodes) form.number ∷ []) all (is, tt))

pub switch_kept : (all : List TfheOp) (form switch : Put) → IsPut (Switch form.number) form.nodes switch → range_at (node_ranges switch.nodes) switch.number ≡ range_at (node_ranges form.nodes) form.number
    → KeepRules all [] form.nodes → (length form.nodes ≡ switch.number → KeepsRule all form.nodes (Switch form.number)) → IsSwitchKept all form switch
switch_kept all form switch is range rules rule =
    let node = Switch form.number in
    record {
      rules = switch_rules all form switch is rules rule;
      stands = kind_at is_switch switch.nodes switch.number node (put_stands node form.nodes switch is) refl;
      lins = counted_none is_lin node form.nodes switch is refl;
      switches = counted_one is_switch node form.nodes switch is;
      boots = counted_none is_boot node form.nodes switch is refl;
      to_form = λ width. switch_to_form (Fits width) form switch is range;
      from_form = λ width. switch_from_form (Fits width) form switch is;
    }

-- as many entries as numbers in the range
pub entries_fit : (r : ℤ × ℤ) (count : ℕ) → r.0 ≡ pos 0 → pos count ≡ r.1 +ℤ pos 1 → pos count ≡ span_of r +ℤ pos 1
entries_fit r count starts number = omega (arith, ints, starts, number)
