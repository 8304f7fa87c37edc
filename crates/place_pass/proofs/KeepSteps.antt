-- One operation more keeps the rules of the nodes.
use Rattle.std.proofs.Common.{◌≡◌, ℕ, ◌<◌, ◌≤◌, List, [], ◌∷◌, ◌++◌, length, sym, refl, ap, ◌∙◌, subst, arith, ℤ, pos, ◌+ℤ◌}
use Rattle.std.specs.Prelude.{IsTrue, count_by, AllPairs}
use Rattle.std.specs.List.{AllByRecursion}
use Rattle.std.proofs.lemmas.Bool.{false≢true}
use Rattle.std.proofs.lemmas.List.{append-nil, length_push}
use Rattle.std.proofs.lemmas.List.Elements.{All-from_recursion, recursion_from_All}
use Rattle.std.proofs.lemmas.List.Quantifiers.{all_pairs_push}
use Rattle.forms.specs.Forms.{range_at, form_range}
use Rattle.forms.specs.Ranges.{IsNumberRange}
use Rattle.ap_level.specs.declared.level.ApOp.{ApOp}
use Rattle.ap_level.specs.declared.level.ApOp.TheVariants as patterns
use Rattle.ap_level.specs.Operations.{is_look}
use Rattle.ap_level.specs.Operations as kinds_of_patterns
use Rattle.ap_level.specs.Patterns as on_patterns
use Rattle.ap_level.specs.Rules as patterns_rules
use Rattle.tfhe_level.specs.declared.level.TfheOp.{TfheOp}
use Rattle.tfhe_level.specs.declared.level.TfheOp.TheVariants.{Input, Switch, Boot}
use Rattle.tfhe_level.specs.Operations.{is_input, is_leaf, is_big_node, is_lin, is_switch, is_boot}
use Rattle.tfhe_level.specs.Nodes.{node_ranges, range_of}
use Rattle.tfhe_level.specs.Rules.{IsInputNode, KeepsRule, message_ranges}
use Rattle.place_pass.specs.declared.outlet.Outlet.{Outlet}
use Rattle.place_pass.specs.Placing.{put_boot, put_form_switch, on_nodes, Placed, place_form, place_op, outlet_of}
use Rattle.place_pass.proofs.Solving.{stands_last}
use Rattle.place_pass.proofs.Puts.{IsLonger, form_is_put, switch_is_put}
use Rattle.place_pass.proofs.Following.{IsGrown, grown_length, grown_result, AreOn, IsFormPlaced, form_placed}
use Rattle.place_pass.proofs.Looking.{IsSwitchPlaced, switch_placed, IsLookPlaced, look_placed}
use Rattle.place_pass.proofs.Steps.{Follows, AreInputs, AreFirst, inputs_front}
use Rattle.place_pass.proofs.Small.{count_push}
use Rattle.place_pass.proofs.RuleKinds.{kind_at, stands_longer, all_stand_longer, stand_push, rules_longer, rules_push}
use Rattle.place_pass.proofs.Messages.{Fits, all_join, all_parts, no_message_more, forms_from, forms_push}
use Rattle.place_pass.proofs.Keeping.{IsFormKept, form_kept, IsSoundOutlet, KeepSo, lin_rule, boot_used, IsSwitchKept, switch_kept, entries_fit}

-- ---- an argument

-- where the leaves are arguments alone, so are the nodes
abbrev pub AreInputNodes : List ApOp → Placed → Type 0
AreInputNodes leafs p = AreInputs leafs → AllByRecursion (λ op. IsTrue (is_input op)) p.nodes

input_nodes_push : (nodes : List TfheOp) (lo hi : ℤ) → AllByRecursion (λ op. IsTrue (is_input op)) nodes → AllByRecursion (λ op. IsTrue (is_input op)) (nodes ++ Input lo hi ∷ [])
input_nodes_push [] lo hi are = (refl, tt)
input_nodes_push (node ∷ nodes) lo hi are = (are.0, input_nodes_push nodes lo hi are.1)

pub input_nodes : (leafs : List ApOp) (p : Placed) (lo hi : ℤ) → AreInputNodes leafs p → AreInputNodes (leafs ++ patterns.Input lo hi ∷ []) (place_op p (patterns.Input lo hi))
input_nodes leafs p lo hi nodes are = input_nodes_push p.nodes lo hi (nodes (inputs_front leafs (patterns.Input lo hi) are).0)

pub look_nodes : (leafs : List ApOp) (p : Placed) (constant : ℤ) (terms : List (ℕ × ℤ)) (entries : List ℤ) → AreInputNodes (leafs ++ patterns.Look constant terms entries ∷ []) (place_op p (patterns.Look constant terms entries))
look_nodes leafs p constant terms entries are = absurd (false≢true (inputs_front leafs (patterns.Look constant terms entries) are).1)

no_outlets : (nodes : List TfheOp) (outs : List Outlet) → outs ≡ [] → AllByRecursion (IsSoundOutlet nodes) outs
no_outlets nodes outs none = subst (AllByRecursion (IsSoundOutlet nodes)) (sym none) tt

leaf_pairs : (leaves : List ℕ) (count number : ℕ) → AllPairs (λ a b. a < b) leaves → AllByRecursion (λ leaf. leaf < count) leaves → count ≤ number → AllPairs (λ a b. a < b) (leaves ++ number ∷ [])
leaf_pairs leaves count number pairs on le =
    let all = All-from_recursion (λ (leaf : ℕ). leaf < count) leaves on in
    all_pairs_push (λ (a b : ℕ). a < b) leaves number pairs (λ k d below. omega (arith, all k d below, le))

input_rule : (all leafs : List ApOp) (p : Placed) (lo hi : ℤ) → patterns_rules.IsInput leafs lo hi → AreFirst leafs p → AreInputNodes leafs p → IsInputNode p.nodes lo hi
input_rule all leafs p lo hi rule first nodes =
    let are : AreInputs leafs = recursion_from_All (λ op. IsTrue (kinds_of_patterns.is_input op)) leafs rule.first in
    record {
      first = All-from_recursion (λ (op : TfheOp). IsTrue (is_input op)) p.nodes (nodes are);
      range = rule.range;
      few = omega (arith, first are, rule.few);
    }

pub input_keeps : (all leafs : List ApOp) (p : Placed) (lo hi : ℤ) → patterns_rules.IsInput leafs lo hi → Follows leafs p → AreFirst leafs p → AreInputNodes leafs p → p.outs ≡ [] → KeepSo leafs p → KeepSo (leafs ++ patterns.Input lo hi ∷ []) (place_op p (patterns.Input lo hi))
input_keeps all leafs p lo hi rule follows first nodes none keep =
    let node = Input lo hi in
    let op = patterns.Input lo hi in
    let longer = p.nodes ++ node ∷ [] in
    let more : IsLonger p.nodes longer = record { more = node ∷ []; same = refl } in
    let forms : forms_from [] (leafs ++ op ∷ []) ≡ forms_from [] leafs = forms_push [] leafs op ∙ append-nil (forms_from [] leafs) in
    let messages : message_ranges longer ≡ message_ranges p.nodes = no_message_more p.nodes node refl in
    record {
      rules = rules_push longer [] p.nodes node (rules_longer p.nodes longer more keep.rules) (input_rule all leafs p lo hi rule first nodes);
      leaves = stand_push is_leaf longer p.leaves (length p.nodes) (all_stand_longer is_leaf p.nodes longer p.leaves more keep.leaves) (kind_at is_leaf longer (length p.nodes) node (stands_last p.nodes node) refl);
      rising = leaf_pairs p.leaves (length p.nodes) (length p.nodes) keep.rising follows.agrees.on (omega arith);
      lins = omega (arith, keep.lins, count_push is_lin p.nodes node, count_push is_look leafs op);
      switches = omega (arith, keep.switches, count_push is_switch p.nodes node, count_push is_look leafs op);
      boots = omega (arith, keep.boots, count_push is_boot p.nodes node, count_push is_look leafs op);
      messages = λ width. record {
        to_forms = λ is. subst (AllByRecursion (Fits width)) (sym forms) ((keep.messages width).to_forms (subst (AllByRecursion (Fits width)) messages is));
        from_forms = λ is. subst (AllByRecursion (Fits width)) (sym messages) ((keep.messages width).from_forms (subst (AllByRecursion (Fits width)) forms is));
      };
      outs = no_outlets longer p.outs none;
    }

-- ---- a look-up

pub look_keeps : (all leafs : List ApOp) (p : Placed) (constant : ℤ) (terms : List (ℕ × ℤ)) (entries : List ℤ) → patterns_rules.IsLook all leafs constant terms entries → Follows leafs p → AreOn (length p.leaves) terms → p.outs ≡ [] → KeepSo leafs p
    → KeepSo (leafs ++ patterns.Look constant terms entries ∷ []) (place_op p (patterns.Look constant terms entries))
look_keeps all leafs p constant terms entries rule follows on none keep =
    let op = patterns.Look constant terms entries in
    let form = place_form p constant terms in
    let switch = put_form_switch form in
    let boot = put_boot entries switch in
    let node = Boot switch.number entries in
    let end = boot.nodes in
    let placed : IsFormPlaced leafs p.nodes p.leaves constant terms form = form_placed leafs p.nodes p.leaves constant terms follows.agrees on in
    let switched : IsSwitchPlaced p.nodes form switch = switch_placed p.nodes form placed.stage placed.below in
    let looked : IsLookPlaced leafs p.nodes p.leaves op boot = look_placed leafs p.nodes p.leaves constant terms entries follows.agrees on in
    let longer : IsLonger p.nodes end = looked.stage.grown.longer_by in
    let few_lins : count_by is_lin p.nodes < 1088 = omega (arith, keep.lins, rule.few, ap length none) in
    let formed : IsFormKept end p.nodes form
    = form_kept end p.nodes constant (on_nodes p.leaves terms) form (form_is_put constant (on_nodes p.leaves terms) p.nodes) (rules_longer p.nodes end longer keep.rules) (lin_rule leafs leafs p constant terms keep on rule.form few_lins) in
    let range = form_range constant terms (on_patterns.pattern_ranges leafs) in
    let starts : (range_at (node_ranges form.nodes) form.number).0 ≡ pos 0 = ap (λ (r : ℤ × ℤ). r.0) placed.range ∙ rule.starts in
    let switch_rule : length form.nodes ≡ switch.number → KeepsRule end form.nodes (Switch form.number) = λ same. record {
      operand = formed.big;
      starts = starts;
      used = boot_used switch.nodes (length form.nodes) switch.number entries (sym same);
      few = omega (arith, formed.switches, keep.switches, rule.few);
    } in
    let kept : IsSwitchKept end form switch = switch_kept end form switch (switch_is_put form.number form.nodes) switched.range formed.rules switch_rule in
    let span = entries_fit (range_at (node_ranges switch.nodes) switch.number) (length entries) (ap (λ (r : ℤ × ℤ). r.0) switched.range ∙ starts) (rule.number ∙ ap (λ (r : ℤ × ℤ). r.1 +ℤ pos 1) (sym (switched.range ∙ placed.range))) in
    let boot_rule : KeepsRule end switch.nodes node = record {
      operand = kept.stands;
      number = span;
      each = rule.each;
      few = omega (arith, kept.boots, formed.boots, keep.boots, rule.few);
    } in
    let forms : forms_from [] (leafs ++ op ∷ []) ≡ forms_from [] leafs ++ range ∷ [] = forms_push [] leafs op in
    let last_messages : message_ranges end ≡ message_ranges switch.nodes = no_message_more switch.nodes node refl in
    let same_range : range_at (node_ranges form.nodes) form.number ≡ range = placed.range in
    record {
      rules = rules_push end [] switch.nodes node kept.rules boot_rule;
      leaves = stand_push is_leaf end p.leaves boot.number (all_stand_longer is_leaf p.nodes end p.leaves longer keep.leaves) (kind_at is_leaf end boot.number node (stands_last switch.nodes node) refl);
      rising = leaf_pairs p.leaves (length p.nodes) boot.number keep.rising follows.agrees.on (omega (arith, grown_length p.nodes form.nodes placed.stage.grown, grown_length form.nodes switch.nodes switched.stage.grown));
      lins = omega (arith, keep.lins, formed.lins, kept.lins, count_push is_lin switch.nodes node, count_push is_look leafs op);
      switches = omega (arith, keep.switches, formed.switches, kept.switches, count_push is_switch switch.nodes node, count_push is_look leafs op);
      boots = omega (arith, keep.boots, formed.boots, kept.boots, count_push is_boot switch.nodes node, count_push is_look leafs op);
      messages = λ width. record {
        to_forms = λ is.
            let parts = kept.to_form width (subst (AllByRecursion (Fits width)) last_messages is) in
            let first = (keep.messages width).to_forms (subst (AllByRecursion (Fits width)) formed.messages parts.0) in
            subst (AllByRecursion (Fits width)) (sym forms) (all_join (Fits width) (forms_from [] leafs) (range ∷ []) first (subst (Fits width) same_range parts.1, tt));
        from_forms = λ is.
            let parts = all_parts (Fits width) (forms_from [] leafs) (range ∷ []) (subst (AllByRecursion (Fits width)) forms is) in
            let first = subst (AllByRecursion (Fits width)) (sym formed.messages) ((keep.messages width).from_forms parts.0) in
            subst (AllByRecursion (Fits width)) (sym last_messages) (kept.from_form width first (subst (Fits width) (sym same_range) parts.1.0));
      };
      outs = no_outlets end p.outs none;
    }

-- ---- a result

outlets_longer : (nodes longer : List TfheOp) (outs : List Outlet) → IsGrown nodes longer → AllByRecursion (IsSoundOutlet nodes) outs → AllByRecursion (IsSoundOutlet longer) outs
outlets_longer nodes longer [] grown are = tt
outlets_longer nodes longer (o ∷ outs) grown are = (
  record {
    below = omega (arith, are.0.below, grown_length nodes longer grown);
    big = stands_longer is_big_node nodes longer o.source grown.longer_by are.0.big;
    exact = are.0.exact ∙ sym (grown_result range_of (pos 0, pos 0) nodes longer o.source grown are.0.below);
    range = are.0.range;
  },
  outlets_longer nodes longer outs grown are.1,
)

pub out_keeps : (leafs earlier : List ApOp) (p : Placed) (constant : ℤ) (terms : List (ℕ × ℤ)) → patterns_rules.IsForm earlier constant terms → IsNumberRange (form_range constant terms p.ranges).0 (form_range constant terms p.ranges).1 → Follows leafs p → AreOn (length p.leaves) terms → count_by is_lin p.nodes < 1088 → KeepSo leafs p
    → KeepSo leafs (place_op p (patterns.Out constant terms))
out_keeps leafs earlier p constant terms is_form is_range follows on few keep =
    let form = place_form p constant terms in
    let range = form_range constant terms p.ranges in
    let outlet = outlet_of form.number range in
    let placed : IsFormPlaced leafs p.nodes p.leaves constant terms form = form_placed leafs p.nodes p.leaves constant terms follows.agrees on in
    let longer : IsLonger p.nodes form.nodes = placed.stage.grown.longer_by in
    let formed : IsFormKept form.nodes p.nodes form
    = form_kept form.nodes p.nodes constant (on_nodes p.leaves terms) form (form_is_put constant (on_nodes p.leaves terms) p.nodes) (rules_longer p.nodes form.nodes longer keep.rules) (lin_rule leafs earlier p constant terms keep on is_form few) in
    let exact : range ≡ range_at (node_ranges form.nodes) form.number = ap (form_range constant terms) follows.ranges ∙ sym placed.range in
    record {
      rules = formed.rules;
      leaves = all_stand_longer is_leaf p.nodes form.nodes p.leaves longer keep.leaves;
      rising = keep.rising;
      lins = omega (arith, keep.lins, formed.lins, length_push p.outs outlet);
      switches = omega (arith, keep.switches, formed.switches);
      boots = omega (arith, keep.boots, formed.boots);
      messages = λ width. record {
        to_forms = λ is. (keep.messages width).to_forms (subst (AllByRecursion (Fits width)) formed.messages is);
        from_forms = λ is. subst (AllByRecursion (Fits width)) (sym formed.messages) ((keep.messages width).from_forms is);
      };
      outs = all_join (IsSoundOutlet form.nodes) p.outs (outlet ∷ []) (outlets_longer p.nodes form.nodes p.outs placed.stage.grown keep.outs) (record { below = placed.below; big = formed.big; exact = exact; range = is_range }, tt);
    }
