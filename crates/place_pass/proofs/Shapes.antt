-- The circuit of patterns keeps the rules of circuits, at the least width.
use Rattle.std.proofs.Common.{◌≡◌, ℕ, ◌+◌, ◌<◌, ◌≤◌, cond, List, [], ◌∷◌, ◌++◌, length, map, All, sym, refl, ap, ◌∙◌, subst, arith, pos}
use Rattle.std.specs.Prelude.{Result, Ok, Err, IfOk, count_by, filter, not}
use Rattle.std.specs.List.{AllByRecursion}
use Rattle.std.proofs.lemmas.List.{append_assoc, append-nil, length_push, map-append}
use Rattle.std.proofs.lemmas.List.Elements.{All-from_recursion, recursion_from_All, filter-append}
use Rattle.forms.specs.Ranges.{HoldsRanges, IsLeastWidth}
use Rattle.ap_level.specs.declared.level.ApOp.{ApOp}
use Rattle.ap_level.specs.declared.level.ApOp.TheVariants as patterns
use Rattle.ap_level.specs.Operations as kinds_of_patterns
use Rattle.ap_level.specs.Patterns as on_patterns
use Rattle.ap_level.specs.Rules as patterns_rules
use Rattle.tfhe_level.specs.declared.level.TfheOp.{TfheOp}
use Rattle.tfhe_level.specs.Operations.{is_big_node, is_out}
use Rattle.ir_core.specs.Placed.{IsPlaced}
use Rattle.ap_level.specs.declared.program.ApProgram.{ApProgram}
use Rattle.tfhe_level.specs.declared.shape.Shape.{Shape}
use Rattle.tfhe_level.specs.Nodes.{nodes_of, range_of}
use Rattle.tfhe_level.specs.Rules.{KeepsRule, KeepRules, message_ranges, AreNodes, IsShape}
use Rattle.place_pass.specs.declared.outlet.Outlet.{Outlet}
use Rattle.place_pass.specs.Placing.{Placed, outlet_op, whole_of, place_ops, nothing_placed, placed_nodes}
use Rattle.place_pass.proofs.Solving.{AreSoundFrom, result_kept}
use Rattle.place_pass.proofs.Small.{count_first}
use Rattle.place_pass.proofs.RuleKinds.{stands_before, rules_more}
use Rattle.place_pass.proofs.Messages.{Fits, all_join, all_parts, message_push, forms_from, forms_append, forms_whole}
use Rattle.place_pass.proofs.Keeping.{IsSoundOutlet, KeepSo}
use Rattle.place_pass.proofs.Walk.{IsOutReady, leafs_of, outs_of, outlet_range, done}

-- ---- counts of outs

no_outs_counted : (count : ℕ) (nodes : List TfheOp) → AreSoundFrom count nodes → count_by is_out nodes ≡ 0
no_outs_counted count [] are = refl
no_outs_counted count (node ∷ nodes) are =
    let none : ◌≡◌ {A = ℕ} (cond (is_out node) 1 0) 0 = rw are.0.no_out refl in
    omega (arith, count_first is_out node nodes, none, no_outs_counted (count + 1) nodes are.1)

counted_on : (nodes : List TfheOp) (outs : List Outlet) → count_by is_out nodes ≡ 0 → count_by is_out (nodes ++ map outlet_op outs) ≡ length outs
counted_on [] [] none = refl
counted_on [] (o ∷ outs) none = omega (arith, count_first is_out (outlet_op o) (map outlet_op outs), counted_on [] outs none)
counted_on (node ∷ nodes) outs none = omega (arith, count_first is_out node (nodes ++ map outlet_op outs), count_first is_out node nodes, none, counted_on nodes outs (omega (arith, count_first is_out node nodes, none)))

outlets_counted : (nodes : List TfheOp) (outs : List Outlet) → AreSoundFrom 0 nodes → count_by is_out (nodes ++ map outlet_op outs) ≡ length outs
outlets_counted nodes outs are = counted_on nodes outs (no_outs_counted 0 nodes are)

-- ---- the rules

rules_join : (all earlier operations others : List TfheOp) → KeepRules all earlier operations → KeepRules all (earlier ++ operations) others → KeepRules all earlier (operations ++ others)
rules_join all earlier [] others first second = subst (λ l. KeepRules all l others) (append-nil earlier) second
rules_join all earlier (op ∷ operations) others first second =
    (first.0, rules_join all (earlier ++ op ∷ []) operations others first.1 (subst (λ l. KeepRules all l others) (sym (append_assoc earlier (op ∷ []) operations)) second))

outlet_rule : (all nodes : List TfheOp) (before : List Outlet) (o : Outlet) → AreSoundFrom 0 nodes → IsSoundOutlet nodes o → length before < 64 → KeepsRule all (nodes ++ map outlet_op before) (outlet_op o)
outlet_rule all nodes before o are is few = record {
  operand = stands_before is_big_node nodes (map outlet_op before) o.source is.big;
  exact = is.exact ∙ sym (result_kept range_of nodes (map outlet_op before) o.source (pos 0, pos 0) is.below);
  range = is.range;
  few = omega (arith, few, outlets_counted nodes before are);
}

outlets_keep : (all nodes : List TfheOp) (before outs : List Outlet) → AreSoundFrom 0 nodes → AllByRecursion (IsSoundOutlet nodes) outs → length before + length outs ≤ 64 → KeepRules all (nodes ++ map outlet_op before) (map outlet_op outs)
outlets_keep all nodes before [] are sound few = tt
outlets_keep all nodes before (o ∷ outs) are sound few =
    let next : (nodes ++ map outlet_op before) ++ outlet_op o ∷ [] ≡ nodes ++ map outlet_op (before ++ o ∷ [])
    = append_assoc nodes (map outlet_op before) (outlet_op o ∷ []) ∙ ap (λ l. nodes ++ l) (sym (map-append outlet_op before (o ∷ []))) in
    let few' : length (before ++ o ∷ []) + length outs ≤ 64 = omega (arith, few, length_push before o) in
    (outlet_rule all nodes before o are sound.0 (omega (arith, few)), subst (λ l. KeepRules all l (map outlet_op outs)) (sym next) (outlets_keep all nodes (before ++ o ∷ []) outs are sound.1 few'))

whole_rules : (leafs : List ApOp) (p : Placed) → AreSoundFrom 0 p.nodes → KeepSo leafs p → length p.outs ≤ 64 → KeepRules (whole_of p) [] (whole_of p)
whole_rules leafs p are keep few =
    let later : KeepRules (whole_of p) (p.nodes ++ []) (map outlet_op p.outs) = outlets_keep (whole_of p) p.nodes [] p.outs are keep.outs (omega (arith, few)) in
    rules_join (whole_of p) [] p.nodes (map outlet_op p.outs) (rules_more p.nodes (map outlet_op p.outs) [] p.nodes keep.rules) (subst (λ l. KeepRules (whole_of p) l (map outlet_op p.outs)) (append-nil p.nodes) later)

-- ---- the outs stand last

not_outs : (count : ℕ) (nodes : List TfheOp) → AreSoundFrom count nodes → filter (λ op. not (is_out op)) nodes ≡ nodes
not_outs count [] are = refl
not_outs count (node ∷ nodes) are = rw are.0.no_out (ap (λ l. node ∷ l) (not_outs (count + 1) nodes are.1))

no_outs : (count : ℕ) (nodes : List TfheOp) → AreSoundFrom count nodes → filter is_out nodes ≡ []
no_outs count [] are = refl
no_outs count (node ∷ nodes) are = rw are.0.no_out (no_outs (count + 1) nodes are.1)

all_outs : (outs : List Outlet) → filter is_out (map outlet_op outs) ≡ map outlet_op outs
all_outs [] = refl
all_outs (o ∷ outs) = ap (λ l. outlet_op o ∷ l) (all_outs outs)

none_left : (outs : List Outlet) → filter (λ op. not (is_out op)) (map outlet_op outs) ≡ []
none_left [] = refl
none_left (o ∷ outs) = none_left outs

outs_last : (p : Placed) → AreSoundFrom 0 p.nodes → whole_of p ≡ filter (λ op. not (is_out op)) (whole_of p) ++ filter is_out (whole_of p)
outs_last p are =
    let ends = map outlet_op p.outs in
    let first : filter (λ op. not (is_out op)) (whole_of p) ≡ p.nodes
    = filter-append (λ op. not (is_out op)) p.nodes ends ∙ ap (λ l. l ++ filter (λ op. not (is_out op)) ends) (not_outs 0 p.nodes are) ∙ ap (λ l. p.nodes ++ l) (none_left p.outs) ∙ append-nil p.nodes in
    let second : filter is_out (whole_of p) ≡ ends
    = filter-append is_out p.nodes ends ∙ ap (λ l. l ++ filter is_out ends) (no_outs 0 p.nodes are) ∙ all_outs p.outs in
    sym (ap (λ l. l ++ filter is_out (whole_of p)) first ∙ ap (λ l. p.nodes ++ l) second)

-- ---- the width

outlet_messages : (nodes : List TfheOp) (before outs : List Outlet) → message_ranges (nodes ++ map outlet_op (before ++ outs)) ≡ message_ranges (nodes ++ map outlet_op before) ++ map outlet_range outs
outlet_messages nodes before [] = ap (λ l. message_ranges (nodes ++ map outlet_op l)) (append-nil before) ∙ sym (append-nil (message_ranges (nodes ++ map outlet_op before)))
outlet_messages nodes before (o ∷ outs) =
    let next : nodes ++ map outlet_op (before ++ o ∷ []) ≡ (nodes ++ map outlet_op before) ++ outlet_op o ∷ []
    = ap (λ l. nodes ++ l) (map-append outlet_op before (o ∷ [])) ∙ sym (append_assoc nodes (map outlet_op before) (outlet_op o ∷ [])) in
    ap (λ l. message_ranges (nodes ++ map outlet_op l)) (sym (append_assoc before (o ∷ []) outs))
    ∙ outlet_messages nodes (before ++ o ∷ []) outs
    ∙ ap (λ l. l ++ map outlet_range outs) (ap (λ (l : List TfheOp). message_ranges l) next ∙ message_push (nodes ++ map outlet_op before) (outlet_op o))
    ∙ append_assoc (message_ranges (nodes ++ map outlet_op before)) (outlet_range o ∷ []) (map outlet_range outs)

whole_messages : (p : Placed) → message_ranges (whole_of p) ≡ message_ranges p.nodes ++ map outlet_range p.outs
whole_messages p = outlet_messages p.nodes [] p.outs ∙ ap (λ l. message_ranges l ++ map outlet_range p.outs) (append-nil p.nodes)

-- a width that holds the ranges of the circuit holds those of the patterns
to_patterns : (leafs outs : List ApOp) (p : Placed) (width : ℕ) → IsOutReady leafs outs p → AllByRecursion (Fits width) (message_ranges (whole_of p)) → AllByRecursion (Fits width) (forms_from [] (leafs ++ outs))
to_patterns leafs outs p width ready is =
    let parts = all_parts (Fits width) (message_ranges p.nodes) (map outlet_range p.outs) (subst (AllByRecursion (Fits width)) (whole_messages p) is) in
    subst (AllByRecursion (Fits width)) (sym (forms_append [] leafs outs))
    (all_join (Fits width) (forms_from [] leafs) (forms_from (on_patterns.pattern_ranges leafs) outs) ((ready.keep.messages width).to_forms parts.0) (subst (AllByRecursion (Fits width)) ready.out_ranges parts.1))

-- and the other way round
from_patterns : (leafs outs : List ApOp) (p : Placed) (width : ℕ) → IsOutReady leafs outs p → AllByRecursion (Fits width) (forms_from [] (leafs ++ outs)) → AllByRecursion (Fits width) (message_ranges (whole_of p))
from_patterns leafs outs p width ready is =
    let parts = all_parts (Fits width) (forms_from [] leafs) (forms_from (on_patterns.pattern_ranges leafs) outs) (subst (AllByRecursion (Fits width)) (forms_append [] leafs outs) is) in
    subst (AllByRecursion (Fits width)) (sym (whole_messages p))
    (all_join (Fits width) (message_ranges p.nodes) (map outlet_range p.outs) ((ready.keep.messages width).from_forms parts.0) (subst (AllByRecursion (Fits width)) (sym ready.out_ranges) parts.1))

-- ---- the whole

some_outs : (operations : List ApOp) → count_by kinds_of_patterns.is_out operations ≡ length (outs_of operations)
some_outs [] = refl
some_outs (patterns.Input lo hi ∷ operations) = omega (arith, count_first kinds_of_patterns.is_out (patterns.Input lo hi) operations, some_outs operations)
some_outs (patterns.Look constant terms entries ∷ operations) = omega (arith, count_first kinds_of_patterns.is_out (patterns.Look constant terms entries) operations, some_outs operations)
some_outs (patterns.Out constant terms ∷ operations) = omega (arith, count_first kinds_of_patterns.is_out (patterns.Out constant terms) operations, some_outs operations)

pub nodes_keep : (operations : List ApOp) → patterns_rules.ArePatterns operations → AreNodes (placed_nodes operations)
nodes_keep operations are =
    let leafs = leafs_of operations in
    let outs = outs_of operations in
    let p = place_ops nothing_placed operations in
    let is = done operations are in
    let ready = is.ready in
    let sound : AreSoundFrom 0 p.nodes = ready.follows.agrees.sound in
    record {
      rules = whole_rules leafs p sound ready.keep (omega (arith, ready.outs_follow.count, ready.few_outs));
      outs_last = outs_last p sound;
      some_out = omega (arith, outlets_counted p.nodes p.outs sound, ready.outs_follow.count, some_outs operations, are.some_out);
    }

pub least_width : (operations : List ApOp) (width : ℕ) → patterns_rules.ArePatterns operations → IsLeastWidth (patterns_rules.message_ranges operations) width → IsLeastWidth (message_ranges (placed_nodes operations)) width
least_width operations width are is =
    let leafs = leafs_of operations in
    let outs = outs_of operations in
    let p = place_ops nothing_placed operations in
    let ready = (done operations are).ready in
    let forms : patterns_rules.message_ranges operations ≡ forms_from [] (leafs ++ outs) = forms_whole operations are.rules ∙ ap (forms_from []) are.outs_last in
    let to : (w : ℕ) → HoldsRanges w (message_ranges (whole_of p)) → HoldsRanges w (patterns_rules.message_ranges operations)
    = λ w holds. subst (All (Fits w)) (sym forms) (All-from_recursion (Fits w) (forms_from [] (leafs ++ outs)) (to_patterns leafs outs p w ready (recursion_from_All (Fits w) (message_ranges (whole_of p)) holds))) in
    let from : (w : ℕ) → HoldsRanges w (patterns_rules.message_ranges operations) → HoldsRanges w (message_ranges (whole_of p))
    = λ w holds. All-from_recursion (Fits w) (message_ranges (whole_of p)) (from_patterns leafs outs p w ready (recursion_from_All (Fits w) (forms_from [] (leafs ++ outs)) (subst (All (Fits w)) forms holds))) in
    record {
      low = is.low;
      high = is.high;
      holds = from width is.holds;
      least = λ other some holds. is.least other some (to other holds);
    }

pub is_shape : (program : ApProgram) (shape : Shape) → patterns_rules.IsApProgram program → IsPlaced shape.graph → nodes_of shape ≡ placed_nodes (on_patterns.patterns_of program) → shape.width ≡ program.width → IsShape shape
is_shape program shape is placed nodes width =
    let operations = on_patterns.patterns_of program in
    let least : IsLeastWidth (message_ranges (placed_nodes operations)) program.width = least_width operations program.width is.patterns is.width in
    let least' : IsLeastWidth (message_ranges (nodes_of shape)) program.width = subst (λ (l : List TfheOp). IsLeastWidth (message_ranges l) program.width) (sym nodes) least in
    record {
      placed = placed;
      nodes = subst AreNodes (sym nodes) (nodes_keep operations is.patterns);
      width = subst (IsLeastWidth (message_ranges (nodes_of shape))) (sym width) least';
    }

-- so does what is answered
pub answered : {E : Type 0} (program : ApProgram) (p : Placed) (width : ℕ) (result : Result Shape E) → patterns_rules.IsApProgram program
    → p ≡ place_ops nothing_placed (on_patterns.patterns_of program) → width ≡ program.width → IfOk result (λ shape. IsPlaced shape.graph)
    → IfOk result (λ shape. nodes_of shape ≡ whole_of p) → IfOk result (λ shape. shape.width ≡ width) → IfOk result (λ shape. IsShape shape)
answered program p width (Ok shape) is end same placed nodes held = is_shape program shape is placed (nodes ∙ ap whole_of end) (held ∙ same)
answered program p width (Err refusal) is end same placed nodes held = tt
