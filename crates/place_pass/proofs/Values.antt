-- The circuit of patterns computes what they compute, and has their arguments as its inputs.
use Rattle.std.proofs.Common.{◌≡◌, ℕ, ◌+◌, ◌<◌, Bool, true, false, List, [], ◌∷◌, ◌++◌, length, map, sym, refl, ap, ◌∙◌, subst, arith, ℤ, pos}
use Rattle.std.specs.Prelude.{filter}
use Rattle.std.specs.List.{AllByRecursion, zip}
use Rattle.std.proofs.lemmas.List.{append-nil, append_assoc, length-map, get_or_append_left}
use Rattle.std.proofs.lemmas.Bool.{false≢true}
use Rattle.std.proofs.lemmas.List.Elements.{filter_map-append}
use Rattle.forms.specs.Forms.{number_at}
use Rattle.forms.specs.FromEarlier.{from_earlier, from_earlier-append, length-from_earlier}
use Rattle.ap_level.specs.declared.level.ApOp.{ApOp}
use Rattle.ap_level.specs.declared.level.ApOp.TheVariants as patterns
use Rattle.ap_level.specs.Operations as patterns_kinds
use Rattle.ap_level.specs.Patterns.{argument_range, argument_ranges}
use Rattle.ap_level.specs.Patterns as on_patterns
use Rattle.ap_level.specs.Rules.{ArePatterns}
use Rattle.tfhe_level.specs.declared.level.TfheOp.{TfheOp}
use Rattle.tfhe_level.specs.Operations.{is_out}
use Rattle.tfhe_level.specs.Nodes.{value_of, node_values, at_outs, clear_values}
use Rattle.tfhe_level.specs.Laws.{input_range, input_ranges}
use Rattle.place_pass.specs.declared.outlet.Outlet.{Outlet}
use Rattle.place_pass.specs.Placing.{Placed, outlet_op, whole_of, place_ops, nothing_placed, placed_nodes}
use Rattle.place_pass.proofs.Solving.{AreSoundFrom}
use Rattle.place_pass.proofs.Steps.{Follows}
use Rattle.place_pass.proofs.Walk.{AreOuts, IsDone, leafs_of, outs_of, done}

-- ---- what results have

abbrev picked : {X B : Type 0} → (X → Bool) → List X → List B → List B
picked kind operations results = map (λ op. op.1) (filter (λ op. kind op.0) (zip operations results))

none_picked : {X B : Type 0} (kind : X → Bool) (first others : List X) (vs ws : List B) → AllByRecursion (λ x. kind x ≡ false) first → length vs ≡ length first → picked kind (first ++ others) (vs ++ ws) ≡ picked kind others ws
none_picked kind [] others [] ws none same = refl
none_picked kind [] others (v ∷ vs) ws none same = absurd (omega (arith, same))
none_picked kind (x ∷ first) others [] ws none same = absurd (omega (arith, same))
none_picked kind (x ∷ first) others (v ∷ vs) ws none same = rw none.0 (none_picked kind first others vs ws none.1 (omega (arith, same)))

all_picked : {X B : Type 0} (kind : X → Bool) (operations : List X) (results : List B) → AllByRecursion (λ x. kind x ≡ true) operations → length results ≡ length operations → picked kind operations results ≡ results
all_picked kind [] [] all same = refl
all_picked kind [] (w ∷ results) all same = absurd (omega (arith, same))
all_picked kind (x ∷ operations) [] all same = absurd (omega (arith, same))
all_picked kind (x ∷ operations) (w ∷ results) all same = rw all.0 (ap (λ l. w ∷ l) (all_picked kind operations results all.1 (omega (arith, same))))

-- ---- the values of patterns

pattern_clear : (leafs outs : List ApOp) (p : Placed) (inputs : List ℤ) → IsDone leafs outs p → on_patterns.clear_values (leafs ++ outs) inputs ≡ map (on_patterns.value_of inputs (on_patterns.pattern_values leafs inputs)) outs
pattern_clear leafs outs p inputs is =
    let first = on_patterns.pattern_values leafs inputs in
    let later = map (on_patterns.value_of inputs first) outs in
    ap (on_patterns.at_outs (leafs ++ outs)) (is.ready.outs_follow.whole inputs)
    ∙ none_picked patterns_kinds.is_out leafs outs first later is.no_outs (omega (arith, length-from_earlier (on_patterns.value_of inputs) [] leafs))
    ∙ all_picked patterns_kinds.is_out outs later is.are_outs (length-map outs (on_patterns.value_of inputs first))

-- ---- the values of the circuit

outlets_are_outs : (outs : List Outlet) → AllByRecursion (λ op. is_out op ≡ true) (map outlet_op outs)
outlets_are_outs [] = tt
outlets_are_outs (o ∷ outs) = (refl, outlets_are_outs outs)

nodes_are_none : (count : ℕ) (nodes : List TfheOp) → AreSoundFrom count nodes → AllByRecursion (λ op. is_out op ≡ false) nodes
nodes_are_none count [] are = tt
nodes_are_none count (node ∷ nodes) are = (are.0.no_out, nodes_are_none (count + 1) nodes are.1)

outlet_values : (inputs first more : List ℤ) (outs : List Outlet) → AllByRecursion (λ outlet. outlet.source < length first) outs
    → from_earlier (value_of inputs) (first ++ more) (map outlet_op outs) ≡ first ++ (more ++ map (λ (outlet : Outlet). number_at first outlet.source) outs)
outlet_values inputs first more [] on = ap (λ l. first ++ l) (sym (append-nil more))
outlet_values inputs first more (o ∷ outs) on =
    let value : number_at (first ++ more) o.source ≡ number_at first o.source = get_or_append_left first more (pos 0) o.source on.0 in
    ap (λ v. from_earlier (value_of inputs) ((first ++ more) ++ v ∷ []) (map outlet_op outs)) value
    ∙ ap (λ l. from_earlier (value_of inputs) l (map outlet_op outs)) (append_assoc first more (number_at first o.source ∷ []))
    ∙ outlet_values inputs first (more ++ number_at first o.source ∷ []) outs on.1
    ∙ ap (λ l. first ++ l) (append_assoc more (number_at first o.source ∷ []) (map (λ (outlet : Outlet). number_at first outlet.source) outs))

shape_values : (p : Placed) (inputs : List ℤ) → AllByRecursion (λ outlet. outlet.source < length p.nodes) p.outs → node_values (whole_of p) inputs ≡ node_values p.nodes inputs ++ map (λ (outlet : Outlet). number_at (node_values p.nodes inputs) outlet.source) p.outs
shape_values p inputs on =
    let first = node_values p.nodes inputs in
    let long : length p.nodes ≡ length first = omega (arith, length-from_earlier (value_of inputs) [] p.nodes) in
    from_earlier-append (value_of inputs) [] p.nodes (map outlet_op p.outs)
    ∙ ap (λ l. from_earlier (value_of inputs) l (map outlet_op p.outs)) (sym (append-nil first))
    ∙ outlet_values inputs first [] p.outs (subst (λ n. AllByRecursion (λ outlet. outlet.source < n) p.outs) long on)

shape_clear : (leafs : List ApOp) (p : Placed) (inputs : List ℤ) → Follows leafs p → AllByRecursion (λ outlet. outlet.source < length p.nodes) p.outs → clear_values (whole_of p) inputs ≡ map (λ (outlet : Outlet). number_at (node_values p.nodes inputs) outlet.source) p.outs
shape_clear leafs p inputs follows on =
    let first = node_values p.nodes inputs in
    let later = map (λ (outlet : Outlet). number_at first outlet.source) p.outs in
    ap (at_outs (whole_of p)) (shape_values p inputs on)
    ∙ none_picked is_out p.nodes (map outlet_op p.outs) first later (nodes_are_none 0 p.nodes follows.agrees.sound) (omega (arith, length-from_earlier (value_of inputs) [] p.nodes))
    ∙ all_picked is_out (map outlet_op p.outs) later (outlets_are_outs p.outs) (length-map p.outs (λ (outlet : Outlet). number_at first outlet.source) ∙ sym (length-map p.outs outlet_op))

pub values_same : (operations : List ApOp) (inputs : List ℤ) → ArePatterns operations → clear_values (placed_nodes operations) inputs ≡ on_patterns.clear_values operations inputs
values_same operations inputs are =
    let leafs = leafs_of operations in
    let outs = outs_of operations in
    let p = place_ops nothing_placed operations in
    let is = done operations are in
    let ready = is.ready in
    shape_clear leafs p inputs ready.follows ready.outs_follow.on
    ∙ ready.outs_follow.values inputs
    ∙ sym (pattern_clear leafs outs p inputs is)
    ∙ sym (ap (λ l. on_patterns.clear_values l inputs) are.outs_last)

-- ---- inputs

no_inputs : (outs : List Outlet) → input_ranges (map outlet_op outs) ≡ []
no_inputs [] = refl
no_inputs (o ∷ outs) = no_inputs outs

no_arguments : (outs : List ApOp) → AreOuts outs → argument_ranges outs ≡ []
no_arguments [] are = refl
no_arguments (patterns.Input lo hi ∷ outs) are = absurd (false≢true are.0)
no_arguments (patterns.Look constant terms entries ∷ outs) are = absurd (false≢true are.0)
no_arguments (patterns.Out constant terms ∷ outs) are = no_arguments outs are.1

pub inputs_same : (operations : List ApOp) → ArePatterns operations → input_ranges (placed_nodes operations) ≡ argument_ranges operations
inputs_same operations are =
    let leafs = leafs_of operations in
    let outs = outs_of operations in
    let p = place_ops nothing_placed operations in
    let is = done operations are in
    let left : input_ranges (placed_nodes operations) ≡ argument_ranges leafs
    = filter_map-append input_range p.nodes (map outlet_op p.outs) ∙ ap (λ l. input_ranges p.nodes ++ l) (no_inputs p.outs) ∙ append-nil (input_ranges p.nodes) ∙ is.ready.follows.inputs in
    let right : argument_ranges (leafs ++ outs) ≡ argument_ranges leafs
    = filter_map-append argument_range leafs outs ∙ ap (λ l. argument_ranges leafs ++ l) (no_arguments outs is.are_outs) ∙ append-nil (argument_ranges leafs) in
    left ∙ sym right ∙ sym (ap argument_ranges are.outs_last)
