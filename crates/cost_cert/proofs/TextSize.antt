-- How long a certificate is at most.
use Rattle.std.proofs.Common.{ℕ, zero, suc, ◌*◌, ◌-◌, ◌<◌, ◌≤◌, ◌^◌, Bool, true, false, cond, List, [], ◌∷◌, ◌++◌, length, map, take, get_or, Option, arith, length-append}
use Rattle.std.specs.Prelude.{Some, None, IfSome, codes, find, filter_map, slice_index}
use Rattle.std.specs.Fmt.{decimal}
use Rattle.std.specs.List.{flat_map, AllByRecursion, enumerate_from, list_any, position_or_len}
use Rattle.std.proofs.Math.Pow.{pow_mono}
use Rattle.std.proofs.lemmas.Fmt.{length-decimal-le_wide}
use Rattle.std.proofs.lemmas.List.{length-map, length-take}
use Rattle.std.proofs.lemmas.List.FromFn.{length-enumerate_from}
use Rattle.fhe_params.specs.declared.params.Params.{Params}
use Rattle.fhe_params.specs.declared.table.CostWeights.{CostWeights}
use Rattle.fhe_params.specs.declared.table.Counts.{Counts}
use Rattle.fhe_params.specs.declared.table.Table.{Table}
use Rattle.fhe_params.specs.declared.table.Choice.{Choice}
use Rattle.fhe_params.specs.Table.{IsTable, IsCostWeights, IsChoice, params_of}
use Rattle.fhe_params.specs.Cost.{cost_of}
use Rattle.fhe_params.specs.Laws.{TableLaws}
use Rattle.tfhe_level.specs.declared.level.TfheOp.{TfheOp}
use Rattle.tfhe_level.specs.declared.shape.Shape.{Shape}
use Rattle.tfhe_level.specs.Operations.{is_boot, is_out}
use Rattle.tfhe_level.specs.Nodes.{nodes_of}
use Rattle.tfhe_level.specs.Counts.{counts_of}
use Rattle.tfhe_level.specs.Rules.{KeepRules, IsShape}
use Rattle.noise_model.specs.declared.constraints.Constraint.{Constraint}
use Rattle.noise_model.specs.declared.constraints.Constraint.TheVariants.{Size, Boot, Result}
use Rattle.noise_model.specs.declared.constraints.Broken.{Broken}
use Rattle.noise_model.specs.Bounds.{noise_bounds, capped}
use Rattle.noise_model.specs.Constraints.{Comparison, as_broken, is_broken, boot_source, out_source, boot_constraint, out_constraint, half_step, size_constraint, noise_constraints, constraints_of}
use Rattle.param_search.specs.declared.least.Refused.{Refused}
use Rattle.param_search.specs.Choices.{choices_in_order}
use Rattle.param_search.specs.Search.{refused, broken_by, refusal_of, is_feasible, refused_choices, least_choice}
use Rattle.param_search.specs.Laws.{SearchLaws}
use Rattle.cost_cert.specs.Limits.{cert_limit}
use Rattle.cost_cert.specs.Certificate.{line_feed, title, weights_line, counts_line, width_line, choice_text, place_text, constraint_line, refused_line, node_line, nodes_text, bounds_text, chosen_line, chosen_text, certificate_of, certificate_text}
use Rattle.cost_cert.proofs.Lists.{all_append, all_map, all_take, some_map, found, all_filter_map, numbers_within, filter_map_few, flat_size}
use Rattle.cost_cert.proofs.FewNodes.{few_of_each, few_nodes, few_weights}
use Rattle.cost_cert.proofs.Costs.{AreSmall, Priced, IsShort, IsShortPrice, short_choice, ordered_short, ordered_few}

-- ---- numbers

-- a place in a list, or the number of a node
place_size : (n : ℕ) → n < 3264 → length (decimal n) ≤ 4
place_size n small = length-decimal-le_wide 4 n (omega arith) (omega (arith, small)) (omega (arith, small))

-- a weight, a count or a width
count_size : (n : ℕ) → n ≤ 10653696 → length (decimal n) ≤ 8
count_size n small = length-decimal-le_wide 8 n (omega arith) (omega (arith, small)) (omega (arith, small))

-- a bound or a limit
bound_size : (n : ℕ) → n ≤ 2 ^ 64 → length (decimal n) ≤ 20
bound_size n small = length-decimal-le_wide 20 n (omega arith) (omega (arith, small)) (omega (arith, small))

cost_size : (n : ℕ) → n < 10 ^ 38 → length (decimal n) ≤ 38
cost_size n small = length-decimal-le_wide 38 n (omega arith) small (omega (arith, small))

cap_most : (n : ℕ) → capped n ≤ 2 ^ 64
cap_most n = omega arith

-- ---- constraints

IsShortPlace : Constraint → Type 0
IsShortPlace Size = Unit {0}
IsShortPlace (Boot count) = count < 3264
IsShortPlace (Result count) = count < 3264

-- its limit and the number of what it is on have few digits
record IsShortConstraint (c : Comparison) : Type 0 where
  on : IsShortPlace c.on
  limit : c.limit ≤ 2 ^ 64

abbrev IsShortBroken : Broken → Type 0
IsShortBroken b = length (constraint_line b) ≤ 100

on_size : (at : Constraint) → IsShortPlace at → length (place_text at) ≤ 20
unfolding IsShortPlace
on_size Size is = omega arith
on_size (Boot count) is = simp length-append (omega (arith, place_size count is))
on_size (Result count) is = simp length-append (omega (arith, place_size count is))

line_size : (at : Constraint) (bound limit : ℕ) → IsShortPlace at → bound ≤ 2 ^ 64 → limit ≤ 2 ^ 64 → length (constraint_line (record { at = at; bound = bound; limit = limit })) ≤ 100
line_size at bound limit is low high =
    let place = on_size at is in
    let first = bound_size bound low in
    let second = bound_size limit high in
    simp length-append (omega (arith, place, first, second))

short_line : (c : Comparison) → IsShortConstraint c → IsShortBroken (as_broken c)
short_line c is = line_size c.on (capped c.bound) c.limit is.on (cap_most c.bound) is.limit

half_most : (width : ℕ) → half_step width ≤ 2 ^ 64
half_most width = let most : 2 ^ (62 - width) ≤ 2 ^ 62 = pow_mono {i = 62 - width} {j = 62} (omega arith) in omega (arith, most)

sized : (test : Bool) (words : ℕ) → AllByRecursion IsShortConstraint (cond test (record { on = Size; bound = words; limit = 2 ^ 25 } ∷ []) [])
unfolding IsShortPlace
sized true words = (record { on = tt; limit = omega arith }, tt)
sized false words = tt

size_few : (test : Bool) (c : Comparison) → length (cond test (c ∷ []) []) ≤ 1
size_few true c = omega arith
size_few false c = omega arith

-- the constraints of a circuit of few nodes
size_short : (p : Params) (ops : List TfheOp) → AllByRecursion IsShortConstraint (size_constraint p ops)
size_short p ops = sized (list_any is_boot ops) _

noise_short : (p : Params) (shape : Shape) → length (nodes_of shape) ≤ 3264 → AllByRecursion IsShortConstraint (noise_constraints p shape)
unfolding IsShortPlace
noise_short p shape few =
    let ops = nodes_of shape in
    let boots = filter_map boot_source ops in
    let outs = filter_map out_source ops in
    all_append IsShortConstraint (map (boot_constraint p shape) (enumerate_from 0 boots)) (map (out_constraint p shape) (enumerate_from 0 outs))
    (all_map (λ (e : ℕ × ℕ). e.0 < 3264) IsShortConstraint (boot_constraint p shape) (λ e below. record { on = below; limit = half_most shape.width }) (enumerate_from 0 boots) (numbers_within boots 3264 (omega (arith, few, filter_map_few boot_source ops))))
    (all_map (λ (e : ℕ × ℕ). e.0 < 3264) IsShortConstraint (out_constraint p shape) (λ e below. record { on = below; limit = half_most shape.width }) (enumerate_from 0 outs) (numbers_within outs 3264 (omega (arith, few, filter_map_few out_source ops))))

edges_few : (p : Params) (shape : Shape) (f g : ℕ × ℕ → Comparison) (xs ys : List ℕ) → length xs ≤ 3264 → length ys ≤ 3264 → length (map f (enumerate_from 0 xs) ++ map g (enumerate_from 0 ys)) ≤ 6528
edges_few p shape f g xs ys a b =
    omega (arith, length-append (map f (enumerate_from 0 xs)) (map g (enumerate_from 0 ys)), length-map (enumerate_from 0 xs) f, length-map (enumerate_from 0 ys) g, length-enumerate_from 0 xs, length-enumerate_from 0 ys, a, b)

noise_few : (p : Params) (shape : Shape) → length (nodes_of shape) ≤ 3264 → length (noise_constraints p shape) ≤ 6528
noise_few p shape few =
    let ops = nodes_of shape in
    edges_few p shape (boot_constraint p shape) (out_constraint p shape) (filter_map boot_source ops) (filter_map out_source ops) (omega (arith, few, filter_map_few boot_source ops)) (omega (arith, few, filter_map_few out_source ops))

lines_size : (cs : List Comparison) (n : ℕ) → length cs ≤ n → AllByRecursion IsShortConstraint cs → length (flat_map constraint_line (map as_broken cs)) ≤ n * 100
lines_size cs n few all =
    flat_size IsShortBroken constraint_line n 100 (λ b is. is) (map as_broken cs) (omega (arith, few, length-map cs as_broken)) (all_map IsShortConstraint IsShortBroken as_broken short_line cs all)

-- ---- refused choices

choice_size : (choice : Choice) (cost : ℕ) → IsShort choice cost → length (choice_text choice cost) ≤ 80
choice_size choice cost is =
    let a = place_size choice.glwe (omega (arith, is.glwe)) in
    let b = place_size choice.lwe (omega (arith, is.lwe)) in
    let c = place_size choice.boot (omega (arith, is.boot)) in
    let d = place_size choice.switch (omega (arith, is.switch)) in
    let e = cost_size cost is.cost in
    simp length-append (omega (arith, a, b, c, d, e))

IsShortRefused : Refused → Type 0
IsShortRefused r = length (refused_line r) ≤ 200

refused_size : (choice : Choice) (cost : ℕ) (broken : Broken) → IsShort choice cost → IsShortBroken broken → length (codes "refused " ++ (choice_text choice cost ++ (codes " " ++ constraint_line broken))) ≤ 200
refused_size choice cost broken is line =
    let first = choice_size choice cost is in
    let inner = length-append (choice_text choice cost) (codes " " ++ constraint_line broken) in
    omega (arith, first, line, inner)

refused_short : (table : Table) (shape : Shape) → length (nodes_of shape) ≤ 3264 → (x : Priced) → IsShortPrice x → IfSome (refusal_of table shape x) IsShortRefused
unfolding IsShortRefused
refused_short table shape few x is =
    let p = params_of table x.choice in
    let all = all_append IsShortConstraint (size_constraint p (nodes_of shape)) (noise_constraints p shape) (size_short p (nodes_of shape)) (noise_short p shape few) in
    let first = some_map IsShortConstraint IsShortBroken as_broken short_line (find is_broken (constraints_of p shape)) (found IsShortConstraint is_broken (constraints_of p shape) all) in
    some_map IsShortBroken IsShortRefused (refused x) (λ broken line. refused_size x.choice x.cost broken is line) (broken_by table shape x) first

taken_few : {A : Type 0} (n most : ℕ) (xs : List A) → length xs ≤ most → length (take n xs) ≤ most
taken_few n most xs few = omega (arith, length-take n xs, few)

all_refused_size : TableLaws → (table : Table) (shape : Shape) → IsTable table → AreSmall (counts_of (nodes_of shape)) → length (nodes_of shape) ≤ 3264 → length (flat_map refused_line (refused_choices table shape)) ≤ 20736 * 200
unfolding IsShortRefused
all_refused_size T table shape is small few =
    let counts = counts_of (nodes_of shape) in
    let ordered = choices_in_order table counts in
    let tried = take (position_or_len (is_feasible table shape) ordered) ordered in
    let number : length tried ≤ 20736 = taken_few (position_or_len (is_feasible table shape) ordered) 20736 ordered (ordered_few table counts is) in
    let each = all_take IsShortPrice (position_or_len (is_feasible table shape) ordered) ordered (ordered_short T table counts is small) in
    flat_size IsShortRefused refused_line 20736 200 (λ r line. line) (refused_choices table shape) (omega (arith, number, filter_map_few (refusal_of table shape) tried))
    (all_filter_map IsShortPrice IsShortRefused (refusal_of table shape) (refused_short table shape few) tried each)

-- ---- nodes

bound_at : (bounds : List ℕ) (i : ℕ) → get_or (map capped bounds) i 0 ≤ 2 ^ 64
bound_at [] i = omega arith
bound_at (b ∷ bounds) zero = cap_most b
bound_at (b ∷ bounds) (suc i) = bound_at bounds i

shown_size : (out : Bool) (number bound : ℕ) → number < 3264 → bound ≤ 2 ^ 64
    → length (cond out [] ((codes "node " ++ decimal number) ++ (codes " " ++ (decimal bound ++ line_feed)))) ≤ 40
shown_size true number bound below high = omega arith
shown_size false number bound below high =
    let first = place_size number below in
    let second = bound_size bound high in
    simp length-append (omega (arith, first, second))

nodes_size : (bounds : List ℕ) (ops : List TfheOp) → length ops ≤ 3264 → length (nodes_text (map capped bounds) ops) ≤ 3264 * 40
nodes_size bounds ops few =
    flat_size (λ (e : ℕ × TfheOp). e.0 < 3264) (node_line (map capped bounds)) 3264 40 (λ e below. shown_size (is_out e.1) e.0 (slice_index (map capped bounds) e.0) below (bound_at bounds e.0)) (enumerate_from 0 ops) (omega (arith, few, length-enumerate_from 0 ops)) (numbers_within ops 3264 few)

-- ---- the chosen one

bounds_size : (p : Params) (shape : Shape) → length (nodes_of shape) ≤ 3264 → length (bounds_text p shape) ≤ 1000000
unfolding bounds_text
bounds_size p shape few =
    let ops = nodes_of shape in
    let size = lines_size (size_constraint p ops) 1 (size_few (list_any is_boot ops) _) (size_short p ops) in
    let nodes = nodes_size (noise_bounds p ops) ops few in
    let noise = lines_size (noise_constraints p shape) 6528 (noise_few p shape few) (noise_short p shape few) in
    let inner = length-append (nodes_text (map capped (noise_bounds p ops)) ops) (flat_map constraint_line (map as_broken (noise_constraints p shape))) in
    let outer = length-append (flat_map constraint_line (map as_broken (size_constraint p ops))) (nodes_text (map capped (noise_bounds p ops)) ops ++ flat_map constraint_line (map as_broken (noise_constraints p shape))) in
    omega (arith, size, nodes, noise, inner, outer)

chosen_size : TableLaws → (table : Table) (shape : Shape) (chosen : Option Choice) → IsTable table → AreSmall (counts_of (nodes_of shape)) → length (nodes_of shape) ≤ 3264 → IfSome chosen (IsChoice table) → length (chosen_text table shape chosen) ≤ 1000200
chosen_size T table shape None is small few there = omega arith
chosen_size T table shape (Some choice) is small few there =
    let counts = counts_of (nodes_of shape) in
    let p = params_of table choice in
    let text = choice_text choice (cost_of p table.weights counts) in
    let own : length text ≤ 80 = choice_size choice (cost_of p table.weights counts) (short_choice T table counts choice is small there) in
    let bounds = bounds_size p shape few in
    let line = length-append text line_feed in
    let both = length-append (chosen_line table counts choice) (bounds_text p shape) in
    omega (arith, own, bounds, line, both)

-- ---- the head

weights_size : (w : CostWeights) → IsCostWeights w → length (weights_line w) ≤ 40
weights_size w is =
    let a = count_size w.switch (omega (arith, is.switch)) in
    let b = count_size w.boot (omega (arith, is.boot)) in
    let c = count_size w.lin (omega (arith, is.lin)) in
    simp length-append (omega (arith, a, b, c))

counts_size : (c : Counts) → AreSmall c → length (counts_line c) ≤ 40
counts_size c is =
    let a = count_size c.switches (omega (arith, is.switches)) in
    let b = count_size c.boots (omega (arith, is.boots)) in
    let d = count_size c.weights is.weights in
    simp length-append (omega (arith, a, b, d))

width_size : (width : ℕ) → width ≤ 16 → length (width_line width) ≤ 20
width_size width low = let a = count_size width (omega (arith, low)) in simp length-append (omega (arith, a))

-- ---- the whole

small_counts : (ops : List TfheOp) → KeepRules ops [] ops → AreSmall (counts_of ops)
small_counts ops keep =
    let few = few_of_each ops keep in
    record { switches = few.switches; boots = few.boots; weights = few_weights ops keep }

whole : (weights counts width refusals chosen : List ℕ) → length weights ≤ 40 → length counts ≤ 40 → length width ≤ 20 → length refusals ≤ 20736 * 200 → length chosen ≤ 1000200
    → length (title ++ (weights ++ (counts ++ (width ++ (refusals ++ (chosen ++ (codes "end" ++ line_feed))))))) ≤ cert_limit
whole weights counts width refusals chosen a b c d e = simp length-append (omega (arith, a, b, c, d, e))

pub text_size : TableLaws → SearchLaws → (table : Table) (shape : Shape) → IsTable table → IsShape shape → length (certificate_text table shape) ≤ cert_limit
unfolding certificate_of
text_size T S table shape is rules =
    let ops = nodes_of shape in
    let keep = rules.nodes.rules in
    let few = few_nodes ops keep in
    let small = small_counts ops keep in
    whole (weights_line table.weights) (counts_line (counts_of ops)) (width_line shape.width) (flat_map refused_line (refused_choices table shape)) (chosen_text table shape (least_choice table shape))
    (weights_size table.weights is.weights)
    (counts_size (counts_of ops) small)
    (width_size shape.width rules.width.high)
    (all_refused_size T table shape is small few)
    (chosen_size T table shape (least_choice table shape) is small few (S.chosen table shape))
