-- A circuit that keeps the rules is the circuit of its nodes.
use Rattle.std.proofs.Common.{◌≡◌, ℕ, zero, suc, ◌+◌, ◌≤◌, ◌<◌, ◌^◌, Bool, true, false, cond, List, [], ◌∷◌, length, refl, sym, ap, ◌∙◌, arith, All, inl, inr}
use Rattle.std.specs.Prelude.{ℤ, pos, int_lt, ◌<ℤ◌, map}
use Rattle.std.specs.List.{list_all, enumerate_from, AllByRecursion}
use Rattle.std.proofs.lemmas.Int.{ints}
use Rattle.std.proofs.lemmas.Bool.{false≢true, cases_lt}
use Rattle.std.specs.Prelude.{◌&&◌}
use Rattle.std.proofs.lemmas.List.{length-map}
use Rattle.std.proofs.lemmas.List.Elements.{All-from_recursion, recursion_from_All}
use Rattle.forms.specs.Forms.{span_of}
use Rattle.forms.specs.Ranges.{HoldsRanges, IsLeastWidth}
use Rattle.ir_core.specs.Graph.{Operations}
use Rattle.ir_core.specs.Placed.{IsPlaced, operations_of}
use Rattle.tfhe_level.specs.declared.level.TfheOp.{TfheOp}
use Rattle.tfhe_level.specs.declared.shape.Shape.{Shape}
use Rattle.tfhe_level.specs.Nodes.{nodes_of}
use Rattle.tfhe_level.specs.Rules.{message_ranges, IsShape}
use Rattle.compile_pipe.specs.Shapes.{holds_ranges, width_from, least_width, graph_of, shape_of}

-- ---- the least width

below_two : (z limit : ℤ) → int_lt z limit ≡ true → z <ℤ limit
below_two z limit e = grind (arith, ints)

below_test : (z limit : ℤ) → z <ℤ limit → int_lt z limit ≡ true
below_test z limit e = grind (arith, ints)

all_hold : (width : ℕ) (ranges : List (ℤ × ℤ)) → holds_ranges width ranges ≡ true
    → AllByRecursion (λ (range : ℤ × ℤ). span_of range <ℤ pos (2 ^ width)) ranges
all_hold width [] e = tt
all_hold width (range ∷ ranges) e =
    let parts = both (int_lt (span_of range) (pos (2 ^ width))) (holds_ranges width ranges) e in
    (below_two (span_of range) (pos (2 ^ width)) parts.0, all_hold width ranges parts.1)
  where
    both : (a b : Bool) → (a && b) ≡ true → (a ≡ true) × (b ≡ true)
    both true b is = (refl, is)
    both false b is = absurd (false≢true is)

all_test : (width : ℕ) (ranges : List (ℤ × ℤ)) → AllByRecursion (λ (range : ℤ × ℤ). span_of range <ℤ pos (2 ^ width)) ranges
    → holds_ranges width ranges ≡ true
all_test width [] all = refl
all_test width (range ∷ ranges) all =
    rw (below_test (span_of range) (pos (2 ^ width)) all.0) (all_test width ranges all.1)

-- what the test tells
holds : (width : ℕ) (ranges : List (ℤ × ℤ)) → holds_ranges width ranges ≡ true → HoldsRanges width ranges
holds width ranges e = All-from_recursion (λ (range : ℤ × ℤ). span_of range <ℤ pos (2 ^ width)) ranges (all_hold width ranges e)

test : (width : ℕ) (ranges : List (ℤ × ℤ)) → HoldsRanges width ranges → holds_ranges width ranges ≡ true
test width ranges all = all_test width ranges (recursion_from_All (λ (range : ℤ × ℤ). span_of range <ℤ pos (2 ^ width)) ranges all)

either_width : (b test : Bool) (here later width : ℕ) → test ≡ b → (test ≡ true → here ≡ width) → (test ≡ false → later ≡ width)
    → cond test here later ≡ width
either_width true test here later width e one other = rw e (one e)
either_width false test here later width e one other = rw e (other e)

-- a width that does not hold what another holds is lower
above : (from width : ℕ) (ranges : List (ℤ × ℤ)) → from ≤ width → HoldsRanges width ranges → holds_ranges from ranges ≡ false → from + 1 ≤ width
above from width ranges low all e =
    elim (cases_lt width (from + 1)) [
      | inl below ↦
          let is : width ≡ from = omega (arith, low, below) in
          absurd (false≢true (sym e ∙ ap (λ (n : ℕ). holds_ranges n ranges) (sym is) ∙ test width ranges all))
      | inr later ↦ omega (arith, later)
    ]

-- a width that is the least from a lower one on is found
found_from : (more from width : ℕ) (ranges : List (ℤ × ℤ)) → from ≤ width → width ≤ from + more → HoldsRanges width ranges
    → ((other : ℕ) → from ≤ other → HoldsRanges other ranges → width ≤ other) → width_from more from ranges ≡ width
found_from zero from width ranges low high all least = omega (arith, low, high)
found_from (suc more) from width ranges low high all least =
    either_width (holds_ranges from ranges) (holds_ranges from ranges) from (width_from more (from + 1) ranges) width refl
    (λ (e : holds_ranges from ranges ≡ true).
    let here = least from (omega arith) (holds from ranges e) in
    let same : from ≡ width = omega (arith, low, here) in same)
    (λ (e : holds_ranges from ranges ≡ false).
    let further : from + 1 ≤ width = above from width ranges low all e in
    found_from more (from + 1) width ranges further (omega (arith, high)) all
    (λ other past holds_it. least other (omega (arith, past)) holds_it))

pub width_is : (ranges : List (ℤ × ℤ)) (width : ℕ) → IsLeastWidth ranges width → least_width ranges ≡ width
width_is ranges width is = found_from 15 1 width ranges is.low (omega (arith, is.high)) is.holds is.least

-- ---- the graph

same_graph : (graph : Operations TfheOp) (list : List (ℕ × TfheOp)) (made : ℕ) → graph.list ≡ list → graph.made ≡ made
    → graph ≡ record { list = list; made = made }
same_graph graph list made lists numbers =
    ap (λ (l : List (ℕ × TfheOp)). let g : Operations TfheOp = record { list = l; made = graph.made } in g) lists
    ∙ ap (λ (n : ℕ). let g : Operations TfheOp = record { list = list; made = n } in g) numbers

graph_is : (graph : Operations TfheOp) → IsPlaced graph → graph ≡ graph_of (operations_of graph)
graph_is graph placed =
    same_graph graph (enumerate_from 0 (operations_of graph)) (length (operations_of graph)) placed.numbers
    (placed.next ∙ sym (length-map graph.list (λ (entry : ℕ × TfheOp). entry.1)))

-- ---- the shape

same_shape : (shape : Shape) (graph : Operations TfheOp) (width : ℕ) → shape.graph ≡ graph → shape.width ≡ width
    → shape ≡ record { graph = graph; width = width }
same_shape shape graph width graphs widths =
    ap (λ (g : Operations TfheOp). let s : Shape = record { graph = g; width = shape.width } in s) graphs
    ∙ ap (λ (n : ℕ). let s : Shape = record { graph = graph; width = n } in s) widths

pub shape_is : (shape : Shape) (nodes : List TfheOp) → IsShape shape → nodes_of shape ≡ nodes → shape ≡ shape_of nodes
shape_is shape nodes is same =
    same_shape shape (graph_of (nodes_of shape)) (least_width (message_ranges (nodes_of shape))) (graph_is shape.graph is.placed)
    (sym (width_is (message_ranges (nodes_of shape)) shape.width is.width))
    ∙ ap shape_of same
