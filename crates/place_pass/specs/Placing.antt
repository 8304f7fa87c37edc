-- The circuit of patterns: the arguments, for each look-up a weighted sum, a key switch and a bootstrap, for each result a
-- weighted sum, and at last the outs.
use Rattle.std.specs.Prelude.{ℕ, ◌==◌, ◌&&◌, Bool, true, false, List, [], ◌∷◌, ◌++◌, length, map, slice_index, Option, Some, None, ℤ, pos, if◌then◌else◌}
use Rattle.std.specs.List.{list_any, position_or_len}
use Rattle.std.specs.Ordering.{int_eq}
use Rattle.forms.specs.Forms.{form_range}
use Rattle.forms.specs.Ranges.{range_of_entries}
use Rattle.ap_level.specs.declared.level.ApOp.{ApOp}
use Rattle.ap_level.specs.declared.level.ApOp.TheVariants as patterns
use Rattle.tfhe_level.specs.declared.level.TfheOp.{TfheOp}
use Rattle.tfhe_level.specs.declared.level.TfheOp.TheVariants.{Input, Lin, Switch, Boot, Out}
use Rattle.place_pass.specs.declared.outlet.Outlet.{Outlet}

-- ---- nodes that are there already

-- the same terms
abbrev pub same_terms : List (ℕ × ℤ) → List (ℕ × ℤ) → Bool
same_terms [] [] = true
same_terms (t ∷ terms) (u ∷ others) = (t.0 == u.0) && (int_eq t.1 u.1) && same_terms terms others
same_terms _ _ = false

-- the node is this weighted sum
abbrev pub is_sum : ℤ → List (ℕ × ℤ) → TfheOp → Bool
is_sum constant terms (Lin other others) = int_eq other constant && same_terms others terms
is_sum constant terms _ = false

-- the node is the key switch of this one
abbrev pub is_switch_of : ℕ → TfheOp → Bool
is_switch_of source (Switch other) = other == source
is_switch_of source _ = false

-- the place of the first node that passes a test
abbrev pub place_where : (TfheOp → Bool) → List TfheOp → Option ℕ
place_where test nodes = if list_any test nodes then Some (position_or_len test nodes) else None

-- ---- one node more, or one that is there

-- the nodes, and the number of one of them
pub record Put : Type 0 where
  pub nodes : List TfheOp
  pub number : ℕ

-- this node at the end
abbrev pub put_last : TfheOp → List TfheOp → Put
put_last node nodes = record { nodes = nodes ++ node ∷ []; number = length nodes }

-- the node with this number, if there is one, and else this one at the end
abbrev pub put_unless : Option ℕ → TfheOp → List TfheOp → Put
put_unless (Some number) node nodes = record { nodes = nodes; number = number }
put_unless None node nodes = put_last node nodes

-- a weighted sum
abbrev pub put_sum : ℤ → List (ℕ × ℤ) → List TfheOp → Put
put_sum constant terms nodes = put_unless (place_where (is_sum constant terms) nodes) (Lin constant terms) nodes

-- a key switch
abbrev pub put_switch : ℕ → List TfheOp → Put
put_switch source nodes = put_unless (place_where (is_switch_of source) nodes) (Switch source) nodes

-- ---- forms

-- the terms on the nodes of their leaves
abbrev pub on_nodes : List ℕ → List (ℕ × ℤ) → List (ℕ × ℤ)
on_nodes leaves terms = map (λ t. (slice_index leaves t.0, t.1)) terms

-- the leaf that a form is, where its constant is 0 and it has one term of weight 1
abbrev pub alone : ℤ → List (ℕ × ℤ) → Option ℕ
alone constant [] = None
alone constant (t ∷ []) = if int_eq constant (pos 0) && int_eq t.1 (pos 1) then Some t.0 else None
alone constant (t ∷ other ∷ terms) = None

-- the node of a form: the leaf that it is, or a weighted sum
abbrev pub put_alone : Option ℕ → ℤ → List (ℕ × ℤ) → List TfheOp → Put
put_alone (Some leaf) constant terms nodes = record { nodes = nodes; number = leaf }
put_alone None constant terms nodes = put_sum constant terms nodes

abbrev pub put_form : ℤ → List (ℕ × ℤ) → List TfheOp → Put
put_form constant terms nodes = put_alone (alone constant terms) constant terms nodes

-- the key switch of a form
abbrev pub put_form_switch : Put → Put
put_form_switch form = put_switch form.number form.nodes

-- the bootstrap on a key switch
abbrev pub put_boot : List ℤ → Put → Put
put_boot entries switch = put_last (Boot switch.number entries) switch.nodes

-- ---- one operation of the patterns after the other

-- the nodes so far, for each argument and look-up so far its node and its range, and the outs so far
pub record Placed : Type 0 where
  pub nodes : List TfheOp
  pub leaves : List ℕ
  pub ranges : List (ℤ × ℤ)
  pub outs : List Outlet

-- these of a placement
abbrev pub placed_of : List TfheOp → List ℕ → List (ℤ × ℤ) → List Outlet → Placed
placed_of nodes leaves ranges outs = record { nodes = nodes; leaves = leaves; ranges = ranges; outs = outs }

-- with a node of a leaf of this range
abbrev pub with_leaf : Placed → Put → ℤ × ℤ → Placed
with_leaf p put range = placed_of put.nodes (p.leaves ++ put.number ∷ []) (p.ranges ++ range ∷ []) p.outs

-- an out of a node, with its range
abbrev pub outlet_of : ℕ → ℤ × ℤ → Outlet
outlet_of source range = record { source = source; lo = range.0; hi = range.1 }

-- with a node of a result of this range
abbrev pub with_out : Placed → Put → ℤ × ℤ → Placed
with_out p put range = placed_of put.nodes p.leaves p.ranges (p.outs ++ outlet_of put.number range ∷ [])

-- the node of a form on the leaves so far
abbrev pub place_form : Placed → ℤ → List (ℕ × ℤ) → Put
place_form p constant terms = put_form constant (on_nodes p.leaves terms) p.nodes

-- with an operation
abbrev pub place_op : Placed → ApOp → Placed
place_op p (patterns.Input lo hi) = with_leaf p (put_last (Input lo hi) p.nodes) (lo, hi)
place_op p (patterns.Look constant terms entries) =
    with_leaf p (put_boot entries (put_form_switch (place_form p constant terms))) (range_of_entries entries)
place_op p (patterns.Out constant terms) =
    with_out p (place_form p constant terms) (form_range constant terms p.ranges)

-- with these operations
abbrev pub place_ops : Placed → List ApOp → Placed
place_ops p [] = p
place_ops p (op ∷ operations) = place_ops (place_op p op) operations

-- no node yet
abbrev pub nothing_placed : Placed
nothing_placed = placed_of [] [] [] []

-- the operation of an out
abbrev pub outlet_op : Outlet → TfheOp
outlet_op outlet = Out outlet.source outlet.lo outlet.hi

-- ---- the whole

-- the operations of a placement: its nodes and then its outs
abbrev pub whole_of : Placed → List TfheOp
whole_of p = p.nodes ++ map outlet_op p.outs

-- the operations of the circuit of patterns
abbrev pub placed_nodes : List ApOp → List TfheOp
placed_nodes operations = whole_of (place_ops nothing_placed operations)
