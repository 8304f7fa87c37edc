-- the operation at a place, in a graph whose numbers are places
use Rattle.std.proofs.Common.{◌≡◌, ℕ, ◌<◌, ◌^◌, List, length, All, ap, ◌∙◌, sym, subst, Some}
use Rattle.std.specs.List.{slice_get}
use Rattle.std.specs.Option.{option_map}
use Rattle.std.proofs.lemmas.Option.{slice_get-map, slice_get_within, get_or_from_slice_get}
use Rattle.ir_core.specs.Graph.{Operations, place_of}
use Rattle.ir_core.specs.Placed.{operations_of}

module _ {Op : Type 0} (graph : Operations Op) (number : ℕ) (op : Op) (place : place_of graph.list number ≡ number) (at : slice_get graph.list (place_of graph.list number) ≡ Some (number, op)) where
  -- the entry with a number stands at it
  entry_there : slice_get graph.list number ≡ Some (number, op)
  entry_there = ap (slice_get graph.list) (sym place) ∙ at

  -- and so does its operation
  pub op_there : slice_get (operations_of graph) number ≡ Some op
  op_there = slice_get-map (λ entry. entry.1) graph.list number ∙ ap (option_map (λ entry. entry.1)) entry_there

  -- what holds of each entry holds of it
  pub op_few : (operands : Op → List ℕ) → All (λ entry. length (operands entry.1) < 2 ^ 32) graph.list → length (operands op) < 2 ^ 32
  op_few operands few =
      subst (λ (entry : ℕ × Op). length (operands entry.1) < 2 ^ 32) (get_or_from_slice_get graph.list number (number, op) (number, op) entry_there)
      (few number (number, op) (slice_get_within graph.list number (number, op) entry_there))
