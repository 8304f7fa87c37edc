-- What holds of graphs, of each change of one, and of those in which the number of an operation is its place.
use Rattle.std.specs.Prelude.{◌≡◌, ◌≢◌, ◌↔◌, ℕ, ◌+◌, ◌<◌, List, [], ◌∷◌, ◌++◌, length, All, Some, slice_get}
use Rattle.ir_core.specs.Graph.{Operations, IsGraph, Holds, StandsBefore, place_of, no_operations, pushed, inserted_before, erased, uses_replaced, uses_of}
use Rattle.ir_core.specs.Placed.{operations_of, IsPlaced}

-- numbers that are places, given what the operands of an operation are
pub record PlacedLaws {Op : Type 0} (operands : Op → List ℕ) : Type 0 where
  -- they are in the graph of no operations
  pub none : IsPlaced {Op = Op} no_operations
  -- and stay so where an operation is pushed,
  pub one_more : (graph : Operations Op) (op : Op) → IsPlaced graph → IsPlaced (pushed graph op)
  -- which is then the last one
  pub last : (graph : Operations Op) (op : Op) → operations_of (pushed graph op) ≡ operations_of graph ++ op ∷ []
  -- each number below their count is there,
  pub there : (graph : Operations Op) (number : ℕ) → IsPlaced graph → number < length graph.list → Holds graph.list number
  -- at that place
  pub place : (graph : Operations Op) (number : ℕ) → IsPlaced graph → number < length graph.list
      → place_of graph.list number ≡ number
  -- the operands of an operation are the numbers of earlier places
  pub earlier : (graph : Operations Op) (number : ℕ) (op : Op) → IsGraph operands graph → IsPlaced graph
      → slice_get (operations_of graph) number ≡ Some op → All (λ operand. operand < number) (operands op)

-- a graph and what its calls make of it, given the operands of an operation and how others are put in their place
pub record GraphLaws {Op : Type 0} (operands : Op → List ℕ) (with_operands : Op → List ℕ → Op) : Type 0 where
  -- each user of a value stands after it
  pub users_after : (graph : Operations Op) (value : ℕ) → IsGraph operands graph
      → All (λ use_. StandsBefore graph.list value use_.0) (uses_of operands graph.list value)
  -- what stands before a value is there
  pub before_there : (list : List (ℕ × Op)) (a b : ℕ) → StandsBefore list a b → Holds list a
  -- what stands before a value stands before all that the value stands before
  pub transitive : (list : List (ℕ × Op)) (a b c : ℕ) → StandsBefore list a b → StandsBefore list b c
      → StandsBefore list a c
  -- a value that was just pushed has no uses
  pub push_unused : (graph : Operations Op) (op : Op) → IsGraph operands graph
      → All (Holds graph.list) (operands op) → uses_of operands (pushed graph op).list graph.made ≡ []
  -- nor has one that was just put in before another
  pub insertion_unused : (graph : Operations Op) (place : ℕ) (op : Op) → IsGraph operands graph
      → All (λ value. StandsBefore graph.list value place) (operands op)
      → uses_of operands (inserted_before graph place op).list graph.made ≡ []
  -- it stands just before that other
  pub insertion_before : (graph : Operations Op) (place : ℕ) (op : Op) → IsGraph operands graph
      → Holds graph.list place
      → place_of (inserted_before graph place op).list graph.made + 1
      ≡ place_of (inserted_before graph place op).list place
  -- and values that were there stand as they stood
  pub insertion_keeps : (graph : Operations Op) (place : ℕ) (op : Op) (a b : ℕ) → IsGraph operands graph
      → Holds graph.list a → Holds graph.list b
      → StandsBefore (inserted_before graph place op).list a b ↔ StandsBefore graph.list a b
  -- a value for which another was put has no uses
  pub replaced_unused : (graph : Operations Op) (from to : ℕ) → from ≢ to
      → uses_of operands (uses_replaced operands with_operands graph from to).list from ≡ []
  -- where what was just pushed is erased, the graph is what it was, but for the count of numbers given
  pub push_erased : (graph : Operations Op) (op : Op) → IsGraph operands graph
      → erased (pushed graph op) graph.made ≡ record { list = graph.list; made = graph.made + 1 }
