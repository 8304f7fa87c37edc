-- Graphs in which the number of an operation is its place, as those that pushes alone made.
use Rattle.std.specs.Prelude.{◌≡◌, List, length, map}
use Rattle.std.specs.List.{enumerate_from}
use Rattle.ir_core.specs.Graph.{Operations}

-- the operations in their order, without their numbers
abbrev pub operations_of : {Op : Type 0} → Operations Op → List Op
operations_of graph = map (λ entry. entry.1) graph.list

-- each number is a place, counted from 0, and the next number is the place after the last
pub record IsPlaced {Op : Type 0} (graph : Operations Op) : Type 0 where
  pub numbers : graph.list ≡ enumerate_from 0 (operations_of graph)
  pub next : graph.made ≡ length graph.list
