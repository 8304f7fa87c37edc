use Rattle.std.proofs.Common.{◌≡◌, ℕ, ◌-◌, ◌≤◌, length}
use Rattle.std.specs.List.{slice_get}
use Rattle.std.specs.Option.{IfSome}
use Rattle.ir_core.specs.Graph.{Holds, place_of, numbers_of}
use Rattle.fhe_level.specs.Room.{HoldsBefore}
use Rattle.fhe_level.proofs.computing.operation_numbers.Given as goal

-- the operations before the place are computed, and the next one stands there
abbrev pub invariant-loop-next : goal.invariant-loop-next
invariant-loop-next l = record {
  place : l.place ≤ length l.program.graph.list;
  next : l.next ≡ slice_get (numbers_of l.program.graph.list) l.place;
  at : IfSome l.next (λ number. place_of l.program.graph.list number ≡ l.place);
  there : IfSome l.next (Holds l.program.graph.list);
  room : length l.room.items ≡ l.program.graph.made;
  numbers : HoldsBefore l.program l.inputs l.room.items l.place;
}

abbrev pub decreases-loop-next : goal.decreases-loop-next
decreases-loop-next l = length l.program.graph.list - l.place
