use Rattle.std.proofs.Common.{◌≡◌, ℕ, ◌-◌, ◌≤◌, length, drop}
use Rattle.std.specs.List.{slice_get}
use Rattle.std.specs.Option.{IfSome}
use Rattle.ir_core.specs.Graph.{Holds, place_of, numbers_of}
use Rattle.pattern_walk.specs.Safe.{IsSafe}
use Rattle.pattern_walk.specs.Walking.{walk, walked}
use Rattle.pattern_walk.proofs.walk.walked.Given as goal

-- what is left to walk gives what the whole gives, and the next operation stands at the place
abbrev pub invariant-loop-next : goal.invariant-loop-next
invariant-loop-next l = record {
  safe : IsSafe l.program l.walk;
  rest : walk (length l.program.args) l.program.graph.list l.walk (drop l.walk.place l.program.graph.list) ≡ walked l.program;
  next : l.next ≡ slice_get (numbers_of l.program.graph.list) l.walk.place;
  at : IfSome l.next (λ number. place_of l.program.graph.list number ≡ l.walk.place);
  there : IfSome l.next (Holds l.program.graph.list);
}

abbrev pub decreases-loop-next : goal.decreases-loop-next
decreases-loop-next l = length l.program.graph.list - l.walk.place
