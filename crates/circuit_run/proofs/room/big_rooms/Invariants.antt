use Rattle.std.proofs.Common.{◌≡◌, map, take, replicate}
use Rattle.tfhe_level.specs.Nodes.{nodes_of}
use Rattle.circuit_run.specs.Rooms.{big_length}
use Rattle.circuit_run.proofs.room.big_rooms.Given as goal

-- the operations so far have their rooms
abbrev pub invariant-loop-number : goal.invariant-loop-number
invariant-loop-number l = l.rows.items ≡ map (λ op. replicate (big_length l.circuit.params op) 0) (take l.number (nodes_of l.circuit.shape))
