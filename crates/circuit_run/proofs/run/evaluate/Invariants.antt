use Rattle.std.proofs.Common.{◌≡◌, take}
use Rattle.std.specs.Option.{option_copied}
use Rattle.tfhe_level.specs.Nodes.{nodes_of}
use Rattle.circuit_run.specs.Running.{eval_keys, words_of}
use Rattle.circuit_run.specs.Rooms.{IsRoomOf, held_rows}
use Rattle.circuit_run.proofs.run.evaluate.Given as goal

-- the operations so far have their words, and the room is the circuit's
abbrev pub invariant-loop-number : goal.invariant-loop-number
invariant-loop-number l = record {
  fits : IsRoomOf l.circuit l.room;
  so_far : held_rows (take l.number (nodes_of l.circuit.shape)) l.room.big l.room.small
      ≡ words_of l.circuit (eval_keys (option_copied l.switch) (option_copied l.boot)) l.inputs (take l.number (nodes_of l.circuit.shape));
}
