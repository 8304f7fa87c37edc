use Rattle.std.proofs.Common.{◌≡◌, take}
use Rattle.tfhe_level.specs.Nodes.{nodes_of, at_outs}
use Rattle.circuit_run.specs.Rooms.{words_in}
use Rattle.circuit_run.proofs.out_rows.outputs.Given as goal

-- the outs among the operations so far
abbrev pub invariant-loop-number : goal.invariant-loop-number
invariant-loop-number l = l.list.items ≡ at_outs (take l.number (nodes_of l.circuit.shape)) (take l.number (words_in l.circuit l.room))
