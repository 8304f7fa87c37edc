use Rattle.tfhe_level.specs.Nodes.{nodes_of}
use Rattle.circuit_run.specs.Rooms.{small_length}
use Rattle.circuit_run.proofs.RoomRows.{rooms_more}
use Rattle.circuit_run.proofs.room.small_rooms.Goals as goal

pub loop-number-preserved : goal.loop-number-preserved
loop-number-preserved c =
    let circuit = c.args.circuit.now in
    rw c.in_ok-push.ensures.items
    (rooms_more (small_length circuit.params) (nodes_of circuit.shape) c.loop-number.number c.node.result.now c.loop-number.rows.items c.in_ok-row.row c.loop-number.invariant c.node.ensures.node c.in_ok-row.ensures)
