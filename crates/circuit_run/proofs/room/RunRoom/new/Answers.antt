use Rattle.circuit_run.proofs.RoomRows.{zero_is_room}
use Rattle.circuit_run.proofs.room.RunRoom.new.Goals as goal

pub returns-clause-room : goal.returns-clause-room
returns-clause-room c = rw (c.in_ok-big.ensures, c.in_ok-small.ensures, c.in_ok-boot.ensures) (zero_is_room c.args.circuit.now)
