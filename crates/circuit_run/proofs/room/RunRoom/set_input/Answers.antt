use Rattle.std.proofs.Common.{rules}
use Rattle.circuit_run.proofs.RoomRows.{big_kept}
use Rattle.circuit_run.proofs.room.RunRoom.set_input.Goals as goal

pub returns-clause-room : goal.returns-clause-room
returns-clause-room c = search rules

pub returns-clause-lengths : goal.returns-clause-lengths
returns-clause-lengths c = big_kept _ c.args.self.now c.args.node c.args.input.now (returns-clause-room c) c.requires.fits
