use Rattle.std.proofs.Common.{arith}
use Rattle.std.proofs.lemmas.Grind.{common_steps}
use Rattle.circuit_run.specs.Running.{row_at}
use Rattle.circuit_run.proofs.RoomRows.{big_kept}
use Rattle.circuit_run.proofs.room.RunRoom.set_out.Goals as goal

pub returns-clause-room : goal.returns-clause-room
returns-clause-room c = grind (arith, common_steps)

pub returns-clause-lengths : goal.returns-clause-lengths
returns-clause-lengths c = big_kept _ c.args.self.now c.args.node (row_at c.args.self.now.big c.args.source) (returns-clause-room c) c.requires.fits
