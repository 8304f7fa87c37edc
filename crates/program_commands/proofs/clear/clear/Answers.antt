use Rattle.std.proofs.Common.{refl}
use Rattle.command_forms.specs.Outcome.{putting}
use Rattle.command_forms.specs.LeaveLemmas.{leaves_refused, leaves_put}
use Rattle.program_commands.specs.Words.{clear_view}
use Rattle.program_commands.specs.Clear.{cleared}
use Rattle.program_commands.proofs.clear.clear.Goals as goal

pub returns-in-Ok : goal.returns-in-Ok
returns-in-Ok g c =
    leaves_put _ _ _ _ (cleared (clear_view c.args.names.now)) putting _ _ _ _ _ _ c.requires.distinct c.in-Ok.ensures refl (rw c.deref.ensures.value at c.put_all.ensures)

pub returns-in-Err : goal.returns-in-Err
returns-in-Err g c =
    rw c.from.ensures (leaves_refused _ _ _ _ (cleared (clear_view c.args.names.now)) putting _ _ c.requires.distinct c.in-Err.ensures)
