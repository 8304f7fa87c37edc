use Rattle.command_forms.specs.declared.status.Status.TheVariants as status
use Rattle.command_forms.specs.LeaveLemmas.{leaves_refused, leaves_written, writes_nothing}
use Rattle.program_commands.specs.Words.{compile_view}
use Rattle.program_commands.specs.Check.{checked, agreed}
use Rattle.program_commands.proofs.check.check.Goals as goal

pub returns-in-Ok : goal.returns-in-Ok
returns-in-Ok g c =
    leaves_written _ _ _ _ _ (checked (compile_view c.args.names.now)) agreed _ _ _ c.requires.distinct c.in-Ok.ensures (writes_nothing status.Ok _)

pub returns-in-Err : goal.returns-in-Err
returns-in-Err g c =
    rw c.from.ensures (leaves_refused _ _ _ _ (checked (compile_view c.args.names.now)) agreed _ _ c.requires.distinct c.in-Err.ensures)
