use Rattle.std.proofs.Common.{[]}
use Rattle.command_forms.specs.declared.status.Status.TheVariants as status
use Rattle.command_forms.specs.Outcome.{file_write}
use Rattle.command_forms.specs.LeaveLemmas.{writes_then, writes_cut, writes_nothing}
use Rattle.program_commands.proofs.compile.write_cert.Goals as goal

pub returns-in-Ok : goal.returns-in-Ok
returns-in-Ok g c =
    rw c.requires (writes_then status.NoChoice status.NoChoice (file_write c.args.names.now.cert.now c.args.found.now.cert.items) [] _ _ _ (rw c.deref.ensures.value at c.in-Ok.ensures) (writes_nothing status.NoChoice _))

pub returns-in_default : goal.returns-in_default
returns-in_default g c =
    rw c.requires (writes_cut status.NoChoice c.write_file.result (file_write c.args.names.now.cert.now c.args.found.now.cert.items) [] _ _ c.in_default.not-Ok (rw c.deref.ensures.value at c.write_file.ensures))
