use Rattle.std.proofs.Common.{[], ◌∷◌}
use Rattle.command_forms.specs.declared.status.Status.TheVariants as status
use Rattle.command_forms.specs.Outcome.{file_write}
use Rattle.command_forms.specs.LeaveLemmas.{writes_then, writes_cut}
use Rattle.command_forms.proofs.files.write_both.Goals as goal

pub returns-in-Ok : goal.returns-in-Ok
returns-in-Ok g c = writes_then status.Ok c.write_file-in-Ok.result (file_write c.args.first.now c.args.first_bytes.now) (file_write c.args.second.now c.args.second_bytes.now ∷ []) _ _ _ c.in-Ok.ensures c.write_file-in-Ok.ensures

pub returns-in_default : goal.returns-in_default
returns-in_default g c = writes_cut status.Ok c.write_file.result (file_write c.args.first.now c.args.first_bytes.now) (file_write c.args.second.now c.args.second_bytes.now ∷ []) _ _ c.in_default.not-Ok c.write_file.ensures
