use Rattle.std.proofs.lemmas.Result.{err_from_is_err_and}
use Rattle.command_forms.specs.Outcome.{reading}
use Rattle.command_forms.specs.StepLemmas.{reads_refused, reads_then, reads_nothing, of_part}
use Rattle.program_commands.specs.Programs.{table_limit, compiled_in, compiled_from}
use Rattle.program_commands.proofs.table.compiled_from.Goals as goal

pub returns-in_err-text : goal.returns-in_err-text
unfolding compiled_from
returns-in_err-text g c =
    let p = err_from_is_err_and c.from_residual.result c.from_residual.ensures.1 in
    rw (p.1, p.2) (reads_refused _ _ _ _ _ _ (λ files. reading files c.args.name.now table_limit) (λ files. compiled_in c.args.shape) c.in_err-text.ensures.reads)

pub returns-in_err-compiled_in : goal.returns-in_err-compiled_in
unfolding compiled_from
returns-in_err-compiled_in g c =
    let p = err_from_is_err_and c.from_residual-in_err-compiled_in.result c.from_residual-in_err-compiled_in.ensures.1 in
    rw (p.1, p.2) (reads_then _ _ _ _ _ _ _ (λ files. reading files c.args.name.now table_limit) (λ files. compiled_in c.args.shape) c.in_ok-text.ensures.reads
    (reads_nothing _ _ _ _ (of_part _ _ (rw c.deref.ensures.value at c.in_err-compiled_in.ensures))))

pub returns : goal.returns
unfolding compiled_from
returns g c =
    reads_then _ _ _ _ _ _ _ (λ files. reading files c.args.name.now table_limit) (λ files. compiled_in c.args.shape) c.in_ok-text.ensures.reads
    (reads_nothing _ _ _ _ (rw c.deref.ensures.value at c.in_ok-compiled_in.ensures))
