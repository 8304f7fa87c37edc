use Rattle.std.proofs.lemmas.Result.{err_from_is_err_and}
use Rattle.command_forms.specs.Outcome.{reading}
use Rattle.command_forms.specs.StepLemmas.{reads_refused, reads_then, reads_nothing, of_part}
use Rattle.program_commands.specs.Programs.{program_limit, front_in, front_from}
use Rattle.program_commands.proofs.program.front_from.Goals as goal

pub returns-in_err-text-clause-reads : goal.returns-in_err-text-clause-reads
unfolding front_from
returns-in_err-text-clause-reads g c =
    let p = err_from_is_err_and c.from_residual.result c.from_residual.ensures.1 in
    rw (p.1, p.2) (reads_refused _ _ _ _ _ _ (λ files. reading files c.args.name.now program_limit) (λ files. front_in) c.in_err-text.ensures.reads)

pub returns-in_err-front_in-clause-reads : goal.returns-in_err-front_in-clause-reads
unfolding front_from
returns-in_err-front_in-clause-reads g c =
    let p = err_from_is_err_and c.from_residual-in_err-front_in.result c.from_residual-in_err-front_in.ensures.1 in
    rw (p.1, p.2) (reads_then _ _ _ _ _ _ _ (λ files. reading files c.args.name.now program_limit) (λ files. front_in) c.in_ok-text.ensures.reads
    (reads_nothing _ _ _ _ (of_part _ _ (rw c.deref.ensures.value at c.in_err-front_in.ensures.front))))

pub returns-clause-reads : goal.returns-clause-reads
unfolding front_from
returns-clause-reads g c =
    reads_then _ _ _ _ _ _ _ (λ files. reading files c.args.name.now program_limit) (λ files. front_in) c.in_ok-text.ensures.reads
    (reads_nothing _ _ _ _ (rw c.deref.ensures.value at c.in_ok-front_in.ensures.front))
