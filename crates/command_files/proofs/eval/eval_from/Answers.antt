use Rattle.std.proofs.lemmas.Result.{err_from_is_err_and}
use Rattle.sealed_files.specs.Limits.{file_limit}
use Rattle.command_forms.specs.Outcome.{reading}
use Rattle.command_forms.specs.StepLemmas.{reads_refused, reads_then, reads_nothing, of_part}
use Rattle.command_files.specs.Files.{eval_in, eval_from}
use Rattle.command_files.proofs.eval.eval_from.Goals as goal

pub returns-in_err-bytes-clause-reads : goal.returns-in_err-bytes-clause-reads
unfolding eval_from
returns-in_err-bytes-clause-reads g c =
    let p = err_from_is_err_and c.from_residual.result c.from_residual.ensures.1 in
    rw (p.1, p.2) (reads_refused _ _ _ _ _ _ (λ files. reading files c.args.name.now file_limit) (λ files. eval_in c.args.digest.now c.args.params.now) c.in_err-bytes.ensures.reads)

pub returns-in_err-eval_in-clause-reads : goal.returns-in_err-eval_in-clause-reads
unfolding eval_from
returns-in_err-eval_in-clause-reads g c =
    let p = err_from_is_err_and c.from_residual-in_err-eval_in.result c.from_residual-in_err-eval_in.ensures.1 in
    rw (p.1, p.2) (reads_then _ _ _ _ _ _ _ (λ files. reading files c.args.name.now file_limit) (λ files. eval_in c.args.digest.now c.args.params.now) c.in_ok-bytes.ensures.reads
    (reads_nothing _ _ _ _ (of_part _ _ (rw c.deref.ensures.value at c.in_err-eval_in.ensures.keys))))

pub returns-clause-reads : goal.returns-clause-reads
unfolding eval_from
returns-clause-reads g c =
    reads_then _ _ _ _ _ _ _ (λ files. reading files c.args.name.now file_limit) (λ files. eval_in c.args.digest.now c.args.params.now) c.in_ok-bytes.ensures.reads
    (reads_nothing _ _ _ _ (rw c.deref.ensures.value at c.in_ok-eval_in.ensures.keys))
