use Rattle.std.proofs.lemmas.Result.{err_from_is_err_and}
use Rattle.circuit_file.specs.Limits.{circuit_limit}
use Rattle.command_forms.specs.Outcome.{reading}
use Rattle.command_forms.specs.StepLemmas.{reads_refused, reads_then, reads_nothing, of_part}
use Rattle.command_files.specs.Files.{circuit_in, circuit_from}
use Rattle.command_files.proofs.circuit.circuit_from.Goals as goal

pub returns-in_err-text-clause-reads : goal.returns-in_err-text-clause-reads
unfolding circuit_from
returns-in_err-text-clause-reads g c =
    let p = err_from_is_err_and c.from_residual.result c.from_residual.ensures.1 in
    rw (p.1, p.2) (reads_refused _ _ _ _ _ _ (λ files. reading files c.args.name.now circuit_limit) (λ files. circuit_in) c.in_err-text.ensures.reads)

pub returns-in_err-circuit_in-clause-reads : goal.returns-in_err-circuit_in-clause-reads
unfolding circuit_from
returns-in_err-circuit_in-clause-reads g c =
    let p = err_from_is_err_and c.from_residual-in_err-circuit_in.result c.from_residual-in_err-circuit_in.ensures.1 in
    rw (p.1, p.2) (reads_then _ _ _ _ _ _ _ (λ files. reading files c.args.name.now circuit_limit) (λ files. circuit_in) c.in_ok-text.ensures.reads
    (reads_nothing _ _ _ _ (of_part _ _ (rw c.deref.ensures.value at c.in_err-circuit_in.ensures.circuit))))

pub returns-clause-reads : goal.returns-clause-reads
unfolding circuit_from
returns-clause-reads g c =
    reads_then _ _ _ _ _ _ _ (λ files. reading files c.args.name.now circuit_limit) (λ files. circuit_in) c.in_ok-text.ensures.reads
    (reads_nothing _ _ _ _ (rw c.deref.ensures.value at c.in_ok-circuit_in.ensures.circuit))
