use Rattle.std.proofs.lemmas.Result.{err_from_is_err_and}
use Rattle.command_forms.specs.Outcome.{reading}
use Rattle.command_forms.specs.StepLemmas.{reads_refused, reads_then, reads_nothing, of_part}
use Rattle.program_commands.specs.Check.{agreeing, agreeing_file}
use Rattle.program_commands.proofs.check.agreeing_file.Goals as goal

pub returns-in_err-bytes : goal.returns-in_err-bytes
unfolding agreeing_file
returns-in_err-bytes g c =
    let p = err_from_is_err_and c.from_residual.result c.from_residual.ensures.1 in
    rw (p.1, p.2) (reads_refused _ _ _ _ _ _ (λ files. reading files c.args.name.now c.args.most) (λ files. agreeing c.args.file c.args.text.now) c.in_err-bytes.ensures.reads)

pub returns-in_err-agreeing : goal.returns-in_err-agreeing
unfolding agreeing_file
returns-in_err-agreeing g c =
    let p = err_from_is_err_and c.from_residual-in_err-agreeing.result c.from_residual-in_err-agreeing.ensures.1 in
    rw (p.1, p.2) (reads_then _ _ _ _ _ _ _ (λ files. reading files c.args.name.now c.args.most) (λ files. agreeing c.args.file c.args.text.now) c.in_ok-bytes.ensures.reads
    (reads_nothing _ _ _ _ (of_part _ _ (rw c.deref.ensures.value at c.in_err-agreeing.ensures))))

pub returns : goal.returns
unfolding agreeing_file
returns g c =
    reads_then _ _ _ _ _ _ _ (λ files. reading files c.args.name.now c.args.most) (λ files. agreeing c.args.file c.args.text.now) c.in_ok-bytes.ensures.reads
    (reads_nothing _ _ _ _ (rw c.deref.ensures.value at c.in_ok-agreeing.ensures))
