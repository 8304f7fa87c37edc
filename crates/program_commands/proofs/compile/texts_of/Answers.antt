use Rattle.std.proofs.lemmas.Result.{err_from_is_err_and}
use Rattle.command_forms.specs.StepLemmas.{reads_refused, reads_then, read_told}
use Rattle.std.proofs.Common.{◌∙◌, refl}
use Rattle.compile_pipe.specs.Back.{compiled_view}
use Rattle.program_commands.specs.Words.{compile_view}
use Rattle.program_commands.specs.Programs.{front_from, compiled_from}
use Rattle.program_commands.specs.Compile.{compiled}
use Rattle.program_commands.proofs.Steps.{after_front}
use Rattle.program_commands.proofs.Compiled.{gave_compiled}
use Rattle.program_commands.proofs.compile.texts_of.Goals as goal

pub returns-in_err-front-clause-reads : goal.returns-in_err-front-clause-reads
unfolding compiled
returns-in_err-front-clause-reads g c =
    let p = err_from_is_err_and c.from_residual.result c.from_residual.ensures.1 in
    let words = compile_view c.args.names.now in
    rw (p.1, p.2) (reads_refused _ _ _ _ _ _ (front_from words.program) (after_front words) c.in_err-front.ensures.reads)

pub returns-in_err-found-clause-reads : goal.returns-in_err-found-clause-reads
unfolding compiled
returns-in_err-found-clause-reads g c =
    let p = err_from_is_err_and c.from_residual-in_err-found.result c.from_residual-in_err-found.ensures.1 in
    let words = compile_view c.args.names.now in
    rw (p.1, p.2) (reads_then _ _ _ _ _ _ _ (front_from words.program) (after_front words) c.in_ok-front.ensures.reads c.in_err-found.ensures)

pub returns-clause-reads : goal.returns-clause-reads
unfolding compiled
returns-clause-reads g c =
    let words = compile_view c.args.names.now in
    reads_then _ _ _ _ _ _ _ (front_from words.program) (after_front words) c.in_ok-front.ensures.reads c.in_ok-found.ensures

pub returns-clause-gave : goal.returns-clause-gave
returns-clause-gave g c = λ files told.
    let words = compile_view c.args.names.now in
    let front = c.in_ok-front.front in
    gave_compiled words files front (compiled_view c.in_ok-found.found) c.in_ok-front.ensures.rules
    (read_told _ _ _ _ (front_from words.program) c.in_ok-front.ensures.reads refl files told)
    (read_told _ _ _ _ (compiled_from front.shape words.table) c.in_ok-found.ensures refl files (c.in_ok-front.ensures.reads.files_stay ∙ told))
