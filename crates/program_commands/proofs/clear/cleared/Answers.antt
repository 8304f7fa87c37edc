use Rattle.std.proofs.Common.{[], Ok, sym, ap}
use Rattle.std.specs.Prelude.{ℤ, List}
use Rattle.std.proofs.lemmas.Result.{err_from_is_err_and}
use Rattle.port_store.specs.Files.{Bytes}
use Rattle.command_forms.specs.StepLemmas.{reads_refused, reads_then, reads_nothing}
use Rattle.command_files.specs.Files.{values_from}
use Rattle.program_commands.specs.Words.{clear_view}
use Rattle.program_commands.specs.Programs.{front_from}
use Rattle.program_commands.specs.Clear.{result_lines, cleared}
use Rattle.program_commands.proofs.Steps.{after_program}
use Rattle.program_commands.proofs.clear.cleared.Goals as goal

pub returns-in_err-front : goal.returns-in_err-front
unfolding cleared
returns-in_err-front g c =
    let p = err_from_is_err_and c.from_residual.result c.from_residual.ensures.1 in
    let words = clear_view c.args.names.now in
    rw (p.1, p.2) (reads_refused _ _ _ _ _ _ (front_from words.program) (after_program words) c.in_err-front.ensures.reads)

pub returns-in_err-values : goal.returns-in_err-values
unfolding cleared
returns-in_err-values g c =
    let p = err_from_is_err_and c.from_residual-in_err-values.result c.from_residual-in_err-values.ensures.1 in
    let words = clear_view c.args.names.now in
    let front = c.in_ok-front.front in
    rw (p.1, p.2) (reads_then _ _ _ _ _ _ _ (front_from words.program) (after_program words) c.in_ok-front.ensures.reads
    (reads_refused [] _ _ _ _ _ (values_from front.program.args words.values) (λ files (values : List ℤ). Ok (result_lines front.program values)) (rw c.as_slice.ensures at c.in_err-values.ensures.reads)))

pub returns-in-Ok : goal.returns-in-Ok
unfolding cleared
returns-in-Ok g c =
    let words = clear_view c.args.names.now in
    let front = c.in_ok-front.front in
    reads_then _ _ _ _ _ _ _ (front_from words.program) (after_program words) c.in_ok-front.ensures.reads
    (reads_then {more = []} _ _ _ _ _ _ _ (values_from front.program.args words.values) (λ files (values : List ℤ). Ok (result_lines front.program values)) (rw c.as_slice.ensures at c.in_ok-values.ensures.reads)
    (reads_nothing _ _ _ _ (ap (λ (bytes : Bytes). Ok bytes) (sym (rw c.deref.ensures.value at c.in-Ok.ensures)))))
