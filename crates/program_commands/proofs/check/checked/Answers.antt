use Rattle.std.proofs.Common.{[], ◌∷◌, Ok}
use Rattle.std.proofs.lemmas.Result.{err_from_is_err_and}
use Rattle.cost_cert.specs.Limits.{cert_limit}
use Rattle.compile_pipe.specs.Back.{compiled_view}
use Rattle.port_store.specs.Files.{Bytes}
use Rattle.command_forms.specs.declared.fault.CertFile.TheVariants as certified
use Rattle.command_forms.specs.StepLemmas.{reads_refused, reads_then, reads_nothing, of_part}
use Rattle.program_commands.specs.Words.{compile_view}
use Rattle.program_commands.specs.Compile.{compiled}
use Rattle.program_commands.specs.Check.{chosen_text, agreeing_file, checked}
use Rattle.program_commands.proofs.Steps.{after_compiled, after_cert, after_text}
use Rattle.program_commands.proofs.check.checked.Goals as goal

pub returns-in_err-found : goal.returns-in_err-found
unfolding checked
returns-in_err-found g c =
    let p = err_from_is_err_and c.from_residual.result c.from_residual.ensures.1 in
    let words = compile_view c.args.names.now in
    rw (p.1, p.2) (reads_refused (words.cert ∷ words.circuit ∷ []) _ _ _ _ _ (compiled words) (after_compiled words) c.in_err-found.ensures.reads)

pub returns-in_err-agreeing_file : goal.returns-in_err-agreeing_file
unfolding checked
returns-in_err-agreeing_file g c =
    let p = err_from_is_err_and c.from_residual-in_err-agreeing_file.result c.from_residual-in_err-agreeing_file.ensures.1 in
    let words = compile_view c.args.names.now in
    let found = compiled_view c.in_ok-found.found in
    rw (p.1, p.2) (reads_then {more = words.cert ∷ words.circuit ∷ []} _ _ _ _ _ _ _ (compiled words) (after_compiled words) c.in_ok-found.ensures.reads
    (reads_refused (words.circuit ∷ []) _ _ _ _ _ (agreeing_file certified.Cert found.cert cert_limit words.cert) (after_cert words found) (rw c.deref.ensures.value at c.in_err-agreeing_file.ensures)))

pub returns-in_err-text : goal.returns-in_err-text
unfolding checked
returns-in_err-text g c =
    let p = err_from_is_err_and c.from_residual-in_err-text.result c.from_residual-in_err-text.ensures.1 in
    let words = compile_view c.args.names.now in
    let found = compiled_view c.in_ok-found.found in
    rw (p.1, p.2) (reads_then {more = words.cert ∷ words.circuit ∷ []} _ _ _ _ _ _ _ (compiled words) (after_compiled words) c.in_ok-found.ensures.reads
    (reads_then {more = words.circuit ∷ []} _ _ _ _ _ _ _ (agreeing_file certified.Cert found.cert cert_limit words.cert) (after_cert words found) (rw c.deref.ensures.value at c.in_ok-agreeing_file.ensures)
    (reads_refused {A = Bytes} {X = Unit {0}} {names = []} (words.circuit ∷ []) _ _ (λ x. []) _ _ (λ files. chosen_text found.circuit) (after_text words)
    (reads_nothing {X = Unit {0}} _ (λ x. []) _ _ (of_part _ _ c.in_err-text.ensures)))))

pub returns-in_err-agreeing_file-2 : goal.returns-in_err-agreeing_file-2
unfolding checked
returns-in_err-agreeing_file-2 g c =
    let p = err_from_is_err_and c.from_residual-in_err-agreeing_file-2.result c.from_residual-in_err-agreeing_file-2.ensures.1 in
    let words = compile_view c.args.names.now in
    let found = compiled_view c.in_ok-found.found in
    rw (p.1, p.2) (reads_then {more = words.cert ∷ words.circuit ∷ []} _ _ _ _ _ _ _ (compiled words) (after_compiled words) c.in_ok-found.ensures.reads
    (reads_then {more = words.circuit ∷ []} _ _ _ _ _ _ _ (agreeing_file certified.Cert found.cert cert_limit words.cert) (after_cert words found) (rw c.deref.ensures.value at c.in_ok-agreeing_file.ensures)
    (reads_then {X = Unit {0}} {names = []} {more = words.circuit ∷ []} _ _ _ (λ x. c.in_ok-text.text.now) _ tt _ (λ files. chosen_text found.circuit) (after_text words)
    (reads_nothing {X = Unit {0}} _ (λ x. c.in_ok-text.text.now) (Ok tt) _ c.in_ok-text.ensures)
    c.in_err-agreeing_file-2.ensures)))

pub returns : goal.returns
unfolding checked
returns g c =
    let words = compile_view c.args.names.now in
    let found = compiled_view c.in_ok-found.found in
    reads_then {more = words.cert ∷ words.circuit ∷ []} _ _ _ _ _ _ _ (compiled words) (after_compiled words) c.in_ok-found.ensures.reads
    (reads_then {more = words.circuit ∷ []} _ _ _ _ _ _ _ (agreeing_file certified.Cert found.cert cert_limit words.cert) (after_cert words found) (rw c.deref.ensures.value at c.in_ok-agreeing_file.ensures)
    (reads_then {X = Unit {0}} {names = []} {more = words.circuit ∷ []} _ _ _ (λ x. c.in_ok-text.text.now) _ tt _ (λ files. chosen_text found.circuit) (after_text words)
    (reads_nothing {X = Unit {0}} _ (λ x. c.in_ok-text.text.now) (Ok tt) _ c.in_ok-text.ensures)
    c.in_ok-agreeing_file-2.ensures))
