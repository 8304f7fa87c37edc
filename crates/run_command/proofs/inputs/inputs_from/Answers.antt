use Rattle.std.proofs.Common.{[], Ok, refl}
use Rattle.std.proofs.lemmas.Result.{err_from_is_err_and}
use Rattle.cipher_files.specs.CipherFile.{CipherFile, file_of}
use Rattle.command_forms.specs.StepLemmas.{reads_refused, reads_then, reads_nothing, of_part}
use Rattle.command_files.specs.Files.{cipher_from}
use Rattle.run_command.specs.Run.{fitting_inputs, inputs_from}
use Rattle.run_command.proofs.RunLemmas.{after_file}
use Rattle.run_command.proofs.inputs.inputs_from.Goals as goal

pub returns-in_err-head-clause-reads : goal.returns-in_err-head-clause-reads
unfolding inputs_from
returns-in_err-head-clause-reads g c =
    let p = err_from_is_err_and c.from_residual.result c.from_residual.ensures.1 in
    rw (p.1, p.2) (reads_refused [] _ _ _ _ _ (cipher_from c.args.name.now) (λ files. after_file c.args.circuit.now) c.in_err-head.ensures.reads)

pub returns-in_err-check_inputs-clause-reads : goal.returns-in_err-check_inputs-clause-reads
unfolding inputs_from
returns-in_err-check_inputs-clause-reads g c =
    let p = err_from_is_err_and c.from_residual-in_err-check_inputs.result c.from_residual-in_err-check_inputs.ensures.1 in
    let circuit = c.args.circuit.now in
    let file = file_of c.in_ok-head.head c.in_ok-head.list.items in
    rw (p.1, p.2) (reads_then {more = []} _ _ _ _ _ _ _ (cipher_from c.args.name.now) (λ files. after_file circuit) c.in_ok-head.ensures.reads
    (reads_refused {X = Unit {0}} [] _ _ (λ x. file) _ _ (λ files. fitting_inputs circuit file) (λ files (found : CipherFile). Ok found.ciphertexts) (reads_nothing {X = Unit {0}} {names = []} _ (λ x. file) _ (fitting_inputs circuit file) (of_part _ _ (rw c.deref.ensures.value at c.in_err-check_inputs.ensures.exact)))))

pub returns-clause-reads : goal.returns-clause-reads
unfolding inputs_from
returns-clause-reads g c =
    let circuit = c.args.circuit.now in
    let file = file_of c.in_ok-head.head c.in_ok-head.list.items in
    reads_then {more = []} _ _ _ _ _ _ _ (cipher_from c.args.name.now) (λ files. after_file circuit) c.in_ok-head.ensures.reads
    (reads_then {X = Unit {0}} {names = []} {more = []} _ _ _ (λ x. file) _ tt _ (λ files. fitting_inputs circuit file) (λ files (found : CipherFile). Ok found.ciphertexts) (reads_nothing {X = Unit {0}} {names = []} _ (λ x. file) (Ok tt) (fitting_inputs circuit file) (rw c.deref.ensures.value at c.in_ok-check_inputs.ensures.exact))
    (reads_nothing _ _ _ _ refl))
