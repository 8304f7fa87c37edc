use Rattle.std.proofs.Common.{◌≡◌, [], Ok, Err, false, true, sym, ap, ◌∙◌, refl}
use Rattle.std.proofs.lemmas.Result.{err_from_is_err_and}
use Rattle.command_forms.specs.declared.fault.Fault.TheVariants as fault
use Rattle.command_forms.specs.declared.fault.StepRefusal.TheVariants as refusal
use Rattle.command_forms.specs.StepLemmas.{reads_refused, reads_then, reads_nothing, read_told}
use Rattle.command_files.specs.Files.{fits_eval, circuit_from}
use Rattle.key_commands.specs.Words.{keygen_view}
use Rattle.key_commands.specs.Keygen.{KeyFiles, generated}
use Rattle.key_commands.proofs.KeyFacts.{after_circuit}
use Rattle.key_commands.proofs.keygen.generated.Goals as goal

pub returns-in_err-circuit-clause-reads : goal.returns-in_err-circuit-clause-reads
unfolding generated
returns-in_err-circuit-clause-reads g c =
    let p = err_from_is_err_and c.from_residual.result c.from_residual.ensures.1 in
    let words = keygen_view c.args.names.now in
    rw (p.1, p.2) (reads_refused [] _ _ _ _ _ (circuit_from words.circuit) (after_circuit words) c.in_err-circuit.ensures.reads)

pub returns-then-not-fits_eval-clause-reads : goal.returns-then-not-fits_eval-clause-reads
unfolding generated
returns-then-not-fits_eval-clause-reads g c =
    let words = keygen_view c.args.names.now in
    let unfit : fits_eval c.in_ok-circuit.circuit words.eval ≡ false = sym c.fits_eval.ensures ∙ c.if-not-fits_eval.true in
    reads_then {more = []} _ _ _ _ _ _ _ (circuit_from words.circuit) (after_circuit words) c.in_ok-circuit.ensures.reads
    (rw unfit (reads_nothing _ _ (Err (refusal.Fault fault.Usage)) (Err fault.Usage) refl))

pub returns-in-Ok-clause-reads : goal.returns-in-Ok-clause-reads
unfolding generated
returns-in-Ok-clause-reads g c =
    let words = keygen_view c.args.names.now in
    let fits : fits_eval c.in_ok-circuit.circuit words.eval ≡ true = sym c.fits_eval.ensures ∙ c.if-not-fits_eval.false in
    reads_then {more = []} _ _ _ _ _ _ _ (circuit_from words.circuit) (after_circuit words) c.in_ok-circuit.ensures.reads
    (rw fits (reads_nothing _ _ _ _ (ap (λ (keys : KeyFiles). Ok keys) (sym c.in-Ok.ensures.spelled))))

pub returns-in-Ok-clause-gave : goal.returns-in-Ok-clause-gave
returns-in-Ok-clause-gave g c = λ files told. record {
  circuit = c.in_ok-circuit.circuit;
  rules = c.in_ok-circuit.ensures.rules;
  circuit_read = read_told _ _ _ _ (circuit_from (keygen_view c.args.names.now).circuit) c.in_ok-circuit.ensures.reads refl files told;
  needs = sym c.fits_eval.ensures ∙ c.if-not-fits_eval.false;
  are_files = c.in-Ok.ensures.valid;
}
