use Rattle.std.proofs.Common.{◌≡◌, [], ◌∷◌, ◌++◌, Ok, Err, false, true, sym, ap, ◌∙◌, refl}
use Rattle.std.proofs.lemmas.Result.{err_from_is_err_and}
use Rattle.port_store.specs.Files.{Bytes}
use Rattle.command_forms.specs.declared.fault.Fault.TheVariants as fault
use Rattle.command_forms.specs.declared.fault.StepRefusal.TheVariants as refusal
use Rattle.command_forms.specs.StepLemmas.{reads_refused, reads_then, reads_nothing, read_told}
use Rattle.command_files.specs.Files.{fits_eval, eval_files, circuit_from}
use Rattle.run_command.specs.Words.{run_view}
use Rattle.run_command.specs.Run.{keys_view, keys_from, inputs_from, run_output}
use Rattle.run_command.proofs.RunLemmas.{after_circuit, after_keys, bytes_of, eval_apart}
use Rattle.run_command.proofs.command.run_output.Goals as goal

pub returns-in_err-circuit-clause-reads : goal.returns-in_err-circuit-clause-reads
unfolding run_output
returns-in_err-circuit-clause-reads g c =
    let p = err_from_is_err_and c.from_residual.result c.from_residual.ensures.1 in
    let words = run_view c.args.names.now in
    rw (p.1, p.2) (reads_refused (eval_files words.eval ++ words.cipher ∷ []) _ _ _ _ _ (circuit_from words.circuit) (after_circuit words) c.in_err-circuit.ensures.reads)

pub returns-then-not-fits_eval-clause-reads : goal.returns-then-not-fits_eval-clause-reads
unfolding run_output
returns-then-not-fits_eval-clause-reads g c =
    let words = run_view c.args.names.now in
    let unfit : fits_eval c.in_ok-circuit.circuit words.eval ≡ false = sym c.fits_eval.ensures ∙ c.if-not-fits_eval.true in
    reads_then {more = eval_files words.eval ++ words.cipher ∷ []} _ _ _ _ _ _ _ (circuit_from words.circuit) (after_circuit words) c.in_ok-circuit.ensures.reads
    (rw unfit (reads_nothing _ _ (Err (refusal.Fault fault.Usage)) (Err fault.Usage) refl))

pub returns-in_err-keys-clause-reads : goal.returns-in_err-keys-clause-reads
unfolding run_output
returns-in_err-keys-clause-reads g c =
    let p = err_from_is_err_and c.from_residual-in_err-keys.result c.from_residual-in_err-keys.ensures.1 in
    let words = run_view c.args.names.now in
    let circuit = c.in_ok-circuit.circuit in
    let fits : fits_eval circuit words.eval ≡ true = sym c.fits_eval.ensures ∙ c.if-not-fits_eval.false in
    rw (p.1, p.2) (reads_then {more = eval_files words.eval ++ words.cipher ∷ []} _ _ _ _ _ _ _ (circuit_from words.circuit) (after_circuit words) c.in_ok-circuit.ensures.reads
    (rw fits (reads_refused (words.cipher ∷ []) _ _ _ _ _ (keys_from circuit words.eval) (after_keys words circuit) c.in_err-keys.ensures.reads)))

pub returns-in_err-inputs-clause-reads : goal.returns-in_err-inputs-clause-reads
unfolding run_output
returns-in_err-inputs-clause-reads g c =
    let p = err_from_is_err_and c.from_residual-in_err-inputs.result c.from_residual-in_err-inputs.ensures.1 in
    let words = run_view c.args.names.now in
    let circuit = c.in_ok-circuit.circuit in
    let keys = keys_view c.in_ok-keys.keys in
    let fits : fits_eval circuit words.eval ≡ true = sym c.fits_eval.ensures ∙ c.if-not-fits_eval.false in
    rw (p.1, p.2) (reads_then {more = eval_files words.eval ++ words.cipher ∷ []} _ _ _ _ _ _ _ (circuit_from words.circuit) (after_circuit words) c.in_ok-circuit.ensures.reads
    (rw fits (reads_then _ _ _ _ _ _ _ (keys_from circuit words.eval) (after_keys words circuit) c.in_ok-keys.ensures.reads
    (reads_refused [] _ _ _ _ _ (inputs_from circuit words.cipher) (λ files. bytes_of circuit keys) c.in_err-inputs.ensures.reads))))

pub returns-in-Ok-output_bytes-clause-reads : goal.returns-in-Ok-output_bytes-clause-reads
unfolding run_output
returns-in-Ok-output_bytes-clause-reads g c =
    let words = run_view c.args.names.now in
    let circuit = c.in_ok-circuit.circuit in
    let keys = keys_view c.in_ok-keys.keys in
    let fits : fits_eval circuit words.eval ≡ true = sym c.fits_eval.ensures ∙ c.if-not-fits_eval.false in
    reads_then {more = eval_files words.eval ++ words.cipher ∷ []} _ _ _ _ _ _ _ (circuit_from words.circuit) (after_circuit words) c.in_ok-circuit.ensures.reads
    (rw fits (reads_then _ _ _ _ _ _ _ (keys_from circuit words.eval) (after_keys words circuit) c.in_ok-keys.ensures.reads
    (reads_then {more = []} _ _ _ _ _ _ _ (inputs_from circuit words.cipher) (λ files. bytes_of circuit keys) c.in_ok-inputs.ensures.reads
    (reads_nothing _ _ _ _ (ap (λ (bytes : Bytes). Ok bytes) (sym (rw c.deref.ensures.value at c.in-Ok-output_bytes.ensures.spelled)))))))

pub returns-in-Ok-output_bytes-clause-gave : goal.returns-in-Ok-output_bytes-clause-gave
returns-in-Ok-output_bytes-clause-gave g c = λ files told.
    let words = run_view c.args.names.now in
    let circuit = c.in_ok-circuit.circuit in
    let keys = keys_view c.in_ok-keys.keys in
    let middle = c.in_ok-circuit.ensures.reads.files_stay ∙ told in
    let later = c.in_ok-keys.ensures.reads.files_stay ∙ middle in
    record {
      circuit = circuit;
      rules = c.in_ok-circuit.ensures.rules;
      circuit_read = read_told _ _ _ _ (circuit_from words.circuit) c.in_ok-circuit.ensures.reads refl files told;
      needs = sym c.fits_eval.ensures ∙ c.if-not-fits_eval.false;
      keys = keys;
      keys_read = read_told _ _ _ _ (keys_from circuit words.eval) c.in_ok-keys.ensures.reads (eval_apart words.eval) files middle;
      inputs = c.in_ok-inputs.inputs.items;
      inputs_read = read_told _ _ _ _ (inputs_from circuit words.cipher) c.in_ok-inputs.ensures.reads refl files later;
      is_file = rw c.deref.ensures.value at c.in-Ok-output_bytes.ensures.valid;
      spelled = rw c.deref.ensures.value at c.in-Ok-output_bytes.ensures.spelled;
      within = c.in-Ok-output_bytes.ensures.size;
    }
