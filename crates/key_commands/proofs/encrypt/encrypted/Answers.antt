use Rattle.std.proofs.Common.{[], ◌∷◌, Ok, ap, sym, refl, arith, ◌∙◌}
use Rattle.std.proofs.lemmas.Result.{err_from_is_err_and}
use Rattle.port_store.specs.Files.{Bytes}
use Rattle.tfhe_level.specs.Nodes.{nodes_of}
use Rattle.tfhe_level.specs.Laws.{input_ranges}
use Rattle.cipher_files.specs.SecretFile.{secret_file}
use Rattle.command_forms.specs.StepLemmas.{reads_refused, reads_then, reads_nothing, of_part, read_told}
use Rattle.command_files.specs.Files.{circuit_from, secret_from, values_from}
use Rattle.key_commands.specs.Words.{encrypt_view}
use Rattle.key_commands.specs.Encrypt.{fitting_secret, encrypted}
use Rattle.key_commands.proofs.InputLemmas.{after_circuit, after_secret, after_fitting, bytes_of, fits_alone}
use Rattle.key_commands.proofs.encrypt.encrypted.Goals as goal

pub values_from-requires : goal.values_from-requires
values_from-requires g c =
    let few = (c.laws.ensures.input_limits c.in_ok-circuit.circuit c.in_ok-circuit.ensures.rules).number.most in
    rw (c.as_slice.ensures, c.in-Ok.ensures) (omega (arith, few))

pub returns-in_err-circuit-clause-reads : goal.returns-in_err-circuit-clause-reads
unfolding encrypted
returns-in_err-circuit-clause-reads g c =
    let p = err_from_is_err_and c.from_residual.result c.from_residual.ensures.1 in
    let words = encrypt_view c.args.names.now in
    rw (p.1, p.2) (reads_refused _ _ _ _ _ _ (circuit_from words.circuit) (after_circuit words) c.in_err-circuit.ensures.reads)

pub returns-in_err-digest-clause-reads : goal.returns-in_err-digest-clause-reads
unfolding encrypted
returns-in_err-digest-clause-reads g c =
    let p = err_from_is_err_and c.from_residual-in_err-digest.result c.from_residual-in_err-digest.ensures.1 in
    let words = encrypt_view c.args.names.now in
    let circuit = c.in_ok-circuit.circuit in
    rw (p.1, p.2) (reads_then _ _ _ _ _ _ _ (circuit_from words.circuit) (after_circuit words) c.in_ok-circuit.ensures.reads
    (reads_refused (words.values ∷ []) _ _ _ _ _ (secret_from words.secret) (after_secret words circuit) c.in_err-digest.ensures.reads))

pub returns-in_err-check_secret-clause-reads : goal.returns-in_err-check_secret-clause-reads
unfolding encrypted
returns-in_err-check_secret-clause-reads g c =
    let p = err_from_is_err_and c.from_residual-in_err-check_secret.result c.from_residual-in_err-check_secret.ensures.1 in
    let words = encrypt_view c.args.names.now in
    let circuit = c.in_ok-circuit.circuit in
    let secret = secret_file c.in_ok-digest.digest c.in_ok-digest.secret.small c.in_ok-digest.secret.big in
    rw (p.1, p.2) (reads_then _ _ _ _ _ _ _ (circuit_from words.circuit) (after_circuit words) c.in_ok-circuit.ensures.reads
    (reads_then _ _ _ _ _ _ _ (secret_from words.secret) (after_secret words circuit) c.in_ok-digest.ensures.reads
    (reads_refused {X = Unit {0}} (words.values ∷ []) _ _ (λ x. secret) _ _ (λ files. fitting_secret circuit secret) (after_fitting words circuit) (reads_nothing {X = Unit {0}} {names = []} _ (λ x. secret) _ (fitting_secret circuit secret) (of_part _ _ c.in_err-check_secret.ensures.exact)))))

pub returns-in_err-values-clause-reads : goal.returns-in_err-values-clause-reads
unfolding encrypted
returns-in_err-values-clause-reads g c =
    let p = err_from_is_err_and c.from_residual-in_err-values.result c.from_residual-in_err-values.ensures.1 in
    let words = encrypt_view c.args.names.now in
    let circuit = c.in_ok-circuit.circuit in
    let ranges = input_ranges (nodes_of circuit.shape) in
    let secret = secret_file c.in_ok-digest.digest c.in_ok-digest.secret.small c.in_ok-digest.secret.big in
    rw (p.1, p.2) (reads_then _ _ _ _ _ _ _ (circuit_from words.circuit) (after_circuit words) c.in_ok-circuit.ensures.reads
    (reads_then _ _ _ _ _ _ _ (secret_from words.secret) (after_secret words circuit) c.in_ok-digest.ensures.reads
    (reads_then {X = Unit {0}} {names = []} _ _ _ (λ x. secret) _ tt _ (λ files. fitting_secret circuit secret) (after_fitting words circuit) (reads_nothing {X = Unit {0}} {names = []} _ (λ x. secret) (Ok tt) (fitting_secret circuit secret) c.in_ok-check_secret.ensures.exact)
    (reads_refused [] _ _ _ _ _ (values_from ranges words.values) (λ files. bytes_of words circuit secret) (rw (c.as_slice.ensures, c.in-Ok.ensures) at c.in_err-values.ensures.reads)))))

pub returns-in-Ok-input_bytes-clause-reads : goal.returns-in-Ok-input_bytes-clause-reads
unfolding encrypted
returns-in-Ok-input_bytes-clause-reads g c =
    let words = encrypt_view c.args.names.now in
    let circuit = c.in_ok-circuit.circuit in
    let ranges = input_ranges (nodes_of circuit.shape) in
    let secret = secret_file c.in_ok-digest.digest c.in_ok-digest.secret.small c.in_ok-digest.secret.big in
    reads_then _ _ _ _ _ _ _ (circuit_from words.circuit) (after_circuit words) c.in_ok-circuit.ensures.reads
    (reads_then _ _ _ _ _ _ _ (secret_from words.secret) (after_secret words circuit) c.in_ok-digest.ensures.reads
    (reads_then {X = Unit {0}} {names = []} _ _ _ (λ x. secret) _ tt _ (λ files. fitting_secret circuit secret) (after_fitting words circuit) (reads_nothing {X = Unit {0}} {names = []} _ (λ x. secret) (Ok tt) (fitting_secret circuit secret) c.in_ok-check_secret.ensures.exact)
    (reads_then {more = []} _ _ _ _ _ _ _ (values_from ranges words.values) (λ files. bytes_of words circuit secret) (rw (c.as_slice.ensures, c.in-Ok.ensures) at c.in_ok-values.ensures.reads)
    (reads_nothing _ _ _ _ (ap (λ (bytes : Bytes). Ok bytes) (sym (rw c.deref.ensures.value at c.in-Ok-input_bytes.ensures.spelled)))))))

pub returns-in-Ok-input_bytes-clause-gave : goal.returns-in-Ok-input_bytes-clause-gave
returns-in-Ok-input_bytes-clause-gave g c = λ files told.
    let words = encrypt_view c.args.names.now in
    let circuit = c.in_ok-circuit.circuit in
    let ranges = input_ranges (nodes_of circuit.shape) in
    let middle = c.in_ok-circuit.ensures.reads.files_stay ∙ told in
    let later = c.in_ok-digest.ensures.reads.files_stay ∙ middle in
    record {
      circuit = circuit;
      rules = c.in_ok-circuit.ensures.rules;
      circuit_read = read_told _ _ _ _ (circuit_from words.circuit) c.in_ok-circuit.ensures.reads refl files told;
      keys = secret_file c.in_ok-digest.digest c.in_ok-digest.secret.small c.in_ok-digest.secret.big;
      keys_read = read_told _ _ _ _ (secret_from words.secret) c.in_ok-digest.ensures.reads refl files middle;
      fitting = fits_alone circuit (secret_file c.in_ok-digest.digest c.in_ok-digest.secret.small c.in_ok-digest.secret.big) c.in_ok-check_secret.ensures.exact;
      numbers = c.in_ok-values.values.items;
      numbers_read = read_told _ _ _ _ (values_from ranges words.values) (rw (c.as_slice.ensures, c.in-Ok.ensures) at c.in_ok-values.ensures.reads) refl files later;
      within = rw (c.as_slice.ensures, c.in-Ok.ensures) at c.in_ok-values.ensures.within;
      is_file = rw c.deref.ensures.value at c.in-Ok-input_bytes.ensures.valid;
    }
