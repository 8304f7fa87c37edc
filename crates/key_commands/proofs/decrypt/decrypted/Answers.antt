use Rattle.std.proofs.Common.{[]}
use Rattle.std.proofs.lemmas.Result.{err_from_is_err_and}
use Rattle.refusals.specs.Reading.{◌>>=◌}
use Rattle.cipher_files.specs.SecretFile.{secret_file}
use Rattle.command_forms.specs.StepLemmas.{reads_refused, reads_then, reads_nothing, of_part}
use Rattle.command_files.specs.Files.{secret_from, cipher_from}
use Rattle.key_commands.specs.Words.{decrypt_view}
use Rattle.key_commands.specs.Decrypt.{decrypted_text, decrypted}
use Rattle.key_commands.proofs.decrypt.decrypted.Goals as goal

pub returns-in_err-digest : goal.returns-in_err-digest
unfolding decrypted
returns-in_err-digest g c =
    let p = err_from_is_err_and c.from_residual.result c.from_residual.ensures.1 in
    let words = decrypt_view c.args.names.now in
    rw (p.1, p.2) (reads_refused _ _ _ _ _ _ (secret_from words.secret) (λ files secret. cipher_from words.output files >>= decrypted_text secret) c.in_err-digest.ensures.reads)

pub returns-in_err-head : goal.returns-in_err-head
unfolding decrypted
returns-in_err-head g c =
    let p = err_from_is_err_and c.from_residual-in_err-head.result c.from_residual-in_err-head.ensures.1 in
    let words = decrypt_view c.args.names.now in
    let secret = secret_file c.in_ok-digest.digest c.in_ok-digest.secret.small c.in_ok-digest.secret.big in
    rw (p.1, p.2) (reads_then _ _ _ _ _ _ _ (secret_from words.secret) (λ files secret. cipher_from words.output files >>= decrypted_text secret) c.in_ok-digest.ensures.reads
    (reads_refused [] _ _ _ _ _ (cipher_from words.output) (λ files. decrypted_text secret) c.in_err-head.ensures.reads))

pub returns-in_err-decrypted_text : goal.returns-in_err-decrypted_text
unfolding decrypted
returns-in_err-decrypted_text g c =
    let p = err_from_is_err_and c.from_residual-in_err-decrypted_text.result c.from_residual-in_err-decrypted_text.ensures.1 in
    let words = decrypt_view c.args.names.now in
    let secret = secret_file c.in_ok-digest.digest c.in_ok-digest.secret.small c.in_ok-digest.secret.big in
    rw (p.1, p.2) (reads_then _ _ _ _ _ _ _ (secret_from words.secret) (λ files secret. cipher_from words.output files >>= decrypted_text secret) c.in_ok-digest.ensures.reads
    (reads_then {more = []} _ _ _ _ _ _ _ (cipher_from words.output) (λ files. decrypted_text secret) c.in_ok-head.ensures.reads
    (reads_nothing _ _ _ _ (of_part _ _ (rw c.deref.ensures.value at c.in_err-decrypted_text.ensures)))))

pub returns : goal.returns
unfolding decrypted
returns g c =
    let words = decrypt_view c.args.names.now in
    let secret = secret_file c.in_ok-digest.digest c.in_ok-digest.secret.small c.in_ok-digest.secret.big in
    reads_then _ _ _ _ _ _ _ (secret_from words.secret) (λ files secret. cipher_from words.output files >>= decrypted_text secret) c.in_ok-digest.ensures.reads
    (reads_then {more = []} _ _ _ _ _ _ _ (cipher_from words.output) (λ files. decrypted_text secret) c.in_ok-head.ensures.reads
    (reads_nothing _ _ _ _ (rw c.deref.ensures.value at c.in_ok-decrypted_text.ensures)))
