use Rattle.command_forms.specs.Outcome.{wrote}
use Rattle.command_forms.specs.LeaveLemmas.{leaves_refused, leaves_written}
use Rattle.key_commands.specs.Words.{encrypt_view}
use Rattle.key_commands.specs.Encrypt.{encrypted}
use Rattle.key_commands.proofs.InputLemmas.{read_apart}
use Rattle.key_commands.proofs.HeadlineLemmas.{encrypt_headline}
use Rattle.key_commands.proofs.encrypt.encrypt.Goals as goal

pub returns-in-Ok-clause-outcome : goal.returns-in-Ok-clause-outcome
returns-in-Ok-clause-outcome g c =
    let words = encrypt_view c.args.names.now in
    leaves_written _ _ _ _ _ (encrypted words) (wrote words.cipher) _ _ _ (read_apart words c.requires.distinct) c.in-Ok.ensures.reads (rw c.deref.ensures.value at c.write_file.ensures)

pub returns-in-Err-clause-outcome : goal.returns-in-Err-clause-outcome
returns-in-Err-clause-outcome g c =
    let words = encrypt_view c.args.names.now in
    rw c.from.ensures (leaves_refused _ _ _ _ (encrypted words) (wrote words.cipher) _ _ (read_apart words c.requires.distinct) c.in-Err.ensures.reads)

pub returns-in-Ok-clause-headline : goal.returns-in-Ok-clause-headline
returns-in-Ok-clause-headline g c =
    let words = encrypt_view c.args.names.now in
    encrypt_headline (record { files = c.laws.ensures; ciphertexts = c.laws-2.ensures.ciphers }) words _ _ _
    (leaves_written _ _ _ _ _ (encrypted words) (wrote words.cipher) _ (g.O.Sink.taken c.args.out.now) (g.O.Sink.put_faults c.args.out.now) (read_apart words c.requires.distinct) c.in-Ok.ensures.reads (rw c.deref.ensures.value at c.write_file.ensures))
    c.in-Ok.ensures.gave
