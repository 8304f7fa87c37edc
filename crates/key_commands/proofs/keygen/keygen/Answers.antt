use Rattle.command_forms.specs.LeaveLemmas.{leaves_refused, leaves_written}
use Rattle.key_commands.specs.Words.{keygen_view}
use Rattle.key_commands.specs.Keygen.{generated, wrote_keys}
use Rattle.key_commands.proofs.KeyFacts.{read_alone}
use Rattle.key_commands.proofs.HeadlineLemmas.{keygen_headline}
use Rattle.key_commands.proofs.keygen.keygen.Goals as goal

pub returns-in-Ok-clause-outcome : goal.returns-in-Ok-clause-outcome
returns-in-Ok-clause-outcome g c =
    let words = keygen_view c.args.names.now in
    leaves_written _ _ _ _ _ (generated words) (wrote_keys words) _ _ _ (read_alone words c.requires.distinct) c.in-Ok.ensures.reads c.write_keys.ensures

pub returns-in-Err-clause-outcome : goal.returns-in-Err-clause-outcome
returns-in-Err-clause-outcome g c =
    let words = keygen_view c.args.names.now in
    rw c.from.ensures (leaves_refused _ _ _ _ (generated words) (wrote_keys words) _ _ (read_alone words c.requires.distinct) c.in-Err.ensures.reads)

pub returns-in-Ok-clause-headline : goal.returns-in-Ok-clause-headline
returns-in-Ok-clause-headline g c =
    let words = keygen_view c.args.names.now in
    keygen_headline (record { files = c.laws.ensures; secrets = c.laws-2.ensures.secrets; evals = c.laws-2.ensures.evals }) words _ _ _ c.requires.distinct
    (leaves_written _ _ _ _ _ (generated words) (wrote_keys words) _ (g.O.Sink.taken c.args.out.now) (g.O.Sink.put_faults c.args.out.now) (read_alone words c.requires.distinct) c.in-Ok.ensures.reads c.write_keys.ensures)
    c.in-Ok.ensures.gave
