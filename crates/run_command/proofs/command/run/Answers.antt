use Rattle.std.proofs.Common.{◌≡◌, sym, subst, ◌∙◌}
use Rattle.port_store.specs.Files.{Bytes}
use Rattle.command_forms.specs.declared.fault.Fault.{Fault}
use Rattle.command_forms.specs.Outcome.{wrote}
use Rattle.command_forms.specs.StepLemmas.{read_told}
use Rattle.command_forms.specs.DoneLemmas.{ok_is}
use Rattle.command_forms.specs.LeaveLemmas.{leaves_refused, leaves_written}
use Rattle.run_command.specs.Words.{run_view}
use Rattle.run_command.specs.Run.{run_output}
use Rattle.run_command.specs.Found.{GaveOutput}
use Rattle.run_command.proofs.RunLemmas.{read_apart, headline}
use Rattle.run_command.proofs.command.run.Goals as goal

pub returns-in-Ok-clause-outcome : goal.returns-in-Ok-clause-outcome
returns-in-Ok-clause-outcome g c =
    let words = run_view c.args.names.now in
    leaves_written _ _ _ _ _ (run_output words) (wrote words.output) _ _ _ (read_apart words c.requires.distinct) c.in-Ok.ensures.reads (rw c.deref.ensures.value at c.write_file.ensures)

pub returns-in-Ok-clause-headline : goal.returns-in-Ok-clause-headline
returns-in-Ok-clause-headline g c =
    let words = run_view c.args.names.now in
    let apart = read_apart words c.requires.distinct in
    headline (record { files = c.laws.ensures; texts = c.laws-2.ensures; ciphertexts = c.laws-3.ensures.ciphers; heads = c.laws-4.ensures; noise = c.laws-5.ensures.noise }) words _ _ _
    (leaves_written _ _ _ _ _ (run_output words) (wrote words.output) _ (g.O.Sink.taken c.args.out.now) (g.O.Sink.put_faults c.args.out.now) apart c.in-Ok.ensures.reads (rw c.deref.ensures.value at c.write_file.ensures))
    (λ files bytes told e. subst (GaveOutput words files) (ok_is {F = Fault} c.in-Ok.bytes.items bytes (sym (read_told _ _ _ _ (run_output words) c.in-Ok.ensures.reads apart files told) ∙ e)) (c.in-Ok.ensures.gave files told))

pub returns-in-Err-clause-outcome : goal.returns-in-Err-clause-outcome
returns-in-Err-clause-outcome g c =
    let words = run_view c.args.names.now in
    rw c.from.ensures (leaves_refused _ _ _ _ (run_output words) (wrote words.output) _ _ (read_apart words c.requires.distinct) c.in-Err.ensures.reads)
