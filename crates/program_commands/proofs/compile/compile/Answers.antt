use Rattle.std.proofs.Common.{sym, subst, ◌∙◌}
use Rattle.command_forms.specs.declared.fault.Fault.{Fault}
use Rattle.command_forms.specs.StepLemmas.{read_told}
use Rattle.command_forms.specs.DoneLemmas.{ok_is}
use Rattle.command_forms.specs.LeaveLemmas.{leaves_refused, leaves_written}
use Rattle.compile_pipe.specs.Back.{compiled_view}
use Rattle.program_commands.specs.Words.{compile_view}
use Rattle.program_commands.specs.Compile.{compiled, wrote_compiled}
use Rattle.program_commands.specs.Found.{GaveCompiled}
use Rattle.program_commands.proofs.Names.{read_apart, written_apart}
use Rattle.program_commands.proofs.Compiled.{headline}
use Rattle.program_commands.proofs.compile.compile.Goals as goal

pub returns-in-Ok-clause-outcome : goal.returns-in-Ok-clause-outcome
returns-in-Ok-clause-outcome g c =
    let words = compile_view c.args.names.now in
    leaves_written _ _ _ _ _ (compiled words) (wrote_compiled words) _ _ _ (read_apart words c.requires.distinct) c.in-Ok.ensures.reads c.write_compiled.ensures

pub returns-in-Ok-clause-headline : goal.returns-in-Ok-clause-headline
returns-in-Ok-clause-headline g c =
    let words = compile_view c.args.names.now in
    let apart = read_apart words c.requires.distinct in
    headline (record { files = c.laws.ensures; tables = c.laws-2.ensures.tables; search = c.laws-3.ensures.search; programs = c.laws-5.ensures }) words _ _ _ (written_apart words c.requires.distinct)
    (leaves_written _ _ _ _ _ (compiled words) (wrote_compiled words) _ (g.O.Sink.taken c.args.out.now) (g.O.Sink.put_faults c.args.out.now) apart c.in-Ok.ensures.reads c.write_compiled.ensures)
    (λ files found told e. subst (GaveCompiled words files) (ok_is {F = Fault} (compiled_view c.in-Ok.found) found (sym (read_told _ _ _ _ (compiled words) c.in-Ok.ensures.reads apart files told) ∙ e)) (c.in-Ok.ensures.gave files told))

pub returns-in-Err-clause-outcome : goal.returns-in-Err-clause-outcome
returns-in-Err-clause-outcome g c =
    let words = compile_view c.args.names.now in
    rw c.from.ensures (leaves_refused _ _ _ _ (compiled words) (wrote_compiled words) _ _ (read_apart words c.requires.distinct) c.in-Err.ensures.reads)
