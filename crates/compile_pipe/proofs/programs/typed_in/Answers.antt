use Rattle.compile_pipe.proofs.programs.typed_in.Goals as goal

pub returns-in-Ok-clause-checked : goal.returns-in-Ok-clause-checked
returns-in-Ok-clause-checked c = c.checked.ensures.checked c.args.source.now c.in-Ok.program c.requires.rules c.requires.within c.in-Ok.ensures
