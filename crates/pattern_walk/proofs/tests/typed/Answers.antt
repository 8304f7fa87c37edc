use Rattle.pattern_walk.proofs.tests.typed.Goals as goal

pub returns-in-Ok : goal.returns-in-Ok
returns-in-Ok c = c.checked.ensures.checked c.args.source.now c.in-Ok.program c.requires.rules c.requires.within c.in-Ok.ensures
