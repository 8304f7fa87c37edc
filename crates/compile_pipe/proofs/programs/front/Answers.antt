use Rattle.compile_pipe.proofs.programs.front.Goals as goal

pub returns-clause-clear : goal.returns-clause-clear
returns-clause-clear c = c.laws.ensures.clear c.args.program.now c.in_ok-front.front c.in_ok-front.ensures.exact
