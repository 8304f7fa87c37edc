use Rattle.run_command.proofs.InputLemmas.{are_inputs}
use Rattle.run_command.proofs.inputs.check_inputs.Goals as goal

pub returns-in-Ok-clause-inputs : goal.returns-in-Ok-clause-inputs
returns-in-Ok-clause-inputs c = are_inputs c.laws.ensures.matching c.args.circuit.now c.args.wanted.now c.args.head.now c.args.list.now c.requires.wanted c.in-Ok.ensures c.requires.file
