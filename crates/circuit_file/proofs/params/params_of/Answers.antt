use Rattle.circuit_file.proofs.ParamsBack.{given_kept}
use Rattle.circuit_file.proofs.params.params_of.Goals as goal

pub returns-clause-limits : goal.returns-clause-limits
returns-clause-limits c = given_kept c.laws.ensures.limits c.args.head.now c.params_in.result c.params_in.ensures
