use Rattle.noise_model.proofs.Comparisons.{none_where_met}
use Rattle.noise_model.proofs.constraints.first_broken.Goals as goal

pub returns-clause-none : goal.returns-clause-none
returns-clause-none c = none_where_met c.args.params.now c.args.shape.now c.constraint_over.result c.constraint_over.ensures
