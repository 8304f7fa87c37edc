use Rattle.noise_model.specs.Constraints.{first_broken_of}
use Rattle.noise_model.proofs.Comparisons.{none_where_met}
use Rattle.noise_model.proofs.laws.laws.Goals as goal
use Rattle.std.proofs.Common.{refl}

pub returns : goal.returns
returns c = record { none = λ p shape. none_where_met p shape (first_broken_of p shape) refl }
