use Rattle.fhe_level.proofs.Values.{value_is, value_before, values_before}
use Rattle.fhe_level.proofs.laws.laws.Goals as goal

pub returns : goal.returns
returns c = record { here = value_is; before = value_before; count = values_before }
