use Rattle.live_patterns.proofs.Results.{values_same, inputs_same}
use Rattle.live_patterns.proofs.Keeping.{rules_stay}
use Rattle.live_patterns.proofs.laws.laws.Goals as goal

pub returns : goal.returns
returns c = record { values = values_same; inputs = inputs_same; rules = rules_stay }
