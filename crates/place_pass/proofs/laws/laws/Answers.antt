use Rattle.place_pass.proofs.Values.{values_same, inputs_same}
use Rattle.place_pass.proofs.Shapes.{nodes_keep, least_width}
use Rattle.place_pass.proofs.laws.laws.Goals as goal

pub returns : goal.returns
returns c = record { values = values_same; inputs = inputs_same; nodes = nodes_keep; width = least_width }
