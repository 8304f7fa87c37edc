use Rattle.forms.proofs.FormRanges.{leaf_in, form_in}
use Rattle.forms.proofs.Corners.{least_reached, greatest_reached}
use Rattle.forms.proofs.laws.laws.Goals as goal

pub returns : goal.returns
returns c = record { leaf = leaf_in; form = form_in; least_reached = least_reached; greatest_reached = greatest_reached }
