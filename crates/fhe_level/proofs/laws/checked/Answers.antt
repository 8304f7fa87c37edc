use Rattle.fhe_level.proofs.Checked as proved
use Rattle.fhe_level.proofs.laws.checked.Goals as goal

pub returns : goal.returns
returns c = record { checked = proved.checked c.laws.ensures }
