use Rattle.pattern_pass.proofs.Formed.{formed_laws}
use Rattle.pattern_pass.proofs.laws.laws.Goals as goal

pub returns : goal.returns
returns c = formed_laws c.laws.ensures c.laws-2.ensures c.laws-4.ensures c.laws-3.ensures
