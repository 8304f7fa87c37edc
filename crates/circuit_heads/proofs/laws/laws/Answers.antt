use Rattle.circuit_heads.proofs.OutRanges.{head_laws}
use Rattle.circuit_heads.proofs.laws.laws.Goals as goal

pub returns : goal.returns
returns c = head_laws
