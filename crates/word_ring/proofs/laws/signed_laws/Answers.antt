use Rattle.word_ring.proofs.SignedParts.{laws}
use Rattle.word_ring.proofs.laws.signed_laws.Goals as goal

pub returns : goal.returns
returns _ = laws
