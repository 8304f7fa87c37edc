use Rattle.word_ring.proofs.RoundingParts.{switchings}
use Rattle.word_ring.proofs.rounding.switching_laws.Goals as goal

pub returns : goal.returns
returns _ = switchings
