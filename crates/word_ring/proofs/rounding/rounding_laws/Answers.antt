use Rattle.word_ring.proofs.RoundingParts.{roundings}
use Rattle.word_ring.proofs.rounding.rounding_laws.Goals as goal

pub returns : goal.returns
returns _ = roundings
