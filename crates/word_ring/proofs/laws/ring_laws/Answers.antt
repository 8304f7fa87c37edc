use Rattle.word_ring.proofs.WordLaws.{ring}
use Rattle.word_ring.proofs.laws.ring_laws.Goals as goal

pub returns : goal.returns
returns _ = ring
