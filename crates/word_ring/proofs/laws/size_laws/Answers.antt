use Rattle.word_ring.proofs.WordLaws.{sizes}
use Rattle.word_ring.proofs.laws.size_laws.Goals as goal

pub returns : goal.returns
returns _ = sizes
