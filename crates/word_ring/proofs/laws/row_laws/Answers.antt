use Rattle.word_ring.proofs.RowLaws.{laws}
use Rattle.word_ring.proofs.laws.row_laws.Goals as goal

pub returns : goal.returns
returns _ = laws
