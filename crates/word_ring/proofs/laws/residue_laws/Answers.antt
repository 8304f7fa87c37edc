use Rattle.word_ring.proofs.WordLaws.{residues}
use Rattle.word_ring.proofs.laws.residue_laws.Goals as goal

pub returns : goal.returns
returns _ = residues
