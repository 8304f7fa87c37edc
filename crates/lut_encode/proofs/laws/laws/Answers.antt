use Rattle.lut_encode.proofs.Lookups.{lookups}
use Rattle.lut_encode.proofs.laws.laws.Goals as goal

pub returns : goal.returns
returns c = record { lookups = lookups c.laws-2.ensures.rotations }
