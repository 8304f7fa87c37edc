use Rattle.lwe_core.proofs.PhaseSums as phases
use Rattle.lwe_core.proofs.DecodingNear as decoding
use Rattle.lwe_core.proofs.NoiseParts as noise
use Rattle.lwe_core.proofs.Ones.{ones, sizes}
use Rattle.lwe_core.proofs.laws.laws.Goals as goal

pub returns-clause-phases : goal.returns-clause-phases
returns-clause-phases c = phases.laws c.laws.ensures.rows

pub returns-clause-sizes : goal.returns-clause-sizes
returns-clause-sizes c = sizes c.laws.ensures.sizes

pub returns-clause-ones : goal.returns-clause-ones
returns-clause-ones c = ones

pub returns-clause-decoding : goal.returns-clause-decoding
returns-clause-decoding c = decoding.laws c.laws.ensures.sizes c.laws.ensures.signed

pub returns-clause-noise : goal.returns-clause-noise
returns-clause-noise c =
    noise.laws (phases.laws c.laws.ensures.rows) (record { ring = c.laws.ensures.ring; rows = c.laws.ensures.rows; sizes = c.laws.ensures.sizes; signed = c.laws.ensures.signed })
