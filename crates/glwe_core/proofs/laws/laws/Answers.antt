use Rattle.glwe_core.proofs.GlweShapes as shapes
use Rattle.glwe_core.proofs.GlwePhases as phases
use Rattle.glwe_core.proofs.GlweSizes as sizes
use Rattle.glwe_core.proofs.ExtractedPhase as extraction
use Rattle.glwe_core.proofs.laws.laws.Goals as goal

pub returns-clause-shapes : goal.returns-clause-shapes
returns-clause-shapes c = shapes.laws c.laws-3.ensures.products c.laws-3.ensures.rotations

pub returns-clause-phases : goal.returns-clause-phases
returns-clause-phases c = phases.laws (record { rows = c.laws.ensures.row_ring; products = c.laws-3.ensures.products; rotations = c.laws-3.ensures.rotations })

pub returns-clause-sizes : goal.returns-clause-sizes
returns-clause-sizes c = sizes.laws (record { rows = c.laws.ensures.row_sizes; ones = c.laws-2.ensures.ones; products = c.laws-3.ensures.sizes })

pub returns-clause-extraction : goal.returns-clause-extraction
returns-clause-extraction c = extraction.laws c.laws.ensures.rows c.laws-3.ensures.products
