use Rattle.std.proofs.Common.{sym, subst}
use Rattle.ggsw_core.proofs.Steps.{from_zeros}
use Rattle.ggsw_core.specs.Noise.{MultipliesPhase}
use Rattle.ggsw_core.proofs.products.external_into.Goals as goal

pub returns-clause-words : goal.returns-clause-words
returns-clause-words c =
    cc
    (from_zeros (record { rows = c.laws.ensures.rows; ring = c.laws.ensures.row_ring; totals = c.laws.ensures.row_totals; products = c.laws-2.ensures.products })
    c.args.g.now c.args.c.now c.args.out.now (record { is = c.known-2.ensures; rows = c.requires.rows; shape = c.known.ensures.shape }) c.requires.out)

pub returns-clause-noise : goal.returns-clause-noise
returns-clause-noise c = subst (MultipliesPhase c.args.g.now c.args.c.now) (sym (returns-clause-words c)) (c.laws-3.ensures.noise.external_noise c.args.g.now c.args.c.now)
