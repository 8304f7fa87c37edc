use Rattle.std.proofs.Common.{◌≡◌, List, ℕ, length, ap, ◌∙◌}
use Rattle.word_ring.specs.Rows.{row_difference}
use Rattle.glwe_core.specs.Glwe.{mask_sum}
use Rattle.glwe_core.proofs.PhaseLoops.{phase_made}
use Rattle.glwe_core.proofs.phases.phase_into.Goals as goal

pub returns-clause-phase : goal.returns-clause-phase
returns-clause-phase c =
    let key = c.args.key.now in
    let n = length c.args.out.now in
    let same : c.c.inside.parts.items ≡ c.args.c.now = cc in
    phase_made key c.args.c.now n c.k.result c.part.result.now c.subtract_from.new.poly c.requires.fits.number c.k.ensures c.requires.degree c.part.ensures
    (c.subtract_from.ensures ∙ ap (row_difference c.part.result.now) (c.mask_sum_into.ensures.sum ∙ ap (λ (ps : List (List ℕ)). mask_sum n key ps) (c.as_slice.ensures.value ∙ same)))
