use Rattle.std.proofs.Common.{ap, ◌∙◌}
use Rattle.word_ring.specs.Rows.{row_sum}
use Rattle.glwe_core.proofs.PhaseLoops.{minus_is}
use Rattle.glwe_core.proofs.phases.subtract_from.Goals as goal

pub returns : goal.returns
returns c = c.add_assign.ensures.words ∙ ap (λ xs. row_sum xs c.args.other.now) c.scale_assign.ensures.words ∙ minus_is c.args.poly.now c.args.other.now c.requires
