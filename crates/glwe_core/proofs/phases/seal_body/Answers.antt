use Rattle.std.proofs.Common.{map, ap, ◌∙◌}
use Rattle.word_ring.specs.Rows.{row_sum}
use Rattle.word_ring.specs.Signed.{word_of}
use Rattle.glwe_core.proofs.PhaseLoops.{body_made}
use Rattle.glwe_core.proofs.phases.seal_body.Goals as goal

pub returns-clause-body : goal.returns-clause-body
returns-clause-body c =
    let message = c.args.message.now in
    let errors = map word_of c.args.errors.now in
    body_made c.mask_sum_into.new.out message errors c.add_assign.new.self c.add_errors.new.poly c.add_assign.ensures.words c.add_errors.ensures.sum
    ∙ ap (row_sum (row_sum message errors)) c.mask_sum_into.ensures.sum
