use Rattle.std.proofs.Common.{◌∙◌, pos, length}
use Rattle.noise_model.proofs.NodeBounds.{operand_there, total_more}
use Rattle.noise_model.proofs.bounds.lin_bound.Goals as goal

pub term_bound-requires-clause-there : goal.term_bound-requires-clause-there
term_bound-requires-clause-there c = operand_there c.args.terms.now (length c.args.bounds.now) c.loop-term.term-index (0, pos 0) c.requires.earlier c.loop-term-test.true

pub loop-term-preserved : goal.loop-term-preserved
loop-term-preserved c = record {
  total = c.cap_add-total.ensures.value ∙ total_more c.args.bounds.now c.args.terms.now c.loop-term.term-index c.loop-term.total c.term_bound.result (0, pos 0) c.loop-term-test.true c.loop-term.invariant.total c.term_bound.ensures.value;
  most = c.cap_add-total.ensures.most;
}
