use Rattle.std.proofs.Common.{◌∙◌, length, pos}
use Rattle.circuit_run.proofs.Sums.{weighted_next}
use Rattle.circuit_run.proofs.node.weighted_into.Goals as goal

pub loop-term-preserved : goal.loop-term-preserved
loop-term-preserved c =
    let i = c.loop-term.term-index in
    let terms = c.args.terms.now in
    record {
      words =
          c.add_term.ensures.words
          ∙ weighted_next c.laws.ensures.rows c.laws.ensures.combined (length c.args.out.now) terms c.args.earlier.now i (0, pos 0) c.loop-term.out c.loop-term-test.true c.loop-term.invariant.words (c.requires.fit i (0, pos 0) c.loop-term-test.true);
      length = c.add_term.ensures.length ∙ c.loop-term.invariant.length;
    }
