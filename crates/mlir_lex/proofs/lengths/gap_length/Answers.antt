use Rattle.std.proofs.Common.{arith, sym, ◌∙◌, length-take, length-drop}
use Rattle.mlir_lex.proofs.Gaps.{gap_ends, gap_goes_on}
use Rattle.mlir_lex.proofs.lengths.gap_length.Goals as goal

pub returns-then-not-starts_with-clause-value : goal.returns-then-not-starts_with-clause-value
returns-then-not-starts_with-clause-value c =
    gap_ends c.args.bytes.now c.loop-at.at c.blanks_length-at.result c.loop-at.invariant.1 c.blanks_length-at.ensures.value (sym c.starts_with.ensures.value ∙ c.if-not-starts_with.true)

pub loop-at-preserved : goal.loop-at-preserved
loop-at-preserved c =
    let step = gap_goes_on c.args.bytes.now c.loop-at.at c.blanks_length-at.result c.comment_length-at.result c.loop-at.invariant.1 c.blanks_length-at.ensures.value (sym c.starts_with.ensures.value ∙ c.if-not-starts_with.false) c.comment_length-at.ensures.value in
    let within = simp (length-take, length-drop) at c.comment_length-at.ensures.within in
    let blanks = simp (length-take, length-drop) at c.blanks_length-at.ensures.within in
    (omega (arith, within, blanks, c.loop-at.invariant.0), step.0)
