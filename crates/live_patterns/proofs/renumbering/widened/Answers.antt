use Rattle.std.proofs.Common.{◌+◌, ◌≤◌, ◌<ℤ◌, ◌^◌, pos, sym, ◌∙◌, arith}
use Rattle.std.proofs.lemmas.Bool.{false≢true}
use Rattle.forms.specs.Forms.{span_of}
use Rattle.forms.specs.Limits.{most_width}
use Rattle.live_patterns.proofs.Widths.{held_above}
use Rattle.live_patterns.proofs.renumbering.widened.Goals as goal

pub loop-range-smaller : goal.loop-range-smaller
loop-range-smaller c =
    let not_held : span_of c.args.range <ℤ pos (2 ^ c.loop-range.wide) → ⊥ = λ held. false≢true (sym c.loop-range-test.true ∙ c.is_held.ensures.1 held) in
    let above : c.loop-range.wide + 1 ≤ most_width = held_above c.loop-range.wide most_width c.args.range not_held c.requires.narrow c.loop-range.invariant.most in
    omega (arith, above)

pub loop-range-preserved : goal.loop-range-preserved
loop-range-preserved c =
    let not_held : span_of c.args.range <ℤ pos (2 ^ c.loop-range.wide) → ⊥ = λ held. false≢true (sym c.loop-range-test.true ∙ c.is_held.ensures.1 held) in
    record {
      from = omega (arith, c.loop-range.invariant.from);
      most = held_above c.loop-range.wide most_width c.args.range not_held c.requires.narrow c.loop-range.invariant.most;
      least = λ other le held. held_above c.loop-range.wide other c.args.range not_held held (c.loop-range.invariant.least other le held);
    }
