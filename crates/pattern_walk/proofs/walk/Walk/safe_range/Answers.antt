use Rattle.std.proofs.Common.{◌≡◌, sym, ap, ◌∙◌, subst}
use Rattle.range_pass.specs.Bounds.{AreSmall}
use Rattle.linear_forms.specs.declared.linear.Form.{Form}
use Rattle.pattern_walk.specs.Looking.{range_on}
use Rattle.pattern_walk.specs.Safe.{IsRangeOf16}
use Rattle.pattern_walk.specs.Keeping.{safe_can}
use Rattle.pattern_walk.proofs.walk.Walk.safe_range.Goals as goal

pub range_of-requires : goal.range_of-requires
range_of-requires c =
    subst (λ (f : Form). AreSmall f.terms c.args.self.now.ranges) (sym c.form.ensures)
    (safe_can c.args.program.now c.requires.limited c.args.self.now c.requires.safe c.laws.ensures c.args.number)

pub returns-clause-low : goal.returns-clause-low
returns-clause-low c =
    let same = c.range_of.ensures.range ∙ ap (range_on c.args.self.now.ranges) c.form.ensures in
    (subst IsRangeOf16 (sym same) (c.requires.safe.forms c.args.number).range).low

pub returns-clause-rising : goal.returns-clause-rising
returns-clause-rising c =
    let same = c.range_of.ensures.range ∙ ap (range_on c.args.self.now.ranges) c.form.ensures in
    (subst IsRangeOf16 (sym same) (c.requires.safe.forms c.args.number).range).rising

pub returns-clause-high : goal.returns-clause-high
returns-clause-high c =
    let same = c.range_of.ensures.range ∙ ap (range_on c.args.self.now.ranges) c.form.ensures in
    (subst IsRangeOf16 (sym same) (c.requires.safe.forms c.args.number).range).high
