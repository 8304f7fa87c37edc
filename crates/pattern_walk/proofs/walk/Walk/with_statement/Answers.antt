use Rattle.std.proofs.Common.{sym, subst}
use Rattle.range_pass.specs.Bounds.{AreSmall}
use Rattle.linear_forms.specs.declared.linear.Form.{Form}
use Rattle.linear_forms.specs.Merging.{form_in}
use Rattle.pattern_walk.specs.Keeping.{form_can}
use Rattle.pattern_walk.proofs.walk.Walk.with_statement.Goals as goal

pub range_of-range-requires : goal.range_of-range-requires
range_of-range-requires c =
    subst (λ (f : Form). AreSmall f.terms c.args.self.ranges) (sym c.in_ok-form.ensures.same)
    (form_can c.args.program.now c.requires.limited c.args.self c.requires.safe c.laws.ensures (form_in c.args.wide.now) c.requires.built c.in_ok-form.ensures.small)
