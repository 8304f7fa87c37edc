use Rattle.std.proofs.Common.{ℕ, length, sym, subst}
use Rattle.pattern_walk.specs.Safe.{AreSmallForms}
use Rattle.pattern_walk.specs.Walking.{Walked}
use Rattle.pattern_walk.proofs.walk.Walk.wide_sum.Goals as goal

pub sum_form-requires-clause-forms : goal.sum_form-requires-clause-forms
sum_form-requires-clause-forms c =
    subst (λ (n : ℕ). AreSmallForms n c.self.inside.forms) (sym c.leaves.ensures)
    (subst (λ (w : Walked). AreSmallForms (length c.args.self.now.ranges) w.forms) (sym c.self.view_is) c.requires.forms)
