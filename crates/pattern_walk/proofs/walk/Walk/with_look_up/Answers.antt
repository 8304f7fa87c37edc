use Rattle.std.proofs.Common.{length, subst}
use Rattle.std.specs.Prelude.{ℤ}
use Rattle.refusals.specs.Reading.{Gives}
use Rattle.pattern_walk.specs.Sums.{form_at, table_with}
use Rattle.pattern_walk.specs.Walking.{with_look_up}
use Rattle.pattern_walk.proofs.walk.Walk.with_look_up.Goals as goal

pub returns : goal.returns
returns c =
    subst (λ (r : ℤ × ℤ). Gives (λ walk. walk) c.with_look_up_on.result (with_look_up (length c.args.program.now.args) c.args.self c.args.number c.args.ty r (form_at c.args.self.forms c.args.operands.0) (table_with c.args.program.now.graph.list c.args.operands.1))) c.input_range-range.ensures.range c.with_look_up_on.ensures
