use Rattle.std.proofs.Common.{length, sym, subst}
use Rattle.refusals.specs.Reading.{Gives}
use Rattle.linear_forms.specs.declared.linear.Form.{Form}
use Rattle.pattern_walk.specs.Safe.{IsBuilt}
use Rattle.pattern_walk.specs.Walking.{with_statement}
use Rattle.pattern_walk.specs.Building.{sum_built}
use Rattle.pattern_walk.proofs.walk.Walk.with_sum.Goals as goal

pub wide_sum-requires-clause-forms : goal.wide_sum-requires-clause-forms
wide_sum-requires-clause-forms c = λ number. let own = c.requires.safe.forms number in (own.small, own.built.below)

pub with_statement-requires-clause-built : goal.with_statement-requires-clause-built
with_statement-requires-clause-built c =
    subst (λ (f : Form). IsBuilt (length c.args.self.ranges) f) (sym c.in_ok-wide.ensures)
    (sum_built c.laws.ensures (length c.args.self.ranges) c.args.program.now.graph.list c.args.self.forms c.args.name c.args.operands.now)

pub returns : goal.returns
returns c =
    subst (λ (f : Form). Gives (λ walk. walk) c.with_statement.result (with_statement (length c.args.program.now.args) c.args.self c.args.number c.args.ty f)) c.in_ok-wide.ensures c.with_statement.ensures
