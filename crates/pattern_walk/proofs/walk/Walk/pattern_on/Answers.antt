use Rattle.std.proofs.Common.{◌≤◌, sym, subst, arith}
use Rattle.std.specs.Prelude.{unsigned_abs}
use Rattle.std.proofs.lemmas.Int.{ints}
use Rattle.forms.specs.Limits.{most_weight}
use Rattle.linear_forms.specs.declared.linear.Form.{Form}
use Rattle.pattern_walk.proofs.walk.Walk.pattern_on.Goals as goal

pub less-constant-requires-clause-number : goal.less-constant-requires-clause-number
less-constant-requires-clause-number c =
    let own : unsigned_abs c.form-input.result.now.constant ≤ most_weight =
    subst (λ (f : Form). unsigned_abs f.constant ≤ most_weight) (sym c.form-input.ensures) (c.requires.safe.forms c.args.operands.0).small.constant in
    omega (arith, ints, own)
