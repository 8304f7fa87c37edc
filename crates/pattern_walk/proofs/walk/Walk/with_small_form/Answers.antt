use Rattle.pattern_walk.proofs.Given.{small_is}
use Rattle.pattern_walk.proofs.walk.Walk.with_small_form.Goals as goal

pub returns : goal.returns
returns c =
    small_is c.args.inputs c.args.self c.args.number c.args.ty c.args.range c.args.form c.len-more.result c.in_ok-check_small.field-0 c.in_ok-with_form.field-0
    c.len-more.ensures c.in_ok-check_small.ensures c.with_weights-walk.result c.with_weights-walk.ensures c.in_ok-with_form.ensures
