use Rattle.std.proofs.Common.{◌∙◌}
use Rattle.live_patterns.proofs.Worked.{put_together}
use Rattle.live_patterns.proofs.tests.worked.Goals as goal

pub returns : goal.returns
returns c =
    put_together c.from_vec.result c.from_vec-2.result c.from_vec-3.result c.in_ok-first.first c.in_ok-second.second c.in_ok-third.third c.in_ok-fourth.fourth c.in_ok-fifth.fifth c.in_ok-last.last c.in_ok-argument.argument
    (c.from_vec.ensures ∙ c.in_ok-inputs.ensures.items) (c.from_vec-2.ensures ∙ c.in_ok-looks.ensures.items) (c.from_vec-3.ensures ∙ c.in_ok-outs.ensures.items)
    c.in_ok-first.ensures c.in_ok-second.ensures c.in_ok-third.ensures c.in_ok-fourth.ensures c.in_ok-fifth.ensures c.in_ok-last.ensures c.in_ok-argument.ensures
