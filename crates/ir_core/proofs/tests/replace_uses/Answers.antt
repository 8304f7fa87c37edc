use Rattle.std.proofs.Common.{rules}
use Rattle.std.proofs.lemmas.List.{take_all}
use Rattle.std.proofs.lemmas.List.Elements.{All-more}
use Rattle.std.proofs.lemmas.List.Sorted.{All-permutation, IsPermutation-sym}
use Rattle.ir_core.specs.Graph.{StandsBefore}
use Rattle.ir_core.proofs.tests.replace_uses.Goals as goal

pub loop-user-preserved : goal.loop-user-preserved
loop-user-preserved g c =
    All-more (λ use_. StandsBefore c.args.graph.now.list c.args.to use_.0) c.deref-user-items.result.now c.loop-user.user-index (0, 0) c.loop-user-test.true c.loop-user.invariant (c.stands_before.ensures.0 (search rules))

pub replace_uses-requires-clause-earlier : goal.replace_uses-requires-clause-earlier
replace_uses-requires-clause-earlier g c =
    let all = rw (take_all c.loop-user.user-index c.deref-user-items.result.now c.loop-user-test.false, c.deref-user-items.ensures.value) at c.loop-user.invariant in
    All-permutation (λ use_. StandsBefore c.args.graph.now.list c.args.to use_.0) _ _ (IsPermutation-sym _ _ c.in_ok-uses.ensures.all) all
