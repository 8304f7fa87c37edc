use Rattle.std.proofs.Common.{[], sym}
use Rattle.std.proofs.lemmas.Result.{err_from_is_err_and}
use Rattle.fhe_text.specs.Rest.{pieces}
use Rattle.fhe_text.specs.Descent.{next_type_at, types_at}
use Rattle.fhe_text.proofs.Lists.{left_first, left_end, left_more, left_refused, first_refused}
use Rattle.fhe_text.proofs.types.types_at.Goals as goal

pub returns-in_err-after-clause-exact : goal.returns-in_err-after-clause-exact
unfolding types_at
returns-in_err-after-clause-exact c =
    let p = err_from_is_err_and c.from_residual.result c.from_residual.ensures.1 in
    rw (p.1, p.2) (first_refused next_type_at [] (pieces c.args.rest) c.in_err-after.field-0.0 (rw c.new-types.ensures.items at c.in_err-after.ensures.exact))

pub loop-after-init : goal.loop-after-init
unfolding types_at
loop-after-init c =
    left_first next_type_at [] c.next_type_at.new.types.items c.args.rest c.in_ok-after.after
    (rw c.new-types.ensures.items at c.in_ok-after.ensures.exact) c.in_ok-after.ensures.behind

pub returns-in_err-after-2-clause-exact : goal.returns-in_err-after-2-clause-exact
returns-in_err-after-2-clause-exact c =
    let p = err_from_is_err_and c.from_residual-in_err-after-2.result c.from_residual-in_err-after-2.ensures.1 in
    rw (p.1, p.2) (left_refused next_type_at c.loop-after.types.items c.loop-after.after c.args.rest c.in_err-after-2.field-0.0 (types_at (pieces c.args.rest)) c.loop-after.invariant (sym c.loop-after-test.ensures) c.in_err-after-2.ensures.exact)

pub loop-after-preserved : goal.loop-after-preserved
loop-after-preserved c =
    left_more next_type_at c.loop-after.types.items c.more_type_at.new.types.items c.loop-after.after c.in_ok-after-2.after c.args.rest (types_at (pieces c.args.rest)) c.loop-after.invariant (sym c.loop-after-test.ensures) c.in_ok-after-2.ensures.exact c.in_ok-after-2.ensures.behind

pub returns-clause-exact : goal.returns-clause-exact
returns-clause-exact c = left_end next_type_at c.loop-after.types.items c.loop-after.after c.args.rest (types_at (pieces c.args.rest)) c.loop-after.invariant (sym c.loop-after-test.ensures)
