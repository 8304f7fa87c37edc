use Rattle.std.proofs.Common.{sym, None}
use Rattle.std.proofs.lemmas.Result.{err_from_is_err_and}
use Rattle.fhe_text.specs.Rest.{pieces}
use Rattle.fhe_text.specs.Descent.{argument_entry_at, listed_at}
use Rattle.fhe_text.proofs.Lists.{left_first, left_end, left_more, left_refused, first_refused}
use Rattle.fhe_text.proofs.args.argument_entries_at.Goals as goal

pub returns-in_err-declared-clause-exact : goal.returns-in_err-declared-clause-exact
returns-in_err-declared-clause-exact c =
    let p = err_from_is_err_and c.from_residual.result c.from_residual.ensures.1 in
    rw (p.1, p.2) (first_refused argument_entry_at None (pieces c.args.rest) c.in_err-declared.field-0.0 c.in_err-declared.ensures.exact)

pub loop-after-init : goal.loop-after-init
loop-after-init c = left_first argument_entry_at None c.in_ok-declared.declared c.args.rest c.in_ok-declared.after c.in_ok-declared.ensures.exact c.in_ok-declared.ensures.behind

pub returns-in_err-declared-2-clause-exact : goal.returns-in_err-declared-2-clause-exact
returns-in_err-declared-2-clause-exact c =
    let p = err_from_is_err_and c.from_residual-in_err-declared-2.result c.from_residual-in_err-declared-2.ensures.1 in
    rw (p.1, p.2) (left_refused argument_entry_at c.loop-after.declared c.loop-after.after c.args.rest c.in_err-declared-2.field-0.0 (listed_at argument_entry_at None (pieces c.args.rest)) c.loop-after.invariant (sym c.loop-after-test.ensures) c.in_err-declared-2.ensures.exact)

pub loop-after-preserved : goal.loop-after-preserved
loop-after-preserved c =
    left_more argument_entry_at c.loop-after.declared c.in_ok-declared-2.field-0-0 c.loop-after.after c.in_ok-declared-2.field-0-1 c.args.rest (listed_at argument_entry_at None (pieces c.args.rest)) c.loop-after.invariant (sym c.loop-after-test.ensures) c.in_ok-declared-2.ensures.exact c.in_ok-declared-2.ensures.behind

pub returns-clause-exact : goal.returns-clause-exact
returns-clause-exact c = left_end argument_entry_at c.loop-after.declared c.loop-after.after c.args.rest (listed_at argument_entry_at None (pieces c.args.rest)) c.loop-after.invariant (sym c.loop-after-test.ensures)
