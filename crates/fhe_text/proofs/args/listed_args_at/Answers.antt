use Rattle.std.proofs.Common.{sym}
use Rattle.std.proofs.lemmas.Result.{err_from_is_err_and}
use Rattle.fhe_text.specs.Rest.{pieces}
use Rattle.fhe_text.specs.Descent.{next_arg_at, listed_at}
use Rattle.fhe_text.proofs.Lists.{left_first, left_end, left_more, left_refused, first_refused}
use Rattle.fhe_text.proofs.args.listed_args_at.Goals as goal

pub returns-in_err-after-clause-exact : goal.returns-in_err-after-clause-exact
returns-in_err-after-clause-exact c =
    let p = err_from_is_err_and c.from_residual.result c.from_residual.ensures.1 in
    rw (p.1, p.2) (first_refused next_arg_at (c.args.names.now, c.args.args.now.items) (pieces c.args.rest) c.in_err-after.field-0.0 c.in_err-after.ensures.exact)

pub loop-after-init : goal.loop-after-init
loop-after-init c = record {
  left = left_first next_arg_at (c.args.names.now, c.args.args.now.items) (c.next_arg_at.new.names, c.next_arg_at.new.args.items) c.args.rest c.in_ok-after.after c.in_ok-after.ensures.exact c.in_ok-after.ensures.behind;
  room = c.in_ok-after.ensures.room;
}

pub returns-in_err-after-2-clause-exact : goal.returns-in_err-after-2-clause-exact
returns-in_err-after-2-clause-exact c =
    let p = err_from_is_err_and c.from_residual-in_err-after-2.result c.from_residual-in_err-after-2.ensures.1 in
    rw (p.1, p.2) (left_refused next_arg_at (c.loop-after.names, c.loop-after.args.items) c.loop-after.after c.args.rest c.in_err-after-2.field-0.0 (listed_at next_arg_at (c.args.names.now, c.args.args.now.items) (pieces c.args.rest)) c.loop-after.invariant.left (sym c.loop-after-test.ensures) c.in_err-after-2.ensures.exact)

pub loop-after-preserved : goal.loop-after-preserved
loop-after-preserved c = record {
  left = left_more next_arg_at (c.loop-after.names, c.loop-after.args.items) (c.more_arg_at.new.names, c.more_arg_at.new.args.items) c.loop-after.after c.in_ok-after-2.after c.args.rest (listed_at next_arg_at (c.args.names.now, c.args.args.now.items) (pieces c.args.rest)) c.loop-after.invariant.left (sym c.loop-after-test.ensures) c.in_ok-after-2.ensures.exact c.in_ok-after-2.ensures.behind;
  room = c.in_ok-after-2.ensures.room;
}

pub returns-clause-exact : goal.returns-clause-exact
returns-clause-exact c = left_end next_arg_at (c.loop-after.names, c.loop-after.args.items) c.loop-after.after c.args.rest (listed_at next_arg_at (c.args.names.now, c.args.args.now.items) (pieces c.args.rest)) c.loop-after.invariant.left (sym c.loop-after-test.ensures)
