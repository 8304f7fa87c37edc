use Rattle.std.proofs.Common.{refl, sym}
use Rattle.std.proofs.lemmas.Result.{err_from_is_err_and}
use Rattle.mlir_lex.specs.declared.TokenKind.TheVariants.{Value}
use Rattle.fhe_text.specs.Rest.{pieces}
use Rattle.fhe_text.specs.Descent.{kind_stands, next_statement_at, statements_at}
use Rattle.fhe_text.proofs.Lists.{going_first, going_end, going_more, going_refused}
use Rattle.fhe_text.proofs.reader.statements_at.Goals as goal

pub loop-alloc-init : goal.loop-alloc-init
unfolding statements_at
loop-alloc-init c = record {
  going = going_first (kind_stands Value) next_statement_at (c.args.names.now, c.args.body.now.items) c.args.rest;
  room = c.requires;
}

pub returns-in_err-after-clause-exact : goal.returns-in_err-after-clause-exact
returns-in_err-after-clause-exact c =
    let p = err_from_is_err_and c.from_residual.result c.from_residual.ensures.1 in
    rw (p.1, p.2) (going_refused (kind_stands Value) next_statement_at (c.loop-alloc.names, c.loop-alloc.body.items) c.loop-alloc.after c.in_err-after.field-0.0 (statements_at (c.args.names.now, c.args.body.now.items) (pieces c.args.rest)) refl c.loop-alloc.invariant.going (sym c.loop-alloc-test.ensures) c.in_err-after.ensures.exact)

pub loop-alloc-preserved : goal.loop-alloc-preserved
loop-alloc-preserved c = record {
  going = going_more (kind_stands Value) next_statement_at (c.loop-alloc.names, c.loop-alloc.body.items) (c.next_statement_at.new.names, c.next_statement_at.new.body.items) c.loop-alloc.after c.in_ok-after.after (statements_at (c.args.names.now, c.args.body.now.items) (pieces c.args.rest)) refl c.loop-alloc.invariant.going (sym c.loop-alloc-test.ensures) c.in_ok-after.ensures.exact c.in_ok-after.ensures.behind;
  room = c.in_ok-after.ensures.room;
}

pub returns-clause-exact : goal.returns-clause-exact
returns-clause-exact c = going_end (kind_stands Value) next_statement_at (c.loop-alloc.names, c.loop-alloc.body.items) c.loop-alloc.after (statements_at (c.args.names.now, c.args.body.now.items) (pieces c.args.rest)) c.loop-alloc.invariant.going (sym c.loop-alloc-test.ensures)
