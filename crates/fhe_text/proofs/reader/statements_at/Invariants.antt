use Rattle.std.proofs.Common.{length}
use Rattle.mlir_lex.specs.declared.TokenKind.TheVariants.{Value}
use Rattle.fhe_text.specs.Rest.{pieces, HasRoom}
use Rattle.fhe_text.specs.Descent.{kind_stands, next_statement_at, statements_at}
use Rattle.fhe_text.proofs.Lists.{IsGoing}
use Rattle.fhe_text.proofs.reader.statements_at.Given as goal

abbrev pub invariant-loop-alloc : goal.invariant-loop-alloc
invariant-loop-alloc l = record {
  going : IsGoing (kind_stands Value) next_statement_at (l.names, l.body.items) l.after (statements_at (l.fn.names, l.fn.body.items) (pieces l.fn.rest));
  room : HasRoom l.names l.after;
}

abbrev pub decreases-loop-alloc : goal.decreases-loop-alloc
decreases-loop-alloc l = length l.after.tokens.now
