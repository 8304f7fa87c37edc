use Rattle.std.proofs.lemmas.List.Elements.{All-rest}
use Rattle.mlir_lex.specs.Pieces.{IsSpelled}
use Rattle.mlir_lex.specs.Tokens.{IsWithin}
use Rattle.fhe_text.proofs.tokens.first.Goals as goal

-- what holds of all tokens holds of those behind the first
pub invariant_of-result : goal.invariant_of-result
invariant_of-result c = record {
  within = All-rest (IsWithin c.args.rest.bytes.now) c.in_ok-token.token.now c.in_ok-token.tokens.now c.args.rest.tokens.now c.in_ok-token.ensures.cases.0 c.args.rest.within;
  spelled = All-rest (IsSpelled c.args.rest.bytes.now) c.in_ok-token.token.now c.in_ok-token.tokens.now c.args.rest.tokens.now c.in_ok-token.ensures.cases.0 c.args.rest.spelled;
}
