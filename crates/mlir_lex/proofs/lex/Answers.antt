use Rattle.std.proofs.Common.{[], List, Option, subst, sym, ◌∙◌}
use Rattle.std.proofs.lemmas.List.{append-nil}
use Rattle.mlir_lex.specs.declared.Token.{Token}
use Rattle.mlir_lex.specs.declared.LexFault.{LexFault}
use Rattle.mlir_lex.specs.Tokens.{AreTokensOf, IsStopAt, after_gap}
use Rattle.mlir_lex.proofs.Readings.{tokens_are_within}
use Rattle.mlir_lex.proofs.lex.Goals as goal
use Rattle.mlir_lex.proofs.lex.Goals.{in-Ok-None, in-Err}

pub returns-clause-tokens : goal.returns-clause-tokens
returns-clause-tokens c =
    let IsStop : Option LexFault → Type 0 = λ stop. IsStopAt c.args.bytes.now (after_gap c.args.bytes.now c.loop-token.place) stop in
    let stops : IsStopAt c.args.bytes.now (after_gap c.args.bytes.now c.loop-token.place) c.match-next_token.stop =
    elim c.match-next_token.branch [
      | in-Ok-None w ↦ subst IsStop (sym w.stop-is) (rw w.in-Ok-None.field-0-is at w.in-Ok-None.ensures)
      | in-Err w ↦ subst IsStop (sym w.stop-is) w.in-Err.ensures
    ] in
    subst (λ (tokens : List Token). AreTokensOf c.args.bytes.now tokens c.match-next_token.stop)
    (append-nil c.loop-token.list.items ∙ sym c.from_vec.ensures)
    (c.loop-token.invariant.1 [] c.match-next_token.stop stops)

pub returns-clause-within : goal.returns-clause-within
returns-clause-within c = tokens_are_within c.args.bytes.now c.from_vec.result c.match-next_token.stop (returns-clause-tokens c)
