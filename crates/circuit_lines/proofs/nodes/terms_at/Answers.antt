use Rattle.std.proofs.Common.{◌≡◌, ◌++◌, ◌∷◌, [], ◌∙◌, length, take, ap, sym, Ok}
use Rattle.circuit_lines.specs.Reading.{term_at, terms_at}
use Rattle.circuit_lines.specs.Many.{many, one_more, no_more, at_limit, at_start}
use Rattle.circuit_lines.proofs.nodes.terms_at.Goals as goal
use Rattle.circuit_lines.proofs.nodes.terms_at.Goals.{else-loop-test, then-loop-test+in-Err-Fault}

pub loop-preserved : goal.loop-preserved
loop-preserved c =
    let next = one_more (λ _. term_at c.args.line) (length c.args.bytes.now) 0 c.args.bytes.now c.loop.counter c.loop.rest.now c.in-Ok.term c.in-Ok.after.now c.loop-test.true c.in-Ok.ensures c.loop.invariant.0 in
    (next.0, c.in_ok-push-in-Ok.ensures.items ∙ ap (λ xs. xs ++ c.in-Ok.term ∷ []) c.loop.invariant.1 ∙ next.1)

pub returns : goal.returns
unfolding terms_at
returns c =
    elim c.loop-test.branch [
      | else-loop-test w ↦ ap (λ x. Ok x) (at_limit (λ _. term_at c.args.line) (length c.args.bytes.now) 0 c.args.bytes.now c.loop.counter c.loop.rest.now w.loop-test.false c.loop.invariant.0 ∙ ap (λ xs. (xs, c.loop.rest.now)) (sym c.loop.invariant.1))
      | then-loop-test+in-Err-Fault w ↦ ap (λ x. Ok x) (no_more (λ _. term_at c.args.line) (length c.args.bytes.now) 0 c.args.bytes.now c.loop.counter c.loop.rest.now _ w.loop-test.true (rw w.in-Err-Fault.field-0-is at w.in-Err-Fault.ensures) c.loop.invariant.0 ∙ ap (λ xs. (xs, c.loop.rest.now)) (sym c.loop.invariant.1))
    ]
