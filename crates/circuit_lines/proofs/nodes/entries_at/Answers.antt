use Rattle.std.proofs.lemmas.Int.{to_z-of_z, fits_signed_from_abs}
use mir.Syntax.{w128}
use Rattle.std.proofs.Common.{◌≡◌, ◌<◌, ◌^◌, arith, ◌++◌, ◌∷◌, [], ◌∙◌, length, take, ap, sym, Ok}
use Rattle.std.specs.Prelude.{codes}
use Rattle.circuit_lines.specs.Numbers.{field_at}
use Rattle.circuit_lines.specs.Reading.{entries_at}
use Rattle.circuit_lines.specs.Many.{many, one_more, no_more, at_limit, at_start}
use Rattle.circuit_lines.proofs.nodes.entries_at.Goals as goal
use Rattle.circuit_lines.proofs.nodes.entries_at.Goals.{else-loop-test, then-loop-test+in-Err-Fault}

pub loop-preserved : goal.loop-preserved
loop-preserved c =
    let next = one_more (λ _. field_at c.args.line (codes " ")) (length c.args.bytes.now) 0 c.args.bytes.now c.loop.counter c.loop.rest.now c.in-Ok.entry c.in-Ok.after.now c.loop-test.true c.in-Ok.ensures.value c.loop.invariant.0 in
    let fits = fits_signed_from_abs w128 c.in-Ok.entry (omega (arith, c.in-Ok.ensures.short)) in
    (next.0, c.in_ok-push-in-Ok.ensures.items ∙ ap (λ z. c.loop.entries.items ++ z ∷ []) (to_z-of_z w128 c.in-Ok.entry fits) ∙ ap (λ xs. xs ++ c.in-Ok.entry ∷ []) c.loop.invariant.1 ∙ next.1)

pub returns : goal.returns
unfolding entries_at
returns c =
    elim c.loop-test.branch [
      | else-loop-test w ↦ ap (λ x. Ok x) (at_limit (λ _. field_at c.args.line (codes " ")) (length c.args.bytes.now) 0 c.args.bytes.now c.loop.counter c.loop.rest.now w.loop-test.false c.loop.invariant.0 ∙ ap (λ xs. (xs, c.loop.rest.now)) (sym c.loop.invariant.1))
      | then-loop-test+in-Err-Fault w ↦ ap (λ x. Ok x) (no_more (λ _. field_at c.args.line (codes " ")) (length c.args.bytes.now) 0 c.args.bytes.now c.loop.counter c.loop.rest.now _ w.loop-test.true (rw w.in-Err-Fault.field-0-is at w.in-Err-Fault.ensures.value) c.loop.invariant.0 ∙ ap (λ xs. (xs, c.loop.rest.now)) (sym c.loop.invariant.1))
    ]
