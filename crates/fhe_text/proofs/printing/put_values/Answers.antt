use Rattle.std.proofs.Common.{◌++◌, List, ℕ, get_or, ap, ◌∙◌}
use Rattle.std.specs.String.{string_bytes}
use Rattle.fhe_text.specs.Printing.{comma_before, value_text}
use Rattle.fhe_text.proofs.PrintLemmas.{joined_more}
use Rattle.fhe_text.proofs.printing.put_values.Goals as goal

pub loop-place-preserved : goal.loop-place-preserved
loop-place-preserved c =
    let none : ℕ = 0 in
    let one : ℕ = get_or c.args.values.now c.loop-place.place none in
    c.in_ok-put_value.ensures
    ∙ ap (λ (w : List ℕ). w ++ (value_text c.args.args) one) c.in_ok-put_comma.ensures
    ∙ ap (λ (w : List ℕ). (w ++ comma_before c.loop-place.place) ++ (value_text c.args.args) one) c.loop-place.invariant
    ∙ joined_more (value_text c.args.args) (string_bytes c.args.text.now) c.args.values.now c.loop-place.place none c.loop-place-test.true
