use Rattle.std.proofs.Common.{◌++◌, List, ℕ, ℤ, pos, get_or, ap, ◌∙◌}
use Rattle.std.specs.String.{string_bytes}
use Rattle.std.specs.Fmt.{signed_decimal}
use Rattle.fhe_text.specs.Printing.{comma_before}
use Rattle.fhe_text.proofs.PrintLemmas.{joined_more}
use Rattle.fhe_text.proofs.printing.put_numbers.Goals as goal

pub loop-place-preserved : goal.loop-place-preserved
loop-place-preserved c =
    let none : ℤ = (pos 0) in
    let one : ℤ = get_or c.args.numbers.now c.loop-place.place none in
    c.in_ok-put_number.ensures
    ∙ ap (λ (w : List ℕ). w ++ signed_decimal one) c.in_ok-put_comma.ensures
    ∙ ap (λ (w : List ℕ). (w ++ comma_before c.loop-place.place) ++ signed_decimal one) c.loop-place.invariant
    ∙ joined_more signed_decimal (string_bytes c.args.text.now) c.args.numbers.now c.loop-place.place none c.loop-place-test.true
