use Rattle.std.proofs.Common.{◌++◌, List, ℕ, get_or, ap, ◌∙◌}
use Rattle.std.specs.String.{string_bytes}
use Rattle.fhe_text.specs.declared.source.WrittenType.{WrittenType}
use Rattle.fhe_text.specs.declared.source.WrittenType.TheVariants as types
use Rattle.fhe_text.specs.Printing.{comma_before, type_text}
use Rattle.fhe_text.proofs.PrintLemmas.{joined_more}
use Rattle.fhe_text.proofs.printing.put_types.Goals as goal

pub loop-place-preserved : goal.loop-place-preserved
loop-place-preserved c =
    let none : WrittenType = types.Eint 0 in
    let one : WrittenType = get_or c.args.types.now c.loop-place.place none in
    c.in_ok-put_type.ensures
    ∙ ap (λ (w : List ℕ). w ++ type_text one) c.in_ok-put_comma.ensures
    ∙ ap (λ (w : List ℕ). (w ++ comma_before c.loop-place.place) ++ type_text one) c.loop-place.invariant
    ∙ joined_more type_text (string_bytes c.args.text.now) c.args.types.now c.loop-place.place none c.loop-place-test.true
