use Rattle.std.proofs.Common.{◌++◌, List, ℕ, None, get_or, ap, ◌∙◌}
use Rattle.std.specs.String.{string_bytes}
use Rattle.fhe_text.specs.declared.source.WrittenType.TheVariants as types
use Rattle.fhe_text.specs.declared.source.Arg.{Arg}
use Rattle.fhe_text.specs.Printing.{comma_before, arg_text}
use Rattle.fhe_text.proofs.PrintLemmas.{args_more}
use Rattle.fhe_text.proofs.printing.put_args.Goals as goal

pub loop-place-preserved : goal.loop-place-preserved
loop-place-preserved c =
    let none : Arg = record { ty = types.Eint 0; declared = None } in
    let one : Arg = get_or c.args.args.now c.loop-place.place none in
    c.in_ok-put_arg.ensures
    ∙ ap (λ (w : List ℕ). w ++ arg_text c.loop-place.place one) c.in_ok-put_comma.ensures
    ∙ ap (λ (w : List ℕ). (w ++ comma_before c.loop-place.place) ++ arg_text c.loop-place.place one) c.loop-place.invariant
    ∙ args_more (string_bytes c.args.text.now) c.args.args.now c.loop-place.place none c.loop-place-test.true
