use Rattle.std.proofs.Common.{◌++◌, List, ℕ, get_or, ap, ◌∙◌}
use Rattle.std.specs.String.{string_bytes}
use Rattle.fhe_text.specs.declared.source.Statement.{Statement}
use Rattle.fhe_text.specs.Printing.{statement_line}
use Rattle.fhe_text.proofs.PrintLemmas.{statements_more}
use Rattle.fhe_text.proofs.printing.put_statements.Goals as goal

pub loop-place-preserved : goal.loop-place-preserved
loop-place-preserved c =
    let one : Statement = get_or c.args.body.now c.loop-place.place c.index-body-place.result in
    c.in_ok-put_statement_line.ensures
    ∙ ap (λ (x : Statement). string_bytes c.loop-place.text ++ statement_line c.args.args c.loop-place.place x) c.index-body-place.is
    ∙ ap (λ (w : List ℕ). w ++ statement_line c.args.args c.loop-place.place one) c.loop-place.invariant
    ∙ statements_more c.args.args (string_bytes c.args.text.now) c.args.body.now c.loop-place.place c.index-body-place.result c.loop-place-test.true
