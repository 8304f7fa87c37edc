use Rattle.std.proofs.Common.{Ok, ap, sym, ◌∙◌}
use Rattle.std.proofs.lemmas.Bool.{false≢true}
use Rattle.toml.proofs.Views.{view-Table}
use Rattle.fhe_params.proofs.Documents.{is_read, is_refused}
use Rattle.fhe_params.proofs.reader.document_of.Goals as goal

pub returns-in-Ok : goal.returns-in-Ok
returns-in-Ok c = is_read c.args.bytes.now _ c.in-Ok.ensures.ok.0 c.in-Ok.ensures.ok.1 ∙ ap (λ d. Ok d) (sym (view-Table c.in-Ok.table))

pub returns-in-Err-2 : goal.returns-in-Err-2
returns-in-Err-2 c = is_refused c.args.bytes.now (c.in-Err.ensures.refused (λ memory. false≢true (sym c.if-is_memory.false ∙ c.is_memory.ensures.1 memory)))
