use Rattle.std.proofs.Common.{ap, ◌∙◌}
use Rattle.std.specs.FinMap.{insert}
use Rattle.port_store.specs.Kept.{files_of}
use Rattle.port_store.proofs.KeptLemmas.{files_of-updated, files_of-unchanged}
use Rattle.port_store.proofs.Told.{OnErr-always}
use Rattle.port_store.proofs.mem_store.put.Goals as goal

pub returns-in_err-insert-clause-err : goal.returns-in_err-insert-clause-err
returns-in_err-insert-clause-err c = OnErr-always _ (files_of-unchanged c.args.files.now c.insert.new.self c.in_err-insert.ensures.err)

pub returns-clause-ok : goal.returns-clause-ok
returns-clause-ok c =
    files_of-updated c.args.files.now c.insert.new.self _ _ c.in_ok-insert.ensures.updates
    ∙ ap (λ name. insert (files_of c.args.files.now) name c.in_ok-bytes.bytes.items) c.in_ok-name.ensures.ok
    ∙ ap (insert (files_of c.args.files.now) c.args.name.now) c.in_ok-bytes.ensures.items
