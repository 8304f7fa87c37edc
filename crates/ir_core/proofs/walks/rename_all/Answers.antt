use Rattle.std.proofs.lemmas.List.Edits.{map_over_more}
use Rattle.ir_core.specs.Graph.{renamed_in}
use Rattle.ir_core.proofs.walks.rename_all.Goals as goal

pub loop-entry-preserved : goal.loop-entry-preserved
loop-entry-preserved g c =
    let change = renamed_in g.L.Level.operands g.L.Level.with_operands c.args.from c.args.to in
    rw (c.rename_in.ensures, ← c.entry-item.is)
    (map_over_more (λ entry. (entry.0, change entry.1)) c.args.entries.now c.loop-entry.entries c.loop-entry.entry-index c.entry-item.result c.loop-entry-test.true c.loop-entry.invariant c.entry-item.is)
