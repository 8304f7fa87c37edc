use Rattle.std.proofs.Common.{rules}
use Rattle.fhe_params.proofs.EntryWalk.{goes_on, refuses, ends}
use Rattle.fhe_params.proofs.entries.entries_from.Goals as goal

pub returns-in_err-entry_of : goal.returns-in_err-entry_of
returns-in_err-entry_of g c =
    let refusal = refuses g.E.Entry.entry_of c.args.list c.loop-at.entries.items c.loop-at.at c.args.values.now c.index-values-at.result _ _ c.loop-at-test.true c.index-values-at.is c.in_err-entry_of.ensures c.loop-at.invariant in
    search rules

pub loop-at-preserved : goal.loop-at-preserved
loop-at-preserved g c =
    rw c.in_ok-push.ensures.items (goes_on g.E.Entry.entry_of c.args.list c.loop-at.entries.items c.loop-at.at c.args.values.now c.index-values-at.result c.in_ok-entry_of.field-0 _ c.loop-at-test.true c.index-values-at.is c.in_ok-entry_of.ensures c.loop-at.invariant)

pub returns : goal.returns
returns g c = ends g.E.Entry.entry_of c.args.list c.loop-at.entries.items c.loop-at.at c.args.values.now _ c.loop-at-test.false c.loop-at.invariant
