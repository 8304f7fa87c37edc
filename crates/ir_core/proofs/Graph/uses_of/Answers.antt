use Rattle.std.proofs.lemmas.Map.Keys.{IsDistinct-IsPermutation}
use Rattle.ir_core.proofs.Sorting.{same_use, same_use-flips, sorted_once, uses_of_distinct}
use Rattle.ir_core.proofs.Graph.uses_of.Goals as goal

pub returns-clause-sorted : goal.returns-clause-sorted
returns-clause-sorted g c =
    let distinct = uses_of_distinct g.L.Level.operands c.self.inside.entries.items c.args.value c.self.invariant.distinct in
    let collected = rw c.as_slice.ensures.value at c.in_ok-uses.ensures in
    sorted_once c.sort_unstable.new.self.items c.sort_unstable.ensures.sorted
    (IsDistinct-IsPermutation same_use same_use-flips _ _ c.sort_unstable.ensures.permutation (rw collected distinct))
