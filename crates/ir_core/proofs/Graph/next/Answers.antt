use Rattle.std.proofs.Common.{◌+◌}
use Rattle.ir_core.specs.Graph.{place_of}
use Rattle.ir_core.proofs.Places.{place_of_found}
use Rattle.ir_core.proofs.Graph.next.Goals as goal

pub returns-clause-place : goal.returns-clause-place
returns-clause-place g c =
    let list = c.self.inside.entries.items in
    let place = rw c.as_slice.ensures.value at c.find_place-at.ensures.place in
    let number = rw (place, c.as_slice-2.ensures.value) at c.number_at.ensures in
    rw (← c.self.view_is) (place_of_found list (place_of list c.args.value + 1) c.number_at.result c.self.invariant.distinct number).0

pub returns-clause-there : goal.returns-clause-there
returns-clause-there g c =
    let list = c.self.inside.entries.items in
    let place = rw c.as_slice.ensures.value at c.find_place-at.ensures.place in
    let number = rw (place, c.as_slice-2.ensures.value) at c.number_at.ensures in
    rw (← c.self.view_is) (place_of_found list (place_of list c.args.value + 1) c.number_at.result c.self.invariant.distinct number).1
