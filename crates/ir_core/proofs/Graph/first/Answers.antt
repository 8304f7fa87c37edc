use Rattle.ir_core.proofs.Places.{place_of_found}
use Rattle.ir_core.proofs.Graph.first.Goals as goal

pub returns-clause-place : goal.returns-clause-place
returns-clause-place g c =
    let number = rw c.as_slice.ensures.value at c.number_at.ensures in
    rw (← c.self.view_is) (place_of_found c.self.inside.entries.items 0 c.number_at.result c.self.invariant.distinct number).0
