use Rattle.std.proofs.Common.{arith}
use Rattle.ir_core.proofs.Places.{place_within, operation_at_place, read_at_place}
use Rattle.ir_core.proofs.Uses.{use_there}
use Rattle.ir_core.proofs.Kept.{erased_keeps}
use Rattle.ir_core.proofs.Graph.erase.Goals as goal

pub remove-op-requires : goal.remove-op-requires
remove-op-requires g c =
    let there = rw (← c.self.view_is) at c.requires.there in
    let within = place_within c.self.inside.entries.items c.args.value there in
    let place = rw c.as_slice.ensures.value at c.find_place-at.ensures.place in
    let len = rw c.as_slice.ensures.value at c.as_slice.ensures.len in
    omega (arith, within, place, len)

-- what has no use is no operand
pub invariant_of-self : goal.invariant_of-self
invariant_of-self g c =
    let list = c.self.inside.entries.items in
    let operands = g.L.Level.operands in
    let value = c.args.value in
    let there = rw (← c.self.view_is) at c.requires.there in
    let unused = rw (← c.self.view_is) at c.requires.unused in
    let place = rw c.as_slice.ensures.value at c.find_place-at.ensures.place in
    let within = place_within list value there in
    let read = rw place at c.remove-op.ensures.value in
    rw (c.remove-op.ensures.items, place)
    (erased_keeps operands list c.self.inside.made value c.remove-op.result.1 c.self.invariant within (read_at_place list value c.remove-op.result within read)
    (λ user op stands holds. let none = rw unused at (use_there operands list value user op stands holds).1 in absurd (omega (arith, none.1))))

pub returns-clause-op : goal.returns-clause-op
returns-clause-op g c =
    let list = c.self.inside.entries.items in
    let there = rw (← c.self.view_is) at c.requires.there in
    let place = rw c.as_slice.ensures.value at c.find_place-at.ensures.place in
    rw (← c.self.view_is) (operation_at_place list c.args.value c.remove-op.result (place_within list c.args.value there) (rw place at c.remove-op.ensures.value))
