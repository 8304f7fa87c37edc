use Rattle.std.proofs.Common.{arith}
use Rattle.ir_core.proofs.Places.{place_within, operation_at_place}
use Rattle.ir_core.proofs.Graph.op.Goals as goal

pub index-requires : goal.index-requires
index-requires g c =
    let there = rw (← c.self.view_is) at c.requires in
    let within = place_within c.self.inside.entries.items c.args.value there in
    let place = rw c.as_slice.ensures.value at c.find_place-at.ensures.place in
    let len = rw c.as_slice.ensures.value at c.as_slice.ensures.len in
    omega (arith, within, place, len)

pub returns : goal.returns
returns g c =
    let list = c.self.inside.entries.items in
    let there = rw (← c.self.view_is) at c.requires in
    let place = rw c.as_slice.ensures.value at c.find_place-at.ensures.place in
    rw (← c.self.view_is) (operation_at_place list c.args.value c.index.result.now (place_within list c.args.value there) (rw place at c.index.ensures))
