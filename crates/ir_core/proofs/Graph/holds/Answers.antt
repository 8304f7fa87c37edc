use Rattle.std.proofs.Common.{arith}
use Rattle.std.proofs.lemmas.Bool.{ltb-true, lt-ltb}
use Rattle.ir_core.proofs.Places.{place_within, holds_from_place}
use Rattle.ir_core.proofs.Graph.holds.Goals as goal

pub returns : goal.returns
returns g c =
    let list = c.self.inside.entries.items in
    let value = c.args.value in
    let place = rw c.as_slice.ensures.value at c.find_place.ensures.place in
    let len = rw c.as_slice.ensures.value at c.as_slice.ensures.len in
    rw (← c.self.view_is) (λ less. holds_from_place list value (omega (arith, ltb-true c.find_place.result c.len.result less, place, len, c.len.ensures)), λ there. lt-ltb c.find_place.result c.len.result (omega (arith, place_within list value there, place, len, c.len.ensures)))
