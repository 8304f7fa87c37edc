use Rattle.std.proofs.Common.{arith}
use Rattle.std.proofs.lemmas.List.Elements.{All-contains}
use Rattle.ir_core.specs.Graph.{place_of, StandsBefore}
use Rattle.ir_core.proofs.Places.{place_at_most}
use Rattle.ir_core.proofs.Kept.{inserted_keeps}
use Rattle.ir_core.proofs.Graph.insert_before.Goals as goal

-- the operation is put in at the place of the number, after those that it takes
pub invariant_of-self : goal.invariant_of-self
invariant_of-self g c =
    let list = c.self.inside.entries.items in
    let operands = g.L.Level.operands in
    let earlier = rw (← c.self.view_is) at c.requires.earlier in
    let left = rw (← c.self.view_is) at c.requires.numbers_left in
    rw (c.in-Ok.ensures.items, c.find_place-at.ensures.place, c.as_slice.ensures.value)
    (inserted_keeps operands list c.self.inside.made (place_of list c.args.place) c.args.op c.self.invariant (place_at_most list c.args.place) (λ value held. All-contains (λ v. StandsBefore list v c.args.place) (operands c.args.op) value earlier held) c.requires.few (omega (arith, left)))
