use Rattle.std.proofs.Common.{length, arith}
use Rattle.std.proofs.lemmas.List.Edits.{insert_end}
use Rattle.std.proofs.lemmas.List.Elements.{All-contains}
use Rattle.ir_core.specs.Graph.{Holds}
use Rattle.ir_core.proofs.Places.{place_within}
use Rattle.ir_core.proofs.Kept.{inserted_keeps}
use Rattle.ir_core.proofs.Graph.push.Goals as goal

-- a push puts the operation in at the end
pub invariant_of-self : goal.invariant_of-self
invariant_of-self g c =
    let list = c.self.inside.entries.items in
    let operands = g.L.Level.operands in
    let there = rw (← c.self.view_is) at c.requires.there in
    let left = rw (← c.self.view_is) at c.requires.numbers_left in
    rw (c.in-Ok.ensures.items, ← insert_end list (c.self.inside.made, c.args.op))
    (inserted_keeps operands list c.self.inside.made (length list) c.args.op c.self.invariant (omega arith) (λ value held. place_within list value (All-contains (Holds list) (operands c.args.op) value there held)) c.requires.few (omega (arith, left)))
