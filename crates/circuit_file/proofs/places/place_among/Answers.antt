use Rattle.std.proofs.Common.{◌≡◌, ◌+◌, ◌<◌, ◌≤◌, length, drop, sym, ap, ◌∙◌, arith}
use Rattle.tfhe_level.specs.Nodes.{nodes_of}
use Rattle.circuit_file.specs.Circuit.{is_on, place_among}
use Rattle.circuit_file.proofs.PlaceLemmas.{passed, counted, reached}
use Rattle.circuit_file.proofs.places.place_among.Goals as goal
use Rattle.circuit_file.proofs.places.place_among.Goals.{then-is_on+else-left-eq0, else-is_on}

pub returns-then-left-eq0-clause-place : goal.returns-then-left-eq0-clause-place
returns-then-left-eq0-clause-place c =
    reached (is_on c.args.at) (nodes_of c.args.shape.now) c.loop-place.place c.loop-place.left (place_among (is_on c.args.at) (nodes_of c.args.shape.now) c.args.count) c.node.result.now c.node.ensures.node (sym c.is_on.ensures ∙ c.if-is_on.true) c.if-left-eq0.true c.loop-place.invariant

pub loop-place-preserved : goal.loop-place-preserved
loop-place-preserved c =
    let kind = is_on c.args.at in
    let ops = nodes_of c.args.shape.now in
    let whole = place_among kind ops c.args.count in
    elim c.if-is_on.branch [
      | then-is_on+else-left-eq0 w ↦ counted kind ops c.loop-place.place c.loop-place.left whole c.node.result.now c.node.ensures.node (sym c.is_on.ensures ∙ w.if-is_on.true) (omega (arith, w.if-left-eq0.false)) c.loop-place.invariant ∙ ap (λ n. c.loop-place.place + 1 + place_among kind (drop (c.loop-place.place + 1) ops) n) (sym w.left-is)
      | else-is_on w ↦ passed kind ops c.loop-place.place c.loop-place.left whole c.node.result.now c.node.ensures.node (sym c.is_on.ensures ∙ w.if-is_on.false) c.loop-place.invariant ∙ ap (λ n. c.loop-place.place + 1 + place_among kind (drop (c.loop-place.place + 1) ops) n) (sym w.left-is)
    ]
