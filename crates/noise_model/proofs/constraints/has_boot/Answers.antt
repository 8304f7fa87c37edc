use Rattle.std.proofs.Common.{◌∙◌, sym, ap}
use Rattle.std.proofs.lemmas.List.Folds.{list_any_at, list_any_more}
use Rattle.std.proofs.lemmas.Bool.{or_from}
use Rattle.std.proofs.lemmas.Option.{slice_get_within, get_or_from_slice_get}
use Rattle.tfhe_level.specs.Operations.{is_boot}
use Rattle.tfhe_level.specs.Nodes.{nodes_of}
use Rattle.noise_model.proofs.constraints.has_boot.Goals as goal

pub returns-then-is_boot : goal.returns-then-is_boot
returns-then-is_boot c =
    let nodes = nodes_of c.args.shape.now in
    let op = c.node.result.now in
    let there = get_or_from_slice_get nodes c.loop-number.number op op c.node.ensures.node in
    sym (list_any_at is_boot nodes c.loop-number.number op (slice_get_within nodes c.loop-number.number op c.node.ensures.node) (ap is_boot there ∙ sym c.is_boot.ensures ∙ c.if-is_boot.true))

pub loop-number-preserved : goal.loop-number-preserved
loop-number-preserved c =
    let nodes = nodes_of c.args.shape.now in
    let op = c.node.result.now in
    let there = get_or_from_slice_get nodes c.loop-number.number op op c.node.ensures.node in
    list_any_more is_boot nodes c.loop-number.number op (slice_get_within nodes c.loop-number.number op c.node.ensures.node) ∙ or_from _ _ c.loop-number.invariant (ap is_boot there ∙ sym c.is_boot.ensures ∙ c.if-is_boot.false)
