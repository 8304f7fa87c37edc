use Rattle.std.proofs.Common.{◌≡◌, ◌+◌, ◌<◌, ◌^◌, length, ap, sym, subst, arith, ◌∙◌}
use Rattle.std.specs.Prelude.{IsTrue}
use Rattle.tfhe_level.specs.Nodes.{nodes_of, range_of, node_ranges}
use Rattle.circuit_nodes.specs.Tests.{keeps_alone}
use Rattle.circuit_nodes.specs.Nodes.{AreKept}
use Rattle.circuit_nodes.proofs.Counting.{few_operations}
use Rattle.circuit_nodes.proofs.Pushing.{operands_below, operands_few, kept_push}
use Rattle.circuit_nodes.proofs.nodes.Nodes.push.Goals as goal

pub push-requires-3-clause-earlier : goal.push-requires-3-clause-earlier
push-requires-3-clause-earlier c = operands_below (nodes_of c.self.inside.shape) c.args.op (subst (λ ops. IsTrue (keeps_alone ops c.args.op)) (sym c.self.view_is) c.requires)

pub push-requires-3-clause-few : goal.push-requires-3-clause-few
push-requires-3-clause-few c =
    let kept = subst (λ ops. IsTrue (keeps_alone ops c.args.op)) (sym c.self.view_is) c.requires in
    let few = few_operations (nodes_of c.self.inside.shape) c.self.inside.kinds c.self.invariant.counted c.self.invariant.few in
    omega (arith, few, operands_few (nodes_of c.self.inside.shape) c.args.op kept)

pub push-requires-3-clause-numbers_left : goal.push-requires-3-clause-numbers_left
push-requires-3-clause-numbers_left c = omega (arith, few_operations (nodes_of c.self.inside.shape) c.self.inside.kinds c.self.invariant.counted c.self.invariant.few)

pub invariant_of-result : goal.invariant_of-result
invariant_of-result c =
    let shape = c.self.inside.shape in
    let kept = subst (λ ops. IsTrue (keeps_alone ops c.args.op)) (sym c.self.view_is) c.requires in
    let range = c.range_of-range.ensures.range ∙ ap (λ ops. range_of (node_ranges ops) c.args.op) (sym c.self.view_is) in
    rw (c.in_ok-push.ensures.items, c.in_ok-push-2.ensures.items, c.leaf_range-leaf.ensures, c.with-kinds.ensures)
    (kept_push shape c.push-3.new.self c.self.inside.ranges.items c.self.inside.leaves.items c.self.inside.kinds c.args.op c.range_of-range.result c.self.invariant c.in-Ok.ensures.ok c.push-3.ensures.placed kept range c.range_of-range.ensures.wide)
