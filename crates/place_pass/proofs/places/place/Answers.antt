use Rattle.std.proofs.Common.{◌≤◌, ◌+◌, ◌∙◌, length, ap, subst, sym, drop, arith}
use Rattle.ap_level.specs.Patterns.{patterns_of}
use Rattle.place_pass.specs.Placing.{place_ops, nothing_placed}
use Rattle.place_pass.specs.Placements.{placement_of, CanFinish}
use Rattle.place_pass.proofs.Walk.{Goes, goes_to_finish}
use Rattle.place_pass.proofs.Finding.{goes_here, rest_here, all_put}
use Rattle.place_pass.proofs.Shapes.{answered}
use Rattle.place_pass.proofs.places.place.Goals as goal

pub loop-number-init : goal.loop-number-init
loop-number-init c =
    let patterns = patterns_of c.args.ap.now in
    record {
      graph = c.new-places.ensures.graph;
      width = c.new-places.ensures.width;
      goes = subst (λ p. Goes CanFinish p patterns) (sym c.new-places.ensures.placement) (goes_to_finish patterns c.requires.patterns);
      rest = ap (λ p. place_ops p patterns) c.new-places.ensures.placement;
    }

pub put-requires-clause-can : goal.put-requires-clause-can
put-requires-clause-can c = (goes_here CanFinish (placement_of c.loop-number.places) (patterns_of c.args.ap.now) c.loop-number.number c.op_at.result.now c.op_at.ensures.op c.loop-number.invariant.goes).0

pub loop-number-preserved : goal.loop-number-preserved
loop-number-preserved c =
    let patterns = patterns_of c.args.ap.now in
    let before = placement_of c.loop-number.places in
    let op = c.op_at.result.now in
    let later = (goes_here CanFinish before patterns c.loop-number.number op c.op_at.ensures.op c.loop-number.invariant.goes).1 in
    let same = c.in_ok-put.ensures.placement in
    record {
      graph = c.in_ok-put.ensures.graph;
      width = c.in_ok-put.ensures.width ∙ c.loop-number.invariant.width;
      goes = subst (λ p. Goes CanFinish p (drop (c.loop-number.number + 1) patterns)) (sym same) later;
      rest = ap (λ p. place_ops p (drop (c.loop-number.number + 1) patterns)) same ∙ sym (rest_here before patterns c.loop-number.number op c.op_at.ensures.op) ∙ c.loop-number.invariant.rest;
    }

pub returns-clause-shape : goal.returns-clause-shape
returns-clause-shape c =
    let patterns = patterns_of c.args.ap.now in
    let before = placement_of c.loop-number.places in
    let all : length patterns ≤ c.loop-number.number = omega arith in
    let end = all_put before (place_ops nothing_placed patterns) patterns c.loop-number.number all c.loop-number.invariant.rest in
    answered c.args.ap.now before c.loop-number.places.shape.width c.put_outs.result c.requires end c.loop-number.invariant.width c.put_outs.ensures.graph c.put_outs.ensures.nodes c.put_outs.ensures.width
