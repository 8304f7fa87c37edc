use Rattle.std.proofs.Common.{◌+◌, ◌≤◌, pos, arith, ◌∙◌, sym, subst, w64, to_z, of_z}
use Rattle.std.specs.Int.{w128}
use Rattle.forms.specs.Forms.{least_of_term, greatest_of_term}
use Rattle.range_pass.proofs.Sums.{IsNear, near_more, form_more, sum_fits, sum_is}
use Rattle.range_pass.proofs.range_of.Goals as goal

pub overflow_add-greatest : goal.overflow_add-greatest
overflow_add-greatest c =
    let few : c.loop-term.term-index + 1 ≤ 4096 = omega (arith, c.requires.few, c.loop-term-test.true) in
    sum_fits c.loop-term.term-index (to_z w128 c.loop-term.greatest-bits) c.from-greatest-in-loop-term.result c.range_of_term-at_least.result.1 few c.loop-term.invariant.greatest_near c.range_of_term-at_least.ensures.greatest_size c.from-greatest-in-loop-term.ensures

pub loop-term-preserved : goal.loop-term-preserved
loop-term-preserved c =
    let i = c.loop-term.term-index in
    let terms = c.args.terms.now in
    let ranges = c.args.ranges.now in
    let constant = to_z w64 (of_z w64 c.args.constant) in
    let sum_least = to_z w128 c.loop-term.least-bits in
    let sum_greatest = to_z w128 c.loop-term.greatest-bits in
    let so_far = c.loop-term.invariant in
    let term = c.range_of_term-at_least in
    let few : i + 1 ≤ 4096 = omega (arith, c.requires.few, c.loop-term-test.true) in
    let least = sum_is i sum_least c.from-least-in-loop-term.result term.result.0 few so_far.least_near term.ensures.least_size c.from-least-in-loop-term.ensures in
    let greatest = sum_is i sum_greatest c.from-greatest-in-loop-term.result term.result.1 few so_far.greatest_near term.ensures.greatest_size c.from-greatest-in-loop-term.ensures in
    record {
      least = least ∙ form_more (least_of_term ranges) terms i (0, pos 0) constant sum_least term.result.0 c.loop-term-test.true so_far.least term.ensures.least;
      greatest = greatest ∙ form_more (greatest_of_term ranges) terms i (0, pos 0) constant sum_greatest term.result.1 c.loop-term-test.true so_far.greatest term.ensures.greatest;
      least_near = subst (IsNear (i + 1)) (sym least) (near_more i sum_least term.result.0 so_far.least_near term.ensures.least_size);
      greatest_near = subst (IsNear (i + 1)) (sym greatest) (near_more i sum_greatest term.result.1 so_far.greatest_near term.ensures.greatest_size);
    }
