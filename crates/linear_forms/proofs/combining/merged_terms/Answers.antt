use Rattle.std.proofs.Common.{◌≡◌, ℕ, ℤ, ◌+◌, ◌++◌, List, drop, refl, ap, ◌∙◌, arith, w64, to_z, of_z}
use Rattle.std.specs.Int.{w128}
use Rattle.std.proofs.lemmas.Int.{to_z-of_z}
use Rattle.linear_forms.proofs.Sizes.{back, narrow_back}
use Rattle.linear_forms.proofs.Ring.{weighted_same}
use Rattle.linear_forms.specs.Forms.{terms_of, weights_of, weight_on}
use Rattle.linear_forms.proofs.Terms.{rising_from, merged_more, merged_all, place_moves, terms_same}
use Rattle.linear_forms.proofs.combining.merged_terms.Goals as goal

pub loop-leaf-preserved : goal.loop-leaf-preserved
loop-leaf-preserved c =
    let least = c.in-Some.ensures.some in
    let leaf = c.in-Some.leaf in
    let factor : ℤ = to_z w64 (of_z w64 c.args.factor) in
    let other_factor : ℤ = to_z w64 (of_z w64 c.args.other_factor) in
    let left : List (ℕ × ℤ) = drop c.loop-leaf.place c.args.terms.now in
    let other_left : List (ℕ × ℤ) = drop c.loop-leaf.other_place c.args.others.now in
    let later : List (ℕ × ℤ) = drop c.past-place.result c.args.terms.now in
    let other_later : List (ℕ × ℤ) = drop c.past-other_place.result c.args.others.now in
    let is : to_z w128 (of_z w128 c.weighted.result) ≡ weights_of factor left other_factor other_left leaf =
    back c.weighted.result (omega (arith, c.weighted.ensures.size)) ∙ c.weighted.ensures.sum
    ∙ weighted_same factor factor (to_z w64 (of_z w64 c.weight_from-own.result)) (weight_on left leaf)
    other_factor other_factor (to_z w64 (of_z w64 c.weight_from-other.result)) (weight_on other_left leaf)
    refl (narrow_back c.weight_from-own.result c.weight_from-own.ensures.size ∙ c.weight_from-own.ensures.weight)
    refl (narrow_back c.weight_from-other.result c.weight_from-other.ensures.size ∙ c.weight_from-other.ensures.weight) in
    record {
      within = c.past-place.ensures.within;
      other_within = c.past-other_place.ensures.within;
      rising = rising_from (leaf + 1) 0 later (omega arith) c.past-place.ensures.rising;
      other_rising = rising_from (leaf + 1) 0 other_later (omega arith) c.past-other_place.ensures.rising;
      merged = λ leaves under other_under.
          ap (λ (ts : List (ℕ × ℤ)). ts ++ terms_of leaves (weights_of factor later other_factor other_later)) c.in_ok-push_term.ensures
          ∙ merged_more c.loop-leaf.merged.items factor other_factor left other_left later other_later leaves leaf (to_z w128 (of_z w128 c.weighted.result))
          (terms_of leaves (weights_of factor c.args.terms.now other_factor c.args.others.now))
          (least.below leaves under other_under) least.rising least.other_rising c.past-place.ensures.rising c.past-other_place.ensures.rising
          c.past-place.ensures.others c.past-other_place.ensures.others is (c.loop-leaf.invariant.merged leaves under other_under);
    }

pub loop-leaf-smaller : goal.loop-leaf-smaller
loop-leaf-smaller c =
    place_moves c.args.terms.now c.args.others.now c.loop-leaf.place c.loop-leaf.other_place c.in-Some.leaf c.past-place.result c.past-other_place.result
    c.in-Some.ensures.some c.past-place.ensures.place c.past-other_place.ensures.place c.past-place.ensures.within c.past-other_place.ensures.within

pub returns : goal.returns
returns c = λ leaves under other_under.
    let terms = c.args.terms.now in
    let others = c.args.others.now in
    let factor : ℤ = to_z w64 (of_z w64 c.args.factor) in
    let other_factor : ℤ = to_z w64 (of_z w64 c.args.other_factor) in
    merged_all c.loop-leaf.merged.items terms others (terms_of leaves (weights_of factor terms other_factor others))
    factor other_factor c.loop-leaf.place c.loop-leaf.other_place leaves
    c.in_default.ensures.none c.in_default.ensures.other_none (c.loop-leaf.invariant.merged leaves under other_under)
    ∙ terms_same leaves factor c.args.factor terms terms other_factor c.args.other_factor others others
    (to_z-of_z w64 c.args.factor c.ranges.factor) refl (to_z-of_z w64 c.args.other_factor c.ranges.other_factor) refl
