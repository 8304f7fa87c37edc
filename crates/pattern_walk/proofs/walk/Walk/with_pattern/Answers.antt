use Rattle.std.proofs.Common.{◌≡◌, ℕ, ◌+◌, length, sym, ap, ◌∙◌, arith}
use Rattle.linear_forms.specs.Forms.{leaf_form}
use Rattle.forms.specs.Forms.{range_at}
use Rattle.pattern_walk.specs.Looking.{range_on, place_in}
use Rattle.pattern_walk.specs.Patterns.{look_in}
use Rattle.pattern_walk.specs.Walking.{Walked, with_leaf}
use Rattle.pattern_walk.specs.Building.{range_of_leaf}
use Rattle.pattern_walk.specs.Keeping.{leaf_few, leaf_counted}
use Rattle.pattern_walk.proofs.Given.{small_given}
use Rattle.pattern_walk.proofs.walk.Walk.with_pattern.Goals as goal

pub overflow_add-leaf : goal.overflow_add-leaf
overflow_add-leaf c =
    let looks = ap (λ (w : Walked). length w.looks) c.in_ok-walk.ensures.walk in
    let few = leaf_few c.args.program.now c.requires.limited c.args.self c.requires.safe (look_in c.args.pattern) in
    omega (arith, c.len-inputs.ensures, c.requires.limited.inputs, c.in_ok-walk.ensures.within, looks, few)

pub overflow_cast-leaf : goal.overflow_cast-leaf
overflow_cast-leaf c =
    let looks = ap (λ (w : Walked). length w.looks) c.in_ok-walk.ensures.walk in
    let few = leaf_few c.args.program.now c.requires.limited c.args.self c.requires.safe (look_in c.args.pattern) in
    omega (arith, c.len-inputs.ensures, c.requires.limited.inputs, c.in_ok-walk.ensures.within, looks, few)

pub leaf_range-range-requires : goal.leaf_range-range-requires
leaf_range-range-requires c =
    let looks = ap (λ (w : Walked). length w.looks) c.in_ok-walk.ensures.walk in
    let ranges = ap (λ (w : Walked). length w.ranges) c.in_ok-walk.ensures.walk in
    let counted = leaf_counted c.args.program.now c.requires.limited c.args.self c.requires.safe (look_in c.args.pattern) in
    omega (arith, c.len-inputs.ensures, c.in_ok-walk.ensures.within, looks, ranges, counted)

pub returns : goal.returns
returns c =
    let look = look_in c.args.pattern in
    let leaf : c.len-inputs.result + c.in_ok-walk.place ≡ length c.args.program.now.args + place_in c.args.self.looks look =
    omega (arith, c.len-inputs.ensures, c.in_ok-walk.ensures.place) in
    let range =
    c.leaf_range-range.ensures
    ∙ ap (λ (w : Walked). range_at w.ranges (c.len-inputs.result + c.in_ok-walk.place)) c.in_ok-walk.ensures.walk
    ∙ ap (λ (n : ℕ). range_at (with_leaf c.args.self look).ranges n) leaf
    ∙ sym (range_of_leaf (with_leaf c.args.self look).ranges (length c.args.program.now.args + place_in c.args.self.looks look)) in
    small_given c.with_small_form.result c.len-inputs.result (length c.args.program.now.args) c.in_ok-walk.walk (with_leaf c.args.self look) c.args.number c.args.ty
    _ _ _ _ c.len-inputs.ensures c.in_ok-walk.ensures.walk range
    (c.in_ok-form.ensures.form ∙ ap leaf_form leaf) c.with_small_form.ensures
