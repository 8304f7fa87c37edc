use Rattle.std.proofs.Common.{◌≡◌, ℕ, ℤ, ◌+ℤ◌, List, sym, ap, ◌∙◌, subst, arith, w64, to_z, of_z}
use Rattle.std.proofs.lemmas.Int.{to_z-of_z}
use Rattle.linear_forms.specs.Forms.{terms_of, weights_of, weighted}
use Rattle.linear_forms.specs.Sound.{AreBelow}
use Rattle.linear_forms.proofs.Sizes.{sum_back, sum_fits, narrow_back}
use Rattle.linear_forms.proofs.Ring.{weighted_same}
use Rattle.linear_forms.proofs.Terms.{same_form, terms_same}
use Rattle.linear_forms.proofs.combining.combined.Goals as goal

pub overflow_add-result : goal.overflow_add-result
overflow_add-result c =
    sum_fits c.args.moved c.weighted-sum.result (omega (arith, c.requires.moved)) (omega (arith, c.weighted-sum.ensures.size))

pub returns : goal.returns
returns c = λ leaves under other_under.
    let form = c.args.form.now in
    let other = c.args.other.now in
    let factor = c.args.factor in
    let other_factor = c.args.other_factor in
    let one : c.as_slice.result.now ≡ form.terms = c.as_slice.ensures in
    let two : c.as_slice-2.result.now ≡ other.terms = c.as_slice-2.ensures in
    let sum : c.weighted-sum.result ≡ weighted factor form.constant other_factor other.constant =
    c.weighted-sum.ensures.sum
    ∙ weighted_same (to_z w64 (of_z w64 factor)) factor (to_z w64 (of_z w64 form.constant)) form.constant
    (to_z w64 (of_z w64 other_factor)) other_factor (to_z w64 (of_z w64 other.constant)) other.constant
    (to_z-of_z w64 factor c.ranges.factor) (narrow_back form.constant c.requires.form.constant)
    (to_z-of_z w64 other_factor c.ranges.other_factor) (narrow_back other.constant c.requires.other.constant) in
    let terms : c.in_ok-terms.terms.items ≡ terms_of leaves (weights_of factor form.terms other_factor other.terms) =
    c.in_ok-terms.ensures leaves (subst (λ (ts : List (ℕ × ℤ)). AreBelow leaves ts) (sym one) under) (subst (λ (ts : List (ℕ × ℤ)). AreBelow leaves ts) (sym two) other_under)
    ∙ terms_same leaves (to_z w64 (of_z w64 factor)) factor c.as_slice.result.now form.terms (to_z w64 (of_z w64 other_factor)) other_factor c.as_slice-2.result.now other.terms
    (to_z-of_z w64 factor c.ranges.factor) one (to_z-of_z w64 other_factor c.ranges.other_factor) two in
    same_form _ (c.args.moved +ℤ weighted factor form.constant other_factor other.constant) c.in_ok-terms.terms.items
    (terms_of leaves (weights_of factor form.terms other_factor other.terms))
    (sum_back c.args.moved c.weighted-sum.result (omega (arith, c.requires.moved)) (omega (arith, c.weighted-sum.ensures.size))
    ∙ ap (λ (x : ℤ). c.args.moved +ℤ x) sum) terms
