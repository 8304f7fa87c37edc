use Rattle.std.proofs.Common.{◌≡◌, ℕ, ℤ, pos, ◌<◌, ◌≤◌, ◌++◌, List, [], ◌∷◌, length, take, get_or, sym, ap, ◌∙◌, subst, arith, w64, to_z, of_z}
use Rattle.std.specs.Int.{w128}
use Rattle.std.specs.Prelude.{unsigned_abs}
use Rattle.std.proofs.lemmas.List.{take_more, take_all}
use Rattle.forms.specs.Limits.{most_weight}
use Rattle.linear_forms.proofs.Sizes.{weights_within, constant_within, cast_fits, cast_back}
use Rattle.linear_forms.proofs.Terms.{same_form}
use Rattle.linear_forms.proofs.combining.narrowed.Goals as goal

pub overflow_cast-weight : goal.overflow_cast-weight
overflow_cast-weight c =
    let items = c.args.form.now.terms.items in
    let list = c.as_slice-leaf-items.result.now in
    let i = c.loop-leaf.leaf-index in
    let same : list ≡ items = c.as_slice-leaf-items.ensures.value in
    let inside : i < length items = omega (arith, c.loop-leaf-test.true, ap (λ (l : List (ℕ × ℤ)). length l) same) in
    let small : unsigned_abs (get_or list i (0, pos 0)).1 ≤ most_weight =
    subst (λ (l : List (ℕ × ℤ)). unsigned_abs (get_or l i (0, pos 0)).1 ≤ most_weight) (sym same)
    (weights_within items (unsigned_abs c.args.form.now.constant) most_weight c.requires i (0, pos 0) inside) in
    cast_fits (get_or list i (0, pos 0)).1 small

pub loop-leaf-preserved : goal.loop-leaf-preserved
loop-leaf-preserved c =
    let items = c.args.form.now.terms.items in
    let list = c.as_slice-leaf-items.result.now in
    let i = c.loop-leaf.leaf-index in
    let same : list ≡ items = c.as_slice-leaf-items.ensures.value in
    let t : ℕ × ℤ = get_or list i (0, pos 0) in
    let inside : i < length items = omega (arith, c.loop-leaf-test.true, ap (λ (l : List (ℕ × ℤ)). length l) same) in
    let small : unsigned_abs t.1 ≤ most_weight =
    subst (λ (l : List (ℕ × ℤ)). unsigned_abs (get_or l i (0, pos 0)).1 ≤ most_weight) (sym same)
    (weights_within items (unsigned_abs c.args.form.now.constant) most_weight c.requires i (0, pos 0) inside) in
    let back : to_z w64 (of_z w64 (to_z w128 (of_z w128 t.1))) ≡ t.1 = cast_back t.1 small in
    c.in_ok-push.ensures.items
    ∙ ap (λ (w : ℤ). c.loop-leaf.terms.items ++ (t.0, w) ∷ []) back
    ∙ ap (λ (l : List (ℕ × ℤ)). l ++ t ∷ []) c.loop-leaf.invariant
    ∙ ap (λ (l : List (ℕ × ℤ)). take i items ++ get_or l i (0, pos 0) ∷ []) same
    ∙ sym (take_more items i (0, pos 0) inside)

pub overflow_cast-result : goal.overflow_cast-result
overflow_cast-result c =
    cast_fits c.args.form.now.constant (constant_within c.args.form.now.terms.items (unsigned_abs c.args.form.now.constant) most_weight c.requires)

pub returns : goal.returns
returns c =
    let items = c.args.form.now.terms.items in
    let constant = c.args.form.now.constant in
    let list = c.as_slice-leaf-items.result.now in
    let same : list ≡ items = c.as_slice-leaf-items.ensures.value in
    let far : length items ≤ c.loop-leaf.leaf-index = omega (arith, c.loop-leaf-test.false, ap (λ (l : List (ℕ × ℤ)). length l) same) in
    let whole : c.from_vec.result ≡ items = c.from_vec.ensures ∙ c.loop-leaf.invariant ∙ take_all c.loop-leaf.leaf-index items far in
    same_form _ constant c.from_vec.result items
    (cast_back constant (constant_within items (unsigned_abs constant) most_weight c.requires)) whole
