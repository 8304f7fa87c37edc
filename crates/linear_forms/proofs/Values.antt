-- The value of a sum of multiples of forms.
use Rattle.std.proofs.Common.{◌≡◌, ◌≢◌, ℕ, zero, suc, ◌+◌, ◌<◌, ◌≤◌, ◌==◌, true, false, List, [], ◌∷◌, ◌++◌, length, map, get_or, All, ℤ, pos, ◌+ℤ◌, ◌*ℤ◌, refl, sym, ap, ◌∙◌, subst, inl, inr, arith}
use lib.IntN.{zero-*ℤ}
use Rattle.std.specs.Prelude.{◌⊎◌, unsigned_abs}
use Rattle.std.specs.Ordering.{int_eq}
use Rattle.std.specs.List.{AllByRecursion}
use Rattle.std.proofs.lemmas.Int.{ints}
use Rattle.std.proofs.lemmas.Bool.{cases_order, cases_Bool, eq-eqb, ne_eqb}
use Rattle.std.proofs.lemmas.Bool.Decides.{Decides-int_eq}
use Rattle.std.proofs.lemmas.List.{map-append, get_or_append_left, append-nil}
use Rattle.std.proofs.lemmas.List.Elements.{All-append, All-from_recursion, recursion_from_All}
use Rattle.forms.specs.Forms.{int_sum, number_at, range_at, form_value, form_range, least_of_term, greatest_of_term, AreRising}
use Rattle.linear_forms.specs.declared.linear.Form.{Form}
use Rattle.linear_forms.specs.Forms.{weight_on, term_on, terms_of, weighted, weights_of, combined, size_of}
use Rattle.linear_forms.specs.Sound.{AreBelow}
use Rattle.linear_forms.specs.Laws.{value_of}
use Rattle.linear_forms.proofs.Ring.{sum_times, weighted_sums, weighted_times, weighted_same, weighted_none}
use Rattle.linear_forms.proofs.Sizes.{weights_within, constant_within}

-- ---- terms of weights

term_cases : (leaf : ℕ) (weight : ℤ) → ((weight ≡ pos 0) × (term_on leaf weight ≡ [])) ⊎ ((weight ≢ pos 0) × (term_on leaf weight ≡ (leaf, weight) ∷ []))
term_cases leaf weight = elim (cases_Bool (int_eq weight (pos 0))) [
  | inl is ↦ inl ((Decides-int_eq weight (pos 0)).0 is, rw is refl)
  | inr other ↦ inr (λ e. let both : int_eq weight (pos 0) ≡ true = (Decides-int_eq weight (pos 0)).1 e in absurd (let clash : true ≡ false = sym both ∙ other in cc), rw other refl)
]

rising_push : (low : ℕ) (terms : List (ℕ × ℤ)) (t : ℕ × ℤ) → low ≤ t.0 → AreRising low terms → AllByRecursion (λ (u : ℕ × ℤ). u.0 < t.0) terms → AreRising low (terms ++ t ∷ [])
rising_push low [] t above rising below = (above, tt)
rising_push low (u ∷ terms) t above rising below = (rising.0, rising_push (u.0 + 1) terms t (omega (arith, below.0)) rising.1 below.1)

pub terms_below : (leaves : ℕ) (weight : ℕ → ℤ) → AreBelow leaves (terms_of leaves weight)
terms_below zero weight = λ k d within. absurd (omega arith)
terms_below (suc leaves) weight =
    let rest : AreBelow (suc leaves) (terms_of leaves weight) = λ k d within. omega (arith, terms_below leaves weight k d within) in
    let last : AreBelow (suc leaves) (term_on leaves (weight leaves)) = elim (term_cases leaves (weight leaves)) [
      | inl no_one ↦ subst (λ (ts : List (ℕ × ℤ)). AreBelow (suc leaves) ts) (sym no_one.1) (λ k d within. absurd (omega arith))
      | inr one ↦ subst (λ (ts : List (ℕ × ℤ)). AreBelow (suc leaves) ts) (sym one.1) (All-from_recursion (λ (t : ℕ × ℤ). t.0 < suc leaves) ((leaves, weight leaves) ∷ []) (omega arith, tt))
    ] in
    All-append (λ (t : ℕ × ℤ). t.0 < suc leaves) (terms_of leaves weight) (term_on leaves (weight leaves)) rest last

pub terms_rising : (leaves : ℕ) (weight : ℕ → ℤ) → AreRising 0 (terms_of leaves weight)
terms_rising zero weight = tt
terms_rising (suc leaves) weight = elim (term_cases leaves (weight leaves)) [
  | inl no_one ↦
      let same : terms_of leaves weight ≡ terms_of leaves weight ++ term_on leaves (weight leaves) = sym (append-nil (terms_of leaves weight)) ∙ ap (λ ts. terms_of leaves weight ++ ts) (sym no_one.1) in
      subst (λ ts. AreRising 0 ts) same (terms_rising leaves weight)
  | inr one ↦
      let same : terms_of leaves weight ++ (leaves, weight leaves) ∷ [] ≡ terms_of leaves weight ++ term_on leaves (weight leaves) = ap (λ ts. terms_of leaves weight ++ ts) (sym one.1) in
      subst (λ ts. AreRising 0 ts) same (rising_push 0 (terms_of leaves weight) (leaves, weight leaves) (omega arith) (terms_rising leaves weight)
      (recursion_from_All (λ (t : ℕ × ℤ). t.0 < leaves) (terms_of leaves weight) (terms_below leaves weight)))
]

pub terms_weights : (leaves : ℕ) (weight : ℕ → ℤ) → All (λ (t : ℕ × ℤ). t.1 ≢ pos 0) (terms_of leaves weight)
terms_weights zero weight = λ k d within. absurd (omega arith)
terms_weights (suc leaves) weight =
    let P : ℕ × ℤ → Type 0 = λ t. t.1 ≢ pos 0 in
    let last : All P (term_on leaves (weight leaves)) = elim (term_cases leaves (weight leaves)) [
      | inl no_one ↦ subst (λ (ts : List (ℕ × ℤ)). All P ts) (sym no_one.1) (λ k d within. absurd (omega arith))
      | inr one ↦ subst (λ (ts : List (ℕ × ℤ)). All P ts) (sym one.1) (All-from_recursion P ((leaves, weight leaves) ∷ []) (one.0, tt))
    ] in
    All-append P (terms_of leaves weight) (term_on leaves (weight leaves)) (terms_weights leaves weight) last

-- ---- sums over all leaves

abbrev weighed : ℕ → (ℕ → ℤ) → (ℕ → ℤ) → ℤ
weighed zero weight value = pos 0
weighed (suc leaves) weight value = weighed leaves weight value +ℤ weight leaves *ℤ value leaves

weighed_same : (leaves : ℕ) (weight other value : ℕ → ℤ) → ((x : ℕ) → x < leaves → weight x ≡ other x) → weighed leaves weight value ≡ weighed leaves other value
weighed_same zero weight other value same = refl
weighed_same (suc leaves) weight other value same =
    ap (λ s. s +ℤ weight leaves *ℤ value leaves) (weighed_same leaves weight other value (λ x lower. same x (omega (arith, lower))))
    ∙ ap (λ w. weighed leaves other value +ℤ w *ℤ value leaves) (same leaves (omega arith))

move_first : (d zv wv s : ℤ) → s ≡ zv +ℤ wv → d +ℤ s ≡ zv +ℤ (d +ℤ wv)
move_first d zv wv s p = omega (arith, ints)

move_last : (d zv wv s : ℤ) → s ≡ zv +ℤ d → s +ℤ wv ≡ zv +ℤ (d +ℤ wv)
move_last d zv wv s p = omega (arith, ints)

-- a weight more on one leaf
weighed_more : (leaves leaf : ℕ) (z : ℤ) (weight other value : ℕ → ℤ) → leaf < leaves → other leaf ≡ z +ℤ weight leaf
    → ((x : ℕ) → x ≢ leaf → other x ≡ weight x) → weighed leaves other value ≡ z *ℤ value leaf +ℤ weighed leaves weight value
weighed_more zero leaf z weight other value below here rest = absurd (omega arith)
weighed_more (suc leaves) leaf z weight other value below here rest = elim (cases_order leaf leaves) [
  | inl same ↦
      let first : weighed leaves other value ≡ weighed leaves weight value = weighed_same leaves other weight value (λ x lower. rest x (λ e. omega (arith, e, lower, same))) in
      let at : other leaves ≡ z +ℤ weight leaves = subst (λ l. other l ≡ z +ℤ weight l) same here in
      let last : other leaves *ℤ value leaves ≡ z *ℤ value leaves +ℤ weight leaves *ℤ value leaves = ap (λ w. w *ℤ value leaves) at ∙ sum_times z (weight leaves) (value leaves) in
      let own : z *ℤ value leaf ≡ z *ℤ value leaves = ap (λ l. z *ℤ value l) same in
      ap (λ s. s +ℤ other leaves *ℤ value leaves) first
      ∙ move_first (weighed leaves weight value) (z *ℤ value leaves) (weight leaves *ℤ value leaves) (other leaves *ℤ value leaves) last
      ∙ ap (λ s. s +ℤ (weighed leaves weight value +ℤ weight leaves *ℤ value leaves)) (sym own)
  | inr order ↦ elim order [
    | inl less ↦
        let last : other leaves ≡ weight leaves = rest leaves (λ e. omega (arith, e, less)) in
        ap (λ w. weighed leaves other value +ℤ w *ℤ value leaves) last
        ∙ move_last (weighed leaves weight value) (z *ℤ value leaf) (weight leaves *ℤ value leaves) (weighed leaves other value)
        (weighed_more leaves leaf z weight other value less here rest)
    | inr more ↦ absurd (omega (arith, more, below))
  ]
]

weighed_none : (leaves : ℕ) (value : ℕ → ℤ) → weighed leaves (λ x. pos 0) value ≡ pos 0
weighed_none zero value = refl
weighed_none (suc leaves) value = rw (weighed_none leaves value, zero-*ℤ (value leaves)) refl

-- the sum over terms is that over all leaves
sum_of_terms : (leaves : ℕ) (terms : List (ℕ × ℤ)) (value : ℕ → ℤ) → AllByRecursion (λ (t : ℕ × ℤ). t.0 < leaves) terms
    → int_sum (map (λ (t : ℕ × ℤ). t.1 *ℤ value t.0) terms) ≡ weighed leaves (weight_on terms) value
sum_of_terms leaves [] value below = sym (weighed_none leaves value)
sum_of_terms leaves (t ∷ terms) value below =
    ap (λ s. t.1 *ℤ value t.0 +ℤ s) (sum_of_terms leaves terms value below.1)
    ∙ sym (weighed_more leaves t.0 t.1 (weight_on terms) (weight_on (t ∷ terms)) value below.0
    (let here : (t.0 == t.0) ≡ true = eq-eqb t.0 t.0 refl in rw here refl)
    (λ x differs. let other : (t.0 == x) ≡ false = ne_eqb t.0 x (λ e. differs (sym e)) in rw other refl))

alone : (z : ℤ) → z +ℤ pos 0 ≡ z
alone z = omega (arith, ints)

regroup : (x y z : ℤ) → x +ℤ (y +ℤ z) ≡ (x +ℤ y) +ℤ z
regroup x y z = omega (arith, ints)

none_before : (z : ℤ) → z ≡ pos 0 +ℤ z
none_before z = omega (arith, ints)

int_sum-append : (xs ys : List ℤ) → int_sum (xs ++ ys) ≡ int_sum xs +ℤ int_sum ys
int_sum-append [] ys = none_before (int_sum ys)
int_sum-append (x ∷ xs) ys = ap (λ s. x +ℤ s) (int_sum-append xs ys) ∙ regroup x (int_sum xs) (int_sum ys)

sum_of_weights : (leaves : ℕ) (weight value : ℕ → ℤ) → int_sum (map (λ (t : ℕ × ℤ). t.1 *ℤ value t.0) (terms_of leaves weight)) ≡ weighed leaves weight value
sum_of_weights zero weight value = refl
sum_of_weights (suc leaves) weight value =
    let f : ℕ × ℤ → ℤ = λ t. t.1 *ℤ value t.0 in
    let last : int_sum (map f (term_on leaves (weight leaves))) ≡ weight leaves *ℤ value leaves = elim (term_cases leaves (weight leaves)) [
      | inl no_one ↦ ap (λ ts. int_sum (map f ts)) no_one.1 ∙ sym (ap (λ w. w *ℤ value leaves) no_one.0 ∙ zero-*ℤ (value leaves))
      | inr one ↦ ap (λ ts. int_sum (map f ts)) one.1 ∙ alone (weight leaves *ℤ value leaves)
    ] in
    ap int_sum (map-append f (terms_of leaves weight) (term_on leaves (weight leaves)))
    ∙ int_sum-append (map f (terms_of leaves weight)) (map f (term_on leaves (weight leaves)))
    ∙ ap (λ s. s +ℤ int_sum (map f (term_on leaves (weight leaves)))) (sum_of_weights leaves weight value)
    ∙ ap (λ s. weighed leaves weight value +ℤ s) last

-- sums of multiples
weighed_weighted : (leaves : ℕ) (f g : ℤ) (a b value : ℕ → ℤ)
    → weighed leaves (λ x. weighted f (a x) g (b x)) value ≡ weighted f (weighed leaves a value) g (weighed leaves b value)
weighed_weighted zero f g a b value = sym (weighted_none f (pos 0) g (pos 0) refl refl)
weighed_weighted (suc leaves) f g a b value =
    ap (λ s. s +ℤ weighted f (a leaves) g (b leaves) *ℤ value leaves) (weighed_weighted leaves f g a b value)
    ∙ ap (λ s. weighted f (weighed leaves a value) g (weighed leaves b value) +ℤ s) (weighted_times f (a leaves) g (b leaves) (value leaves))
    ∙ sym (weighted_sums f (weighed leaves a value) (a leaves *ℤ value leaves) g (weighed leaves b value) (b leaves *ℤ value leaves))

outer : (moved x y s : ℤ) → s ≡ x +ℤ y → (moved +ℤ x) +ℤ y ≡ moved +ℤ s
outer moved x y s p = omega (arith, ints)

-- the value of a sum of multiples
pub value_combined : (leaves : ℕ) (moved factor : ℤ) (form : Form) (other_factor : ℤ) (other : Form) (values : List ℤ)
    → AreBelow leaves form.terms → AreBelow leaves other.terms
    → value_of (combined leaves moved factor form other_factor other) values
    ≡ moved +ℤ weighted factor (value_of form values) other_factor (value_of other values)
value_combined leaves moved factor form other_factor other values below other_below =
    let value : ℕ → ℤ = λ x. number_at values x in
    let first : ℤ = int_sum (map (λ (t : ℕ × ℤ). t.1 *ℤ value t.0) form.terms) in
    let second : ℤ = int_sum (map (λ (t : ℕ × ℤ). t.1 *ℤ value t.0) other.terms) in
    let sums : int_sum (map (λ (t : ℕ × ℤ). t.1 *ℤ value t.0) (terms_of leaves (weights_of factor form.terms other_factor other.terms)))
    ≡ weighted factor first other_factor second =
    sum_of_weights leaves (weights_of factor form.terms other_factor other.terms) value
    ∙ weighed_weighted leaves factor other_factor (weight_on form.terms) (weight_on other.terms) value
    ∙ weighted_same factor factor _ first other_factor other_factor _ second refl
    (sym (sum_of_terms leaves form.terms value (recursion_from_All (λ (t : ℕ × ℤ). t.0 < leaves) form.terms below))) refl
    (sym (sum_of_terms leaves other.terms value (recursion_from_All (λ (t : ℕ × ℤ). t.0 < leaves) other.terms other_below))) in
    ap (λ s. (moved +ℤ weighted factor form.constant other_factor other.constant) +ℤ s) sums
    ∙ outer moved (weighted factor form.constant other_factor other.constant) (weighted factor first other_factor second)
    (weighted factor (form.constant +ℤ first) other_factor (other.constant +ℤ second))
    (weighted_sums factor form.constant first other_factor other.constant second)

-- ---- sizes

pub constant_size : (form : Form) (most : ℕ) → size_of form ≤ most → unsigned_abs form.constant ≤ most
constant_size form most small = constant_within form.terms (unsigned_abs form.constant) most small

pub weight_size : (form : Form) (most : ℕ) → size_of form ≤ most → All (λ (t : ℕ × ℤ). unsigned_abs t.1 ≤ most) form.terms
weight_size form most small = weights_within form.terms (unsigned_abs form.constant) most small
