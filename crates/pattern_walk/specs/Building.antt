-- Forms that sums, multiples and look-ups have. These facts are proved on this page, so that each crate may cite them.
use Rattle.std.proofs.Common.{◌≡◌, ◌≢◌, ℕ, ◌<◌, ◌≤◌, List, [], ◌∷◌, length, All, ap, ◌∙◌, arith}
use Rattle.std.specs.Prelude.{ℤ, pos, neg_ℤ, ◌+ℤ◌, ◌*ℤ◌, ◌≤ℤ◌, slice_index}
use Rattle.std.proofs.lemmas.Int.{ints}
use Rattle.std.proofs.lemmas.List.Elements.{All-from_recursion}
use lib.IntN.{suc_ℤ-*ℤ, zero-*ℤ}
use Rattle.fhe_text.specs.declared.source.OpName.{OpName}
use Rattle.fhe_text.specs.declared.source.OpName.TheVariants.{AddEint, AddEintInt, SubEint, SubEintInt, SubIntEint, NegEint, MulEintInt, Zero, ApplyLookupTable}
use Rattle.fhe_level.specs.declared.level.FheOp.{FheOp}
use Rattle.forms.specs.Forms.{form_range, range_at, AreRising, AreRanges}
use Rattle.forms.specs.Limits.{most_weight}
use Rattle.forms.specs.Laws.{FormLaws}
use Rattle.range_pass.specs.Bounds.{AreSmall}
use Rattle.linear_forms.specs.declared.linear.Form.{Form}
use Rattle.linear_forms.specs.Forms.{constant_form, leaf_form, combined, size_of}
use Rattle.linear_forms.specs.Sound.{AreBelow, IsSmallForm}
use Rattle.linear_forms.specs.Laws.{SumLaws}
use Rattle.pattern_walk.specs.Sums.{form_at, constant_with, sum_form}
use Rattle.pattern_walk.specs.Looking.{range_on}
use Rattle.pattern_walk.specs.Safe.{IsBuilt, IsRangeOf16}

-- ---- how forms are built

-- a number has no leaf
pub constant_built : (leaves : ℕ) (z : ℤ) → IsBuilt leaves (constant_form z)
constant_built leaves z = record {
  rising = tt;
  below = λ k d within. absurd (omega arith);
  weights = λ k d within. absurd (omega arith);
}

one_not_none : pos 1 ≢ pos 0
one_not_none same = absurd (omega (arith, ints, same))

-- a leaf
pub leaf_built : (leaves leaf : ℕ) → leaf < leaves → IsBuilt leaves (leaf_form leaf)
leaf_built leaves leaf within = record {
  rising = (omega arith, tt);
  below = All-from_recursion (λ (t : ℕ × ℤ). t.0 < leaves) ((leaf, pos 1) ∷ []) (within, tt);
  weights = All-from_recursion (λ (t : ℕ × ℤ). t.1 ≢ pos 0) ((leaf, pos 1) ∷ []) (one_not_none, tt);
}

module _ (sums : SumLaws) where
  pub combined_built : (leaves : ℕ) (moved factor : ℤ) (form : Form) (other_factor : ℤ) (other : Form)
      → IsBuilt leaves (combined leaves moved factor form other_factor other)
  combined_built leaves moved factor form other_factor other = record {
    rising = sums.rising leaves _;
    below = sums.below leaves _;
    weights = sums.weights leaves _;
  }

  -- an operation that is no look-up
  pub sum_built : (leaves : ℕ) (operations : List (ℕ × FheOp)) (forms : List (ℕ × Form)) (name : OpName) (operands : List ℕ)
      → IsBuilt leaves (sum_form leaves operations forms name operands)
  sum_built leaves operations forms AddEint operands =
      combined_built leaves (pos 0) (pos 1) (form_at forms (slice_index operands 0)) (pos 1) (form_at forms (slice_index operands 1))
  sum_built leaves operations forms AddEintInt operands =
      combined_built leaves (constant_with operations (slice_index operands 1)) (pos 1) (form_at forms (slice_index operands 0)) (pos 0) (constant_form (pos 0))
  sum_built leaves operations forms SubEint operands =
      combined_built leaves (pos 0) (pos 1) (form_at forms (slice_index operands 0)) (neg_ℤ (pos 1)) (form_at forms (slice_index operands 1))
  sum_built leaves operations forms SubEintInt operands =
      combined_built leaves (neg_ℤ (constant_with operations (slice_index operands 1))) (pos 1) (form_at forms (slice_index operands 0)) (pos 0) (constant_form (pos 0))
  sum_built leaves operations forms SubIntEint operands =
      combined_built leaves (constant_with operations (slice_index operands 0)) (neg_ℤ (pos 1)) (form_at forms (slice_index operands 1)) (pos 0) (constant_form (pos 0))
  sum_built leaves operations forms NegEint operands =
      combined_built leaves (pos 0) (neg_ℤ (pos 1)) (form_at forms (slice_index operands 0)) (pos 0) (constant_form (pos 0))
  sum_built leaves operations forms MulEintInt operands =
      combined_built leaves (pos 0) (constant_with operations (slice_index operands 1)) (form_at forms (slice_index operands 0)) (pos 0) (constant_form (pos 0))
  sum_built leaves operations forms Zero operands = constant_built leaves (pos 0)
  sum_built leaves operations forms ApplyLookupTable operands = constant_built leaves (pos 0)

  -- a form that is small enough
  pub built_small : (leaves : ℕ) (form : Form) → IsBuilt leaves form → size_of form ≤ most_weight → IsSmallForm form
  built_small leaves form built small = record {
    constant = sums.constant_size form most_weight small;
    weights = sums.weight_size form most_weight small;
    rising = built.rising;
  }

  -- its range can be computed
  pub can_range : (ranges : List (ℤ × ℤ)) (form : Form) → IsSmallForm form → AreBelow (length ranges) form.terms
      → All IsRangeOf16 ranges → length ranges ≤ 1088 → AreSmall form.terms ranges
  can_range ranges form small below each few = record {
    few = let count = sums.count (length ranges) form.terms small.rising below in omega (arith, count, few);
    each_term = λ k d within. record { leaf = below k d within; weight = small.weights k d within };
    each_range = λ k d within.
        let range = each k d within in
        let low = range.low in let rising = range.rising in let high = range.high in
        record { lo = omega (arith, ints, low, rising, high); hi = omega (arith, ints, low, rising, high) };
  }

-- ---- ranges

module _ (laws : FormLaws) where
  -- the least value of a form is no more than the greatest
  pub range_rising : (ranges : List (ℤ × ℤ)) (constant : ℤ) (terms : List (ℕ × ℤ)) → All IsRangeOf16 ranges → AreRising 0 terms
      → AreBelow (length ranges) terms → (form_range constant terms ranges).0 ≤ℤ (form_range constant terms ranges).1
  range_rising ranges constant terms each rising below =
      let are : AreRanges ranges = λ k d within. (each k d within).rising in
      let reached = laws.least_reached constant terms ranges are rising below in
      let inside = laws.form constant terms ranges reached.0 reached.1 below in
      let least = inside.least in let most = inside.most in
      omega (arith, ints, least, most)

one_times : (z : ℤ) → pos 1 *ℤ z ≡ z
one_times z = omega (arith, ints, suc_ℤ-*ℤ (pos 0) z, zero-*ℤ z)

alone : (z : ℤ) → pos 0 +ℤ (pos 1 *ℤ z +ℤ pos 0) ≡ z
alone z = omega (arith, ints, one_times z)

pair_same : (a b c d : ℤ) → a ≡ c → b ≡ d → ◌≡◌ {A = ℤ × ℤ} (a, b) (c, d)
pair_same a b c d p q = ap (λ x. (x, b)) p ∙ ap (λ y. (c, y)) q

-- the range of a leaf
pub range_of_leaf : (ranges : List (ℤ × ℤ)) (leaf : ℕ) → range_on ranges (leaf_form leaf) ≡ range_at ranges leaf
range_of_leaf ranges leaf =
    pair_same _ _ _ _ (alone (range_at ranges leaf).0) (alone (range_at ranges leaf).1)

-- the value of a leaf
pub range_of_constant : (ranges : List (ℤ × ℤ)) (z : ℤ) → range_on ranges (constant_form z) ≡ (z, z)
range_of_constant ranges z = pair_same _ _ _ _ (omega (arith, ints)) (omega (arith, ints))
