-- The form of a sum or a multiple has the number that the operation gives.
use Rattle.std.proofs.Common.{◌≡◌, ℕ, ◌<◌, ◌≤◌, Bool, true, false, List, [], ◌∷◌, length, refl, sym, ap, ◌∙◌, subst, arith, Some}
use Rattle.std.specs.Prelude.{ℤ, pos, neg_ℤ, ◌+ℤ◌, ◌-ℤ◌, ◌*ℤ◌, slice_index}
use Rattle.std.specs.List.{slice_get}
use Rattle.std.proofs.lemmas.Int.{ints}
use Rattle.std.proofs.lemmas.Bool.{false≢true}
use lib.IntN.{suc_ℤ-*ℤ, pred_ℤ-*ℤ, zero-*ℤ, *ℤ_comm}
use Rattle.forms.specs.Forms.{AreIn}
use Rattle.ir_core.specs.Graph.{IsGraph, place_of}
use Rattle.linear_forms.specs.declared.linear.Form.{Form}
use Rattle.linear_forms.specs.Forms.{constant_form}
use Rattle.linear_forms.specs.Sound.{AreBelow}
use Rattle.linear_forms.specs.Laws.{SumLaws, value_of}
use Rattle.fhe_text.specs.declared.source.WrittenType.{WrittenType}
use Rattle.fhe_text.specs.declared.source.OpName.{OpName}
use Rattle.fhe_text.specs.declared.source.OpName.TheVariants.{AddEint, AddEintInt, SubEint, SubEintInt, SubIntEint, NegEint, MulEintInt, Zero, ApplyLookupTable}
use Rattle.fhe_level.specs.declared.level.FheOp.{FheOp}
use Rattle.fhe_level.specs.declared.level.FheOp.TheVariants as ops
use Rattle.fhe_level.specs.declared.program.Program.{Program}
use Rattle.fhe_level.specs.Limits.{width_of, is_table_name}
use Rattle.fhe_level.specs.Rows.{row_of, is_eint, is_eint_of, is_int, is_tensor}
use Rattle.fhe_level.specs.Programs.{entry_of}
use Rattle.fhe_level.specs.Operations.{operands_of}
use Rattle.fhe_level.specs.Clearing.{type_with, IsResult, IsFhe, number_of}
use Rattle.fhe_level.specs.Laws.{ValueLaws}
use Rattle.pattern_walk.specs.Sums.{form_at, constant_with, table_with, multiple, total, sum_form}
use Rattle.pattern_pass.proofs.Sound.{eint_result}
use Rattle.pattern_pass.proofs.Numbers.{before, apply_here, eint_by, row_here, constant_number, table_entry, no_operand, one_operand, two_operands, one_holds, two_hold}

-- ---- products

pub one_times : (z : ℤ) → pos 1 *ℤ z ≡ z
one_times z = omega (arith, ints, suc_ℤ-*ℤ (pos 0) z, zero-*ℤ z)

pub less_one_times : (z : ℤ) → neg_ℤ (pos 1) *ℤ z ≡ neg_ℤ z
less_one_times z = omega (arith, ints, pred_ℤ-*ℤ (pos 0) z, zero-*ℤ z)

-- ---- forms

module _ (sums : SumLaws) (leaves : ℕ) (values : List ℤ) where
  none_below : (z : ℤ) → AreBelow leaves (constant_form z).terms
  none_below z k d within = absurd (omega arith)

  with_none : (moved product none_times : ℤ) → none_times ≡ pos 0 → moved +ℤ (product +ℤ none_times) ≡ moved +ℤ product
  with_none moved product none_times e = omega (arith, ints, e)

  -- a number, and a number times a form
  pub multiple_value : (moved factor : ℤ) (form : Form) → AreBelow leaves form.terms
      → value_of (multiple leaves moved factor form) values ≡ moved +ℤ factor *ℤ value_of form values
  multiple_value moved factor form below =
      sums.value leaves moved factor form (pos 0) (constant_form (pos 0)) values below (none_below (pos 0))
      ∙ with_none moved (factor *ℤ value_of form values) (pos 0 *ℤ value_of (constant_form (pos 0)) values)
      (zero-*ℤ (value_of (constant_form (pos 0)) values))

  with_one : (z once other : ℤ) → once ≡ z → pos 0 +ℤ (once +ℤ other) ≡ z +ℤ other
  with_one z once other e = omega (arith, ints, e)

  -- a form, and a number times another
  pub total_value : (form : Form) (factor : ℤ) (other : Form) → AreBelow leaves form.terms → AreBelow leaves other.terms
      → value_of (total leaves form factor other) values ≡ value_of form values +ℤ factor *ℤ value_of other values
  total_value form factor other below other_below =
      sums.value leaves (pos 0) (pos 1) form factor other values below other_below
      ∙ with_one (value_of form values) (pos 1 *ℤ value_of form values) (factor *ℤ value_of other values) (one_times (value_of form values))

-- ---- numbers that are the same

added : (n a b x y s p : ℤ) → n ≡ a +ℤ b → a ≡ x → b ≡ y → s ≡ x +ℤ p → p ≡ y → n ≡ s
added n a b x y s p e f g h i = omega (arith, ints, e, f, g, h, i)

turned : (n a b x y s p : ℤ) → n ≡ a +ℤ b → a ≡ x → b ≡ y → s ≡ y +ℤ p → p ≡ x → n ≡ s
turned n a b x y s p e f g h i = omega (arith, ints, e, f, g, h, i)

taken : (n a b x y s p : ℤ) → n ≡ a -ℤ b → a ≡ x → b ≡ y → s ≡ x +ℤ p → p ≡ neg_ℤ y → n ≡ s
taken n a b x y s p e f g h i = omega (arith, ints, e, f, g, h, i)

taken_first : (n a b x y s p : ℤ) → n ≡ a -ℤ b → a ≡ x → b ≡ y → s ≡ neg_ℤ y +ℤ p → p ≡ x → n ≡ s
taken_first n a b x y s p e f g h i = omega (arith, ints, e, f, g, h, i)

negated : (n a x s p : ℤ) → n ≡ neg_ℤ a → a ≡ x → s ≡ pos 0 +ℤ p → p ≡ neg_ℤ x → n ≡ s
negated n a x s p e f h i = omega (arith, ints, e, f, h, i)

scaled : (s p q : ℤ) → s ≡ pos 0 +ℤ p → p ≡ q → q ≡ s
scaled s p q h i = omega (arith, ints, h, i)

nothing : (n s : ℤ) → n ≡ pos 0 → s ≡ pos 0 +ℤ pos 0 → n ≡ s
nothing n s e h = omega (arith, ints, e, h)

-- ---- sums and multiples

module _ (laws : ValueLaws) (sums : SumLaws) (program : Program) (inputs : List ℤ) (graph : IsGraph operands_of program.graph)
    (fhe : IsFhe program) (are : AreIn program.args inputs) (forms : List (ℕ × Form)) (leaves : ℕ) (values : List ℤ)
    (below : (wanted : ℕ) → AreBelow leaves (form_at forms wanted).terms) (place : ℕ) (few : place ≤ length program.graph.list)
    (numbers : (wanted : ℕ) → place_of program.graph.list wanted < place → IsResult program.graph.list wanted
    → number_of program inputs wanted ≡ value_of (form_at forms wanted) values) where
  abbrev list : List (ℕ × FheOp)
  list = program.graph.list

  abbrev value_at_form : ℕ → ℤ
  value_at_form wanted = value_of (form_at forms wanted) values

  -- an operand of the type of the result
  same_is : (width wanted : ℕ) → place_of list wanted < place → is_eint_of width (type_with list wanted) ≡ true
      → number_of program inputs wanted ≡ value_at_form wanted
  same_is width wanted earlier eint = numbers wanted earlier (eint_result list wanted (eint_by width (type_with list wanted) eint))

  -- and one that is a constant of the text
  constant_is : (wanted : ℕ) → place_of list wanted < place → is_int (type_with list wanted) ≡ true
      → number_of program inputs wanted ≡ constant_with list wanted
  constant_is wanted earlier int = constant_number laws program inputs graph fhe are wanted (omega (arith, earlier, few)) int

  module _ (number : ℕ) (at_place : place_of list number ≡ place) (ty : WrittenType) where
    abbrev IsHere : OpName → List ℕ → Type 0
    IsHere name operands = slice_get list (place_of list number) ≡ Some (number, ops.Apply name operands ty)

    abbrev IsSummed : OpName → List ℕ → Type 0
    IsSummed name operands =
        IsHere name operands → number_of program inputs number ≡ value_of (sum_form leaves list forms name operands) values

    -- the operand has the type of the result
    abbrev is_same : ℕ → Bool
    is_same wanted = is_eint_of (width_of ty) (type_with list wanted)

    -- it is a constant
    abbrev is_given : ℕ → Bool
    is_given wanted = is_int (type_with list wanted)

    first_before : (name : OpName) (a : ℕ) (operands : List ℕ) → IsHere name (a ∷ operands) → place_of list a < place
    first_before name a operands at =
        let is = before laws program inputs graph number (ops.Apply name (a ∷ operands) ty) at 0 0 (omega arith) in
        omega (arith, is, at_place)

    second_before : (name : OpName) (a b : ℕ) (operands : List ℕ) → IsHere name (a ∷ b ∷ operands) → place_of list b < place
    second_before name a b operands at =
        let is = before laws program inputs graph number (ops.Apply name (a ∷ b ∷ operands) ty) at 1 0 (omega arith) in
        omega (arith, is, at_place)

    add_is : (a b : ℕ) → IsSummed AddEint (a ∷ b ∷ [])
    add_is a b at =
        let row = row_here laws program inputs graph fhe are number (ops.Apply AddEint (a ∷ b ∷ []) ty) at in
        let fit = two_hold (is_eint ty) (is_same a) (is_same b) row.1 in
        added _ _ _ _ _ _ _
        (apply_here laws program inputs graph number AddEint (a ∷ b ∷ []) ty at)
        (same_is (width_of ty) a (first_before AddEint a (b ∷ []) at) fit.0)
        (same_is (width_of ty) b (second_before AddEint a b [] at) fit.1)
        (total_value sums leaves values (form_at forms a) (pos 1) (form_at forms b) (below a) (below b))
        (one_times (value_at_form b))

    add_constant_is : (a b : ℕ) → IsSummed AddEintInt (a ∷ b ∷ [])
    add_constant_is a b at =
        let row = row_here laws program inputs graph fhe are number (ops.Apply AddEintInt (a ∷ b ∷ []) ty) at in
        let fit = two_hold (is_eint ty) (is_same a) (is_given b) row.1 in
        turned _ _ _ _ _ _ _
        (apply_here laws program inputs graph number AddEintInt (a ∷ b ∷ []) ty at)
        (same_is (width_of ty) a (first_before AddEintInt a (b ∷ []) at) fit.0)
        (constant_is b (second_before AddEintInt a b [] at) fit.1)
        (multiple_value sums leaves values (constant_with list b) (pos 1) (form_at forms a) (below a))
        (one_times (value_at_form a))

    subtract_is : (a b : ℕ) → IsSummed SubEint (a ∷ b ∷ [])
    subtract_is a b at =
        let row = row_here laws program inputs graph fhe are number (ops.Apply SubEint (a ∷ b ∷ []) ty) at in
        let fit = two_hold (is_eint ty) (is_same a) (is_same b) row.1 in
        taken _ _ _ _ _ _ _
        (apply_here laws program inputs graph number SubEint (a ∷ b ∷ []) ty at)
        (same_is (width_of ty) a (first_before SubEint a (b ∷ []) at) fit.0)
        (same_is (width_of ty) b (second_before SubEint a b [] at) fit.1)
        (total_value sums leaves values (form_at forms a) (neg_ℤ (pos 1)) (form_at forms b) (below a) (below b))
        (less_one_times (value_at_form b))

    subtract_constant_is : (a b : ℕ) → IsSummed SubEintInt (a ∷ b ∷ [])
    subtract_constant_is a b at =
        let row = row_here laws program inputs graph fhe are number (ops.Apply SubEintInt (a ∷ b ∷ []) ty) at in
        let fit = two_hold (is_eint ty) (is_same a) (is_given b) row.1 in
        taken_first _ _ _ _ _ _ _
        (apply_here laws program inputs graph number SubEintInt (a ∷ b ∷ []) ty at)
        (same_is (width_of ty) a (first_before SubEintInt a (b ∷ []) at) fit.0)
        (constant_is b (second_before SubEintInt a b [] at) fit.1)
        (multiple_value sums leaves values (neg_ℤ (constant_with list b)) (pos 1) (form_at forms a) (below a))
        (one_times (value_at_form a))

    subtract_from_is : (a b : ℕ) → IsSummed SubIntEint (a ∷ b ∷ [])
    subtract_from_is a b at =
        let row = row_here laws program inputs graph fhe are number (ops.Apply SubIntEint (a ∷ b ∷ []) ty) at in
        let fit = two_hold (is_eint ty) (is_given a) (is_same b) row.1 in
        taken _ _ _ _ _ _ _
        (apply_here laws program inputs graph number SubIntEint (a ∷ b ∷ []) ty at)
        (constant_is a (first_before SubIntEint a (b ∷ []) at) fit.0)
        (same_is (width_of ty) b (second_before SubIntEint a b [] at) fit.1)
        (multiple_value sums leaves values (constant_with list a) (neg_ℤ (pos 1)) (form_at forms b) (below b))
        (less_one_times (value_at_form b))

    negate_is : (a : ℕ) → IsSummed NegEint (a ∷ [])
    negate_is a at =
        let row = row_here laws program inputs graph fhe are number (ops.Apply NegEint (a ∷ []) ty) at in
        let fits = one_holds (is_eint ty) (is_same a) row.1 in
        negated _ _ _ _ _
        (apply_here laws program inputs graph number NegEint (a ∷ []) ty at)
        (same_is (width_of ty) a (first_before NegEint a [] at) fits)
        (multiple_value sums leaves values (pos 0) (neg_ℤ (pos 1)) (form_at forms a) (below a))
        (less_one_times (value_at_form a))

    multiply_is : (a b : ℕ) → IsSummed MulEintInt (a ∷ b ∷ [])
    multiply_is a b at =
        let row = row_here laws program inputs graph fhe are number (ops.Apply MulEintInt (a ∷ b ∷ []) ty) at in
        let fit = two_hold (is_eint ty) (is_same a) (is_given b) row.1 in
        apply_here laws program inputs graph number MulEintInt (a ∷ b ∷ []) ty at
        ∙ ap (λ (z : ℤ). z *ℤ number_of program inputs b) (same_is (width_of ty) a (first_before MulEintInt a (b ∷ []) at) fit.0)
        ∙ ap (λ (z : ℤ). value_at_form a *ℤ z) (constant_is b (second_before MulEintInt a b [] at) fit.1)
        ∙ scaled _ _ _
        (multiple_value sums leaves values (pos 0) (constant_with list b) (form_at forms a) (below a))
        (*ℤ_comm (constant_with list b) (value_at_form a))

    zero_is : IsSummed Zero []
    zero_is at = nothing _ _ (apply_here laws program inputs graph number Zero [] ty at) refl

    two_by : (name : OpName) (operands : List ℕ) → length operands ≡ 2 → ((a b : ℕ) → IsSummed name (a ∷ b ∷ []))
        → IsSummed name operands
    two_by name operands long each =
        subst (IsSummed name) (sym (two_operands operands long)) (each (slice_index operands 0) (slice_index operands 1))

    many_here : (name : OpName) (operands : List ℕ) → IsHere name operands → length operands ≡ length (row_of name)
    many_here name operands at = (row_here laws program inputs graph fhe are number (ops.Apply name operands ty) at).0

    -- an operation that is no look-up has the value of its form
    pub sum_is : (name : OpName) (operands : List ℕ) → is_table_name name ≡ false → IsSummed name operands
    sum_is AddEint operands no_table at = two_by AddEint operands (many_here AddEint operands at) add_is at
    sum_is AddEintInt operands no_table at = two_by AddEintInt operands (many_here AddEintInt operands at) add_constant_is at
    sum_is SubEint operands no_table at = two_by SubEint operands (many_here SubEint operands at) subtract_is at
    sum_is SubEintInt operands no_table at = two_by SubEintInt operands (many_here SubEintInt operands at) subtract_constant_is at
    sum_is SubIntEint operands no_table at = two_by SubIntEint operands (many_here SubIntEint operands at) subtract_from_is at
    sum_is NegEint operands no_table at =
        subst (IsSummed NegEint) (sym (one_operand operands (many_here NegEint operands at))) (negate_is (slice_index operands 0)) at
    sum_is MulEintInt operands no_table at = two_by MulEintInt operands (many_here MulEintInt operands at) multiply_is at
    sum_is Zero operands no_table at = subst (IsSummed Zero) (sym (no_operand operands (many_here Zero operands at))) zero_is at
    sum_is ApplyLookupTable operands no_table at = absurd (false≢true (sym no_table))

    -- ---- look-ups

    -- its number is the table's entry at the value of the index
    abbrev IsLookedUp : List ℕ → Type 0
    IsLookedUp operands =
        IsHere ApplyLookupTable operands
        → number_of program inputs number ≡ entry_of (table_with list (slice_index operands 1)) (value_at_form (slice_index operands 0))

    pair_is : (a b : ℕ) → IsLookedUp (a ∷ b ∷ [])
    pair_is a b at =
        let row = row_here laws program inputs graph fhe are number (ops.Apply ApplyLookupTable (a ∷ b ∷ []) ty) at in
        let fit = two_hold (is_eint ty) (is_eint (type_with list a)) (is_tensor (type_with list b)) row.1 in
        let index_before = first_before ApplyLookupTable a (b ∷ []) at in
        let table_before = second_before ApplyLookupTable a b [] at in
        apply_here laws program inputs graph number ApplyLookupTable (a ∷ b ∷ []) ty at
        ∙ table_entry laws program inputs graph fhe are b (omega (arith, table_before, few)) (number_of program inputs a)
        ∙ ap (entry_of (table_with list b)) (numbers a index_before (eint_result list a fit.0))

    pub look_is : (operands : List ℕ) → IsLookedUp operands
    look_is operands at =
        let long = many_here ApplyLookupTable operands at in
        subst IsLookedUp (sym (two_operands operands long)) (pair_is (slice_index operands 0) (slice_index operands 1)) at
