-- The code's numbers hold what comes next, one operation after the other. These facts are proved on this page, so that
-- each crate may cite them.
use Rattle.std.proofs.Common.{◌≡◌, ℕ, ◌+◌, ◌-◌, ◌<◌, ◌≤◌, ◌^◌, Bool, true, false, cond, List, [], ◌∷◌, ◌++◌, length, get_or, take, refl, sym, ap, ◌∙◌, subst, arith, Some, Ok}
use Rattle.std.specs.Prelude.{ℤ, pos, ◌≤ℤ◌, ◌&&◌, not, int_le, count_by, slice_index}
use Rattle.std.specs.Ordering.{int_eq}
use Rattle.std.specs.List.{list_any, slice_get, AllByRecursion}
use Rattle.std.proofs.Math.Pow.{pow_mono}
use Rattle.std.proofs.lemmas.Int.{ints, fold-int_max_bounds, fold-int_min_bounds}
use Rattle.std.proofs.lemmas.Bool.{false≢true}
use Rattle.std.proofs.lemmas.List.{length-append, get_or-append_right}
use Rattle.std.proofs.lemmas.List.Elements.{All-push, All-from_recursion, recursion_from_All}
use Rattle.std.proofs.lemmas.List.Sums.{count_by_more_yes, sum_by_more, sum_by-take-le}
use Rattle.std.proofs.lemmas.Option.{slice_get_within, get_or_from_slice_get}
use Rattle.forms.specs.Forms.{range_at}
use Rattle.forms.specs.Limits.{most_weight}
use Rattle.forms.specs.Laws.{FormLaws}
use Rattle.forms.specs.Ranges.{range_of_entries}
use Rattle.linear_forms.specs.declared.linear.Form.{Form}
use Rattle.linear_forms.specs.Forms.{constant_form, leaf_form, size_of}
use Rattle.linear_forms.specs.Laws.{SumLaws}
use Rattle.range_pass.specs.Bounds.{AreSmall}
use Rattle.live_patterns.specs.declared.patterns.Look.{Look}
use Rattle.fhe_text.specs.declared.source.WrittenType.{WrittenType}
use Rattle.fhe_text.specs.declared.source.WrittenType.TheVariants as types
use Rattle.fhe_text.specs.declared.source.OpName.{OpName}
use Rattle.fhe_text.specs.declared.source.OpName.TheVariants.{AddEint, AddEintInt, SubEint, SubEintInt, SubIntEint, NegEint, MulEintInt, Zero, ApplyLookupTable}
use Rattle.fhe_text.specs.declared.source.Entries.{Entries}
use Rattle.fhe_level.specs.declared.level.FheOp.{FheOp}
use Rattle.fhe_level.specs.declared.level.FheOp.TheVariants as ops
use Rattle.fhe_level.specs.declared.program.Program.{Program}
use Rattle.fhe_level.specs.Rows.{is_eint}
use Rattle.fhe_level.specs.Operations.{type_of}
use Rattle.fhe_level.specs.Clearing.{HasWidth, KeepsRow, AreArguments}
use Rattle.fhe_level.specs.Programs.{entry_of}
use Rattle.fhe_level.specs.Standing.{both, entry_has, argument_has_range}
use Rattle.pattern_walk.specs.Sums.{form_at, table_with}
use Rattle.pattern_walk.specs.Looking.{range_on, pattern_on, place_in, is_new, same_look}
use Rattle.pattern_walk.specs.Walking.{Walked, most_weights, with_form, with_weights, with_constant, with_range, with_leaf, with_statement, with_look_up, with_operation, step, is_in_type, nothing_walked}
use Rattle.fhe_level.specs.Checked.{IsChecked, looks_up}
use Rattle.pattern_walk.specs.Safe.{IsBuilt, IsRangeOf16, IsSafeForm, IsSafe}
use Rattle.pattern_walk.specs.Putting.{forms_put}
use Rattle.pattern_walk.specs.Building.{can_range, constant_built, leaf_built, sum_built, built_small, range_rising, range_of_leaf}
use Rattle.pattern_walk.specs.Places.{place_none, place_some}
use Rattle.fhe_level.specs.Limits.{width_of}
use Rattle.pattern_walk.specs.Passing.{holds_le, ok_same, statement_passed}

-- ---- ranges of types

-- a range that lies in an encrypted type of at most 16 bits
in_16 : (ty : WrittenType) (range : ℤ × ℤ) → is_eint ty ≡ true → HasWidth ty → is_in_type ty range ≡ true
    → range.0 ≤ℤ range.1 → IsRangeOf16 range
in_16 (types.Eint width) range eint wide inside rising =
    let parts = both (int_le (pos 0) range.0) (int_le range.1 (pos (2 ^ width - 1))) inside in
    let most : 2 ^ width ≤ 2 ^ 16 = pow_mono {i = width} {j = 16} wide.1 in
    let low = holds_le (pos 0) range.0 parts.0 in
    let high = holds_le range.1 (pos (2 ^ width - 1)) parts.1 in
    record { low = low; rising = rising; high = omega (arith, ints, high, most) }
in_16 (types.Int bits) range eint wide inside rising = absurd (false≢true eint)
in_16 (types.Tensor count bits) range eint wide inside rising = absurd (false≢true eint)

-- ---- leaves that are added

-- a form keeps what it has where leaves are added
pub built_more : (leaves more : ℕ) (form : Form) → leaves ≤ more → IsBuilt leaves form → IsBuilt more form
built_more leaves more form fewer built = record {
  rising = built.rising;
  below = λ k d within. let own = built.below k d within in omega (arith, own, fewer);
  weights = built.weights;
}

module _ (sums : SumLaws) where
  pub safe_more : (ranges : List (ℤ × ℤ)) (range : ℤ × ℤ) (form : Form) → IsSafeForm ranges form
      → IsSafeForm (ranges ++ range ∷ []) form
  safe_more ranges range form safe = record {
    small = safe.small;
    built = built_more (length ranges) (length (ranges ++ range ∷ [])) form (omega (arith, length-append ranges (range ∷ []))) safe.built;
    range = subst IsRangeOf16 (sym (sums.range_stays form.constant form.terms ranges (range ∷ []) safe.built.below)) safe.range;
  }

-- the least of the entries is no more than the greatest
pub entries_rising : (entries : List ℤ) → (range_of_entries entries).0 ≤ℤ (range_of_entries entries).1
entries_rising [] = omega (arith, ints)
entries_rising (entry ∷ entries) =
    let least = (fold-int_min_bounds entry entries _ refl).0 in
    let most = (fold-int_max_bounds entry entries _ refl).0 in
    omega (arith, ints, least, most)

-- ---- how many leaves there are

module _ (program : Program) (limited : IsChecked program) (walked : Walked) (safe : IsSafe program walked) where
  pub few_looks : length walked.looks ≤ 1024
  few_looks =
      let part = sum_by-take-le (λ (entry : ℕ × FheOp). cond (looks_up entry) 1 0) program.graph.list walked.place in
      omega (arith, part, safe.looks, limited.look_ups)

  pub few_leaves : length walked.ranges ≤ 1088
  few_leaves = omega (arith, few_looks, safe.leaves, limited.inputs)

  counted : (new : Bool) (look : Look)
      → length (with_range new walked.ranges (range_of_entries look.entries))
      ≡ length program.args + length (cond new (walked.looks ++ look ∷ []) walked.looks)
  counted true look =
      omega (arith, safe.leaves, length-append walked.ranges (range_of_entries look.entries ∷ []), length-append walked.looks (look ∷ []))
  counted false look = safe.leaves

  -- so with a leaf more
  pub leaf_counted : (look : Look) → length (with_leaf walked look).ranges ≡ length program.args + length (with_leaf walked look).looks
  leaf_counted look = counted (is_new walked.looks look) look

  few_by : (new : Bool) (look : Look) → length (cond new (walked.looks ++ look ∷ []) walked.looks) ≤ 1025
  few_by true look = omega (arith, few_looks, length-append walked.looks (look ∷ []))
  few_by false look = omega (arith, few_looks)

  pub leaf_few : (look : Look) → length (with_leaf walked look).looks ≤ 1025
  leaf_few look = few_by (is_new walked.looks look) look

  module _ (sums : SumLaws) where
    -- the range of a small form can be computed
    pub form_can : (form : Form) → IsBuilt (length walked.ranges) form → size_of form ≤ most_weight → AreSmall form.terms walked.ranges
    form_can form built small =
        can_range sums walked.ranges form (built_small sums (length walked.ranges) form built small) built.below safe.ranges few_leaves

    -- and that of a safe one
    pub safe_can : (number : ℕ) → AreSmall (form_at walked.forms number).terms walked.ranges
    safe_can number =
        let own = safe.forms number in
        can_range sums walked.ranges (form_at walked.forms number) own.small own.built.below safe.ranges few_leaves

-- ---- the safe state after an operation more

module _ (sums : SumLaws) (laws : FormLaws) (program : Program) (limited : IsChecked program) (walked : Walked)
    (safe : IsSafe program walked) where
  abbrev list : List (ℕ × FheOp)
  list = program.graph.list

  abbrev inputs : ℕ
  inputs = length program.args

  -- an operation has a type of at most 16 bits
  module _ (number : ℕ) (op : FheOp) (here : slice_get list walked.place ≡ Some (number, op)) where
    pub place_inside : walked.place < length list
    place_inside = slice_get_within list walked.place (number, op) here

    pub entry_here : (d : ℕ × FheOp) → get_or list walked.place d ≡ (number, op)
    entry_here d = get_or_from_slice_get list walked.place (number, op) d here

    pub width_here : HasWidth (type_of op)
    width_here = entry_has (λ (entry : ℕ × FheOp). HasWidth (type_of entry.1)) list walked.place (number, op) limited.fhe.widths here

    pub row_here : KeepsRow list op
    row_here = entry_has (λ (entry : ℕ × FheOp). KeepsRow list entry.1) list walked.place (number, op) limited.fhe.rows here

    -- there are no fewer look-ups with one operation more
    looks_more : count_by looks_up (take walked.place list) ≤ count_by looks_up (take (walked.place + 1) list)
    looks_more =
        let f : ℕ × FheOp → ℕ = λ (entry : ℕ × FheOp). cond (looks_up entry) 1 0 in
        let one = sum_by_more f list walked.place (number, op) place_inside in
        omega (arith, one)

    look_more : looks_up (number, op) ≡ true
        → count_by looks_up (take (walked.place + 1) list) ≡ count_by looks_up (take walked.place list) + 1
    look_more is =
        count_by_more_yes looks_up list walked.place (number, op) place_inside (ap looks_up (entry_here (number, op)) ∙ is)

    -- with no leaf more
    pub with_form_safe : (more : ℕ) (form : Form) → IsSafeForm walked.ranges form → walked.weights + more ≤ most_weights
        → IsSafe program (with_form (with_weights walked more) number form)
    with_form_safe more form own few = record {
      forms = forms_put (IsSafeForm walked.ranges) walked.forms number form own safe.forms;
      ranges = safe.ranges;
      leaves = safe.leaves;
      looks = omega (arith, safe.looks, looks_more);
      place = omega (arith, place_inside);
      weights = few;
    }

    pub constant_safe : IsSafe program (with_constant walked)
    constant_safe = record {
      forms = safe.forms;
      ranges = safe.ranges;
      leaves = safe.leaves;
      looks = omega (arith, safe.looks, looks_more);
      place = omega (arith, place_inside);
      weights = safe.weights;
    }

    -- with a leaf more, whose range has 16 bits
    pub with_new_leaf_safe : looks_up (number, op) ≡ true → (look : Look) (more : ℕ) (form : Form)
        → IsRangeOf16 (range_of_entries look.entries) → IsSafeForm (walked.ranges ++ range_of_entries look.entries ∷ []) form
        → walked.weights + more ≤ most_weights
        → IsSafe program (with_form (with_weights (record walked {
          looks = walked.looks ++ look ∷ [];
          ranges = walked.ranges ++ range_of_entries look.entries ∷ [];
        }) more) number form)
    with_new_leaf_safe is look more form range own few = record {
      forms = forms_put (IsSafeForm (walked.ranges ++ range_of_entries look.entries ∷ [])) walked.forms number form own
          (λ wanted. safe_more sums walked.ranges (range_of_entries look.entries) (form_at walked.forms wanted) (safe.forms wanted));
      ranges = All-push IsRangeOf16 walked.ranges (range_of_entries look.entries) safe.ranges range;
      leaves = omega (arith, safe.leaves, length-append walked.ranges (range_of_entries look.entries ∷ []), length-append walked.looks (look ∷ []));
      looks = omega (arith, safe.looks, look_more is, length-append walked.looks (look ∷ []));
      place = omega (arith, place_inside);
      weights = few;
    }

  -- ---- operations on others

  module _ (number : ℕ) (name : OpName) (operands : List ℕ) (ty : WrittenType)
      (here : slice_get list walked.place ≡ Some (number, ops.Apply name operands ty)) where
    eint_here : is_eint ty ≡ true
    eint_here = (both (is_eint ty) _ (row_here number (ops.Apply name operands ty) here).1).0

    -- a small form whose range lies in the type
    in_type_safe : (form : Form) → IsBuilt (length walked.ranges) form → size_of form ≤ most_weight
        → is_in_type ty (range_on walked.ranges form) ≡ true → IsSafeForm walked.ranges form
    in_type_safe form built small inside = record {
      small = built_small sums (length walked.ranges) form built small;
      built = built;
      range = in_16 ty (range_on walked.ranges form) eint_here (width_here number (ops.Apply name operands ty) here) inside
          (range_rising laws walked.ranges form.constant form.terms safe.ranges built.rising built.below);
    }

    pub statement_safe : (form : Form) (next : Walked) → IsBuilt (length walked.ranges) form
        → with_statement inputs walked number ty form ≡ Ok next → IsSafe program next
    statement_safe form next built e =
        let passed = statement_passed inputs walked number ty form next e in
        subst (IsSafe program) passed.1.is
        (with_form_safe number (ops.Apply name operands ty) here (length form.terms) form
        (in_type_safe form built passed.0 passed.1.inside) passed.1.weights)

    -- ---- look-ups

    -- the leaf of a pattern
    module _ (look : Look) (next : Walked) (is : looks_up (number, ops.Apply name operands ty) ≡ true) where
      abbrev leaf : ℕ
      leaf = inputs + place_in walked.looks look

      abbrev grown : Walked
      grown = record walked {
        looks = walked.looks ++ look ∷ [];
        ranges = walked.ranges ++ range_of_entries look.entries ∷ [];
      }

      new_leaf_safe : list_any (same_look look) walked.looks ≡ false
          → with_statement inputs grown number ty (leaf_form leaf) ≡ Ok next → IsSafe program next
      new_leaf_safe none e =
          let range = range_of_entries look.entries in
          let at : leaf ≡ length walked.ranges = omega (arith, place_none (same_look look) walked.looks none, safe.leaves) in
          let passed = statement_passed inputs grown number ty (leaf_form leaf) next e in
          let read : range_at grown.ranges leaf ≡ range =
          get_or-append_right walked.ranges (range ∷ []) (length walked.ranges) leaf (pos 0, pos 0) refl (omega (arith, at))
          ∙ ap (λ (n : ℕ). range_at (range ∷ []) n) (let none_over : leaf - length walked.ranges ≡ 0 = omega (arith, at) in none_over) in
          let on : range_on grown.ranges (leaf_form leaf) ≡ range = range_of_leaf grown.ranges leaf ∙ read in
          let inside : is_in_type ty range ≡ true = ap (is_in_type ty) (sym on) ∙ passed.1.inside in
          let small : IsRangeOf16 range =
          in_16 ty range eint_here (width_here number (ops.Apply name operands ty) here) inside (entries_rising look.entries) in
          let built : IsBuilt (length grown.ranges) (leaf_form leaf) =
          leaf_built (length grown.ranges) leaf (omega (arith, at, length-append walked.ranges (range ∷ []))) in
          let own : IsSafeForm grown.ranges (leaf_form leaf) = record {
            small = built_small sums (length grown.ranges) (leaf_form leaf) built passed.0;
            built = built;
            range = subst IsRangeOf16 (sym on) small;
          } in
          subst (IsSafe program) passed.1.is
          (with_new_leaf_safe number (ops.Apply name operands ty) here is look 1 (leaf_form leaf) small own passed.1.weights)

      old_leaf_safe : list_any (same_look look) walked.looks ≡ true
          → with_statement inputs walked number ty (leaf_form leaf) ≡ Ok next → IsSafe program next
      old_leaf_safe some e =
          let below = place_some (same_look look) walked.looks some in
          statement_safe (leaf_form leaf) next (leaf_built (length walked.ranges) leaf (omega (arith, below, safe.leaves))) e

      pub leaf_safe : with_statement inputs (with_leaf walked look) number ty (leaf_form leaf) ≡ Ok next → IsSafe program next
      leaf_safe e = by (list_any (same_look look) walked.looks) refl
        where
          chosen : Bool → Walked
          chosen c = record walked {
            looks = cond c (walked.looks ++ look ∷ []) walked.looks;
            ranges = cond c (walked.ranges ++ range_of_entries look.entries ∷ []) walked.ranges;
          }

          grows : (b : Bool) → list_any (same_look look) walked.looks ≡ b → chosen (is_new walked.looks look) ≡ chosen (not b)
          grows b same = ap (λ c. chosen (not c)) same

          by : (b : Bool) → list_any (same_look look) walked.looks ≡ b → IsSafe program next
          by true same =
              old_leaf_safe same (subst (λ (w : Walked). with_statement inputs w number ty (leaf_form leaf) ≡ Ok next) (grows true same) e)
          by false same =
              new_leaf_safe same (subst (λ (w : Walked). with_statement inputs w number ty (leaf_form leaf) ≡ Ok next) (grows false same) e)

    pub look_up_safe : (range : ℤ × ℤ) (input : Form) (found : Entries) (next : Walked)
        → looks_up (number, ops.Apply name operands ty) ≡ true
        → with_look_up inputs walked number ty range input found ≡ Ok next → IsSafe program next
    look_up_safe range input found next is e = by (int_eq range.0 range.1) refl
      where
        look : Look
        look = pattern_on range input found

        split : (b : Bool) → int_eq range.0 range.1 ≡ b
            → cond b (with_statement inputs walked number ty (constant_form (entry_of found range.0)))
            (with_statement inputs (with_leaf walked (pattern_on range input found)) number ty (leaf_form (inputs + place_in walked.looks (pattern_on range input found))))
            ≡ Ok next
        split b same =
            ap (λ c. cond c (with_statement inputs walked number ty (constant_form (entry_of found range.0)))
            (with_statement inputs (with_leaf walked (pattern_on range input found)) number ty (leaf_form (inputs + place_in walked.looks (pattern_on range input found)))))
            (sym same) ∙ e

        by : (b : Bool) → int_eq range.0 range.1 ≡ b → IsSafe program next
        by true same =
            statement_safe (constant_form (entry_of found range.0)) next (constant_built (length walked.ranges) (entry_of found range.0)) (split true same)
        by false same = leaf_safe (pattern_on range input found) next is (split false same)

  pub operation_safe : (number : ℕ) (name : OpName) (operands : List ℕ) (ty : WrittenType) (next : Walked)
      → slice_get list walked.place ≡ Some (number, ops.Apply name operands ty)
      → with_operation inputs list walked number name operands ty ≡ Ok next → IsSafe program next
  operation_safe number AddEint operands ty next here e =
      statement_safe number AddEint operands ty here _ next (sum_built sums (length walked.ranges) list walked.forms AddEint operands) e
  operation_safe number AddEintInt operands ty next here e =
      statement_safe number AddEintInt operands ty here _ next (sum_built sums (length walked.ranges) list walked.forms AddEintInt operands) e
  operation_safe number SubEint operands ty next here e =
      statement_safe number SubEint operands ty here _ next (sum_built sums (length walked.ranges) list walked.forms SubEint operands) e
  operation_safe number SubEintInt operands ty next here e =
      statement_safe number SubEintInt operands ty here _ next (sum_built sums (length walked.ranges) list walked.forms SubEintInt operands) e
  operation_safe number SubIntEint operands ty next here e =
      statement_safe number SubIntEint operands ty here _ next (sum_built sums (length walked.ranges) list walked.forms SubIntEint operands) e
  operation_safe number NegEint operands ty next here e =
      statement_safe number NegEint operands ty here _ next (sum_built sums (length walked.ranges) list walked.forms NegEint operands) e
  operation_safe number MulEintInt operands ty next here e =
      statement_safe number MulEintInt operands ty here _ next (sum_built sums (length walked.ranges) list walked.forms MulEintInt operands) e
  operation_safe number Zero operands ty next here e =
      statement_safe number Zero operands ty here _ next (sum_built sums (length walked.ranges) list walked.forms Zero operands) e
  operation_safe number ApplyLookupTable operands ty next here e =
      look_up_safe number ApplyLookupTable operands ty here
      (range_on walked.ranges (form_at walked.forms (slice_index operands 0)))
      (form_at walked.forms (slice_index operands 0)) (table_with list (slice_index operands 1)) next refl e

  -- ---- any operation

  -- an argument has its leaf
  argument_safe : (number : ℕ) (ty : WrittenType) → slice_get list walked.place ≡ Some (number, ops.Arg ty)
      → IsSafe program (with_form (with_weights walked 0) number (leaf_form walked.place))
  argument_safe number ty here =
      let has = argument_has_range list program.args walked.place number ty limited.fhe.arguments here in
      let within : walked.place < length walked.ranges = omega (arith, has, safe.leaves) in
      let built = leaf_built (length walked.ranges) walked.place within in
      let own : IsSafeForm walked.ranges (leaf_form walked.place) = record {
        small = built_small sums (length walked.ranges) (leaf_form walked.place) built (omega arith);
        built = built;
        range = subst IsRangeOf16 (sym (range_of_leaf walked.ranges walked.place)) (safe.ranges walked.place (pos 0, pos 0) within);
      } in
      with_form_safe number (ops.Arg ty) here 0 (leaf_form walked.place) own (omega (arith, safe.weights))

  pub step_safe : (number : ℕ) (op : FheOp) (next : Walked) → slice_get list walked.place ≡ Some (number, op)
      → step inputs list walked number op ≡ Ok next → IsSafe program next
  step_safe number (ops.Arg ty) next here e =
      subst (IsSafe program) (ok_same (with_form walked number (leaf_form walked.place)) next e) (argument_weightless number ty here)
    where
      argument_weightless : (number : ℕ) (ty : WrittenType) → slice_get list walked.place ≡ Some (number, ops.Arg ty)
          → IsSafe program (with_form walked number (leaf_form walked.place))
      argument_weightless number ty here =
          let with_none = argument_safe number ty here in
          record {
            forms = with_none.forms;
            ranges = with_none.ranges;
            leaves = with_none.leaves;
            looks = with_none.looks;
            place = with_none.place;
            weights = safe.weights;
          }
  step_safe number (ops.Int value bits) next here e =
      subst (IsSafe program) (ok_same (with_constant walked) next e) (constant_safe number (ops.Int value bits) here)
  step_safe number (ops.Dense found count bits) next here e =
      subst (IsSafe program) (ok_same (with_constant walked) next e) (constant_safe number (ops.Dense found count bits) here)
  step_safe number (ops.Apply name operands ty) next here e = operation_safe number name operands ty next here e

-- ---- before the first operation

width_16 : (ty : WrittenType) → HasWidth ty → width_of ty ≤ 16
width_16 (types.Eint width) wide = wide.1
width_16 (types.Int bits) wide = omega arith
width_16 (types.Tensor count bits) wide = omega arith

arguments_16 : (operations : List (ℕ × FheOp)) (ranges : List (ℤ × ℤ)) → AreArguments operations ranges
    → AllByRecursion (λ entry. HasWidth (type_of entry.1)) operations → AllByRecursion IsRangeOf16 ranges
arguments_16 operations [] are widths = tt
arguments_16 [] (range ∷ ranges) are widths = absurd are
arguments_16 (entry ∷ operations) (range ∷ ranges) are widths =
    let ty = type_of entry.1 in
    let most : 2 ^ width_of ty ≤ 2 ^ 16 = pow_mono {i = width_of ty} {j = 16} (width_16 ty widths.0) in
    let ends = both (int_le range.0 range.1 && int_le (pos 0) range.0) (int_le range.1 (pos (2 ^ width_of ty - 1))) are.1 in
    let rising = both (int_le range.0 range.1) (int_le (pos 0) range.0) ends.0 in
    let high = holds_le range.1 (pos (2 ^ width_of ty - 1)) ends.1 in (
      record {
        low = holds_le (pos 0) range.0 rising.1;
        rising = holds_le range.0 range.1 rising.0;
        high = omega (arith, ints, high, most);
      },
      arguments_16 operations ranges are.2 widths.1,
    )

nothing_safe : (ranges : List (ℤ × ℤ)) → IsSafeForm ranges (constant_form (pos 0))
nothing_safe ranges = record {
  small = record { constant = omega arith; weights = λ k d within. absurd (omega arith); rising = tt };
  built = constant_built (length ranges) (pos 0);
  range = record { low = omega (arith, ints); rising = omega (arith, ints); high = omega (arith, ints) };
}

pub start_safe : (program : Program) → IsChecked program → IsSafe program (nothing_walked program.args)
start_safe program limited = record {
  forms = λ number. nothing_safe program.args;
  ranges = All-from_recursion IsRangeOf16 program.args (arguments_16 program.graph.list program.args limited.fhe.arguments
      (recursion_from_All (λ (entry : ℕ × FheOp). HasWidth (type_of entry.1)) program.graph.list limited.fhe.widths));
  leaves = omega arith;
  looks = omega arith;
  place = omega arith;
  weights = omega arith;
}
