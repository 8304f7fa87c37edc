-- The patterns that the walk finds compute what the program computes, one operation after the other.
use Rattle.std.proofs.Common.{◌≡◌, ◌≢◌, ℕ, ◌+◌, ◌<◌, Bool, true, false, cond, List, [], ◌∷◌, ◌++◌, length, get_or, refl, sym, ap, ◌∙◌, subst, arith, inl, inr, Option, Some, Ok}
use Rattle.std.specs.Prelude.{ℤ, pos, ◌+ℤ◌, ◌*ℤ◌, ◌≤ℤ◌, not, slice_index}
use Rattle.std.specs.Ordering.{int_eq}
use Rattle.std.specs.List.{slice_get, list_any}
use Rattle.std.specs.Option.{IsSomeAnd}
use Rattle.std.proofs.lemmas.Int.{ints}
use Rattle.std.proofs.lemmas.Bool.{false≢true, cases_lt}
use Rattle.std.proofs.lemmas.Bool.Decides.{eqb_tells, Decides-int_eq}
use Rattle.std.proofs.lemmas.List.{get_or_append_left}
use Rattle.std.proofs.lemmas.List.Sums.{passes_at_first}
use Rattle.std.proofs.lemmas.Option.{slice_get_within}
use Rattle.std.proofs.Math.Seq.{get_or-append_seam}
use Rattle.forms.specs.Forms.{number_at, IsIn, AreIn}
use Rattle.forms.specs.FromEarlier.{from_earlier_keeps}
use Rattle.forms.specs.Ranges.{range_of_entries}
use Rattle.forms.specs.Laws.{FormLaws}
use Rattle.ir_core.specs.Graph.{IsGraph, place_of}
use Rattle.linear_forms.specs.declared.linear.Form.{Form}
use Rattle.linear_forms.specs.Forms.{constant_form, leaf_form}
use Rattle.linear_forms.specs.Sound.{AreBelow}
use Rattle.linear_forms.specs.Laws.{SumLaws, value_of}
use Rattle.linear_forms.specs.Staying.{value_stays}
use Rattle.live_patterns.specs.declared.patterns.Look.{Look}
use Rattle.fhe_text.specs.declared.source.WrittenType.{WrittenType}
use Rattle.fhe_text.specs.declared.source.Entries.{Entries}
use Rattle.fhe_text.specs.declared.source.OpName.{OpName}
use Rattle.fhe_text.specs.declared.source.OpName.TheVariants.{AddEint, AddEintInt, SubEint, SubEintInt, SubIntEint, NegEint, MulEintInt, Zero, ApplyLookupTable}
use Rattle.fhe_level.specs.declared.level.FheOp.{FheOp}
use Rattle.fhe_level.specs.declared.level.FheOp.TheVariants as ops
use Rattle.fhe_level.specs.declared.program.Program.{Program}
use Rattle.fhe_level.specs.Limits.{is_table_name}
use Rattle.fhe_level.specs.Operations.{operands_of}
use Rattle.fhe_level.specs.Programs.{entry_of}
use Rattle.fhe_level.specs.Clearing.{is_constant, IsResult, number_of}
use Rattle.fhe_level.specs.Checked.{IsChecked}
use Rattle.fhe_level.specs.Standing.{op_with-place, same_place, argument_has_range, length_in}
use Rattle.fhe_level.specs.Laws.{ValueLaws}
use Rattle.pattern_walk.specs.Sums.{form_at, sum_form, table_with}
use Rattle.pattern_walk.specs.Looking.{range_on, pattern_on, same_look, place_in, is_new}
use Rattle.pattern_walk.specs.Walking.{Walked, nothing_walked, with_form, with_weights, with_constant, with_leaf, with_statement, with_look_up, with_operation, step}
use Rattle.pattern_walk.specs.Putting.{form_put, form_kept}
use Rattle.pattern_walk.specs.Places.{place_none, place_some}
use Rattle.pattern_walk.specs.Passing.{statement_passed, ok_same}
use Rattle.pattern_pass.proofs.Sound.{IsSound, IsSoundLook}
use Rattle.pattern_pass.proofs.Leaves.{look_value, leaf_values, in_push, look_in, leaf_is, last_sound, values_push, values_many}
use Rattle.pattern_pass.proofs.Tables.{pattern_entry, look_same}
use Rattle.pattern_pass.proofs.Numbers.{place_here, argument_here}
use Rattle.pattern_pass.proofs.Summed.{one_times, sum_is, look_is}

-- the values of the leaves lie in their ranges, and the form of each operation so far has its number, but for constants
pub record HasValues (program : Program) (inputs : List ℤ) (walked : Walked) : Type 0 where
  pub leaves : AreIn walked.ranges (leaf_values inputs walked.looks)
  pub numbers : (wanted : ℕ) → place_of program.graph.list wanted < walked.place → IsResult program.graph.list wanted
      → number_of program inputs wanted ≡ value_of (form_at walked.forms wanted) (leaf_values inputs walked.looks)

-- before the first
pub start_valued : (program : Program) (inputs : List ℤ) → AreIn program.args inputs → HasValues program inputs (nothing_walked program.args)
start_valued program inputs are = record {
  leaves = are;
  numbers = λ wanted before is. absurd (omega (arith, before));
}

alone : (z : ℤ) → pos 0 +ℤ (pos 1 *ℤ z +ℤ pos 0) ≡ z
alone z = omega (arith, ints, one_times z)

-- the value of a leaf
leaf_value : (leaf : ℕ) (values : List ℤ) → value_of (leaf_form leaf) values ≡ number_at values leaf
leaf_value leaf values = alone (number_at values leaf)

constant_value : (z : ℤ) (values : List ℤ) → value_of (constant_form z) values ≡ z
constant_value z values = omega (arith, ints)

only_one : (least most z : ℤ) → least ≡ most → least ≤ℤ z → z ≤ℤ most → z ≡ least
only_one least most z same low high = omega (arith, ints, same, low, high)

module _ (laws : FormLaws) (sums : SumLaws) (values : ValueLaws) (program : Program) (inputs : List ℤ) (checked : IsChecked program)
    (graph : IsGraph operands_of program.graph) (are : AreIn program.args inputs) (walked : Walked) (sound : IsSound program walked)
    (has : HasValues program inputs walked) (number : ℕ) where
  abbrev list : List (ℕ × FheOp)
  list = program.graph.list

  -- the values of the leaves so far
  abbrev found : List ℤ
  found = leaf_values inputs walked.looks

  many : length found ≡ length walked.ranges
  many = length_in walked.ranges found has.leaves

  -- what is there stays where a leaf is added
  stays : (more : List ℤ) (form : Form) → AreBelow (length walked.ranges) form.terms → value_of form (found ++ more) ≡ value_of form found
  stays more form below =
      value_stays form.constant form.terms found more (subst (λ (n : ℕ). AreBelow n form.terms) (sym many) below)

  module _ (op : FheOp) (here : slice_get list walked.place ≡ Some (number, op)) where
    at_place : place_of list number ≡ walked.place
    at_place = place_here program checked.placed walked.place number op here

    at : slice_get list (place_of list number) ≡ Some (number, op)
    at = ap (slice_get list) at_place ∙ here

    inside : place_of list number < length list
    inside = slice_get_within list (place_of list number) (number, op) at

    -- an operation up to here is an earlier one, or this one
    earlier_one : (wanted : ℕ) → wanted ≢ number → place_of list wanted < walked.place + 1 → place_of list wanted < walked.place
    earlier_one wanted apart below =
        elim (cases_lt (place_of list wanted) walked.place) [
          | inl before ↦ before
          | inr not_before ↦
              let same : place_of list wanted ≡ place_of list number = omega (arith, not_before, below, at_place) in
              absurd (apart (same_place list wanted number (omega (arith, same, inside)) same))
        ]

    -- with a form for this operation, on leaves of which those so far are the first
    with_values : (looks : List Look) (ranges : List (ℤ × ℤ)) (weights : ℕ) (form : Form) → AreIn ranges (leaf_values inputs looks)
        → ((f : Form) → AreBelow (length walked.ranges) f.terms → value_of f (leaf_values inputs looks) ≡ value_of f found)
        → number_of program inputs number ≡ value_of form (leaf_values inputs looks)
        → HasValues program inputs (record {
          forms = (with_form walked number form).forms;
          ranges = ranges;
          looks = looks;
          place = walked.place + 1;
          weights = weights;
        })
    with_values looks ranges weights form leaves stay own = record {
      leaves = leaves;
      numbers = numbers;
    }
      where
        forms : List (ℕ × Form)
        forms = (with_form walked number form).forms

        numbers : (wanted : ℕ) → place_of list wanted < walked.place + 1 → IsResult list wanted
            → number_of program inputs wanted ≡ value_of (form_at forms wanted) (leaf_values inputs looks)
        numbers wanted below is =
            elim (eqb_tells wanted number) [
              | inl same ↦
                  subst (λ (n : ℕ). number_of program inputs n ≡ value_of (form_at forms n) (leaf_values inputs looks)) (sym same.1)
                  (own ∙ sym (ap (λ (f : Form). value_of f (leaf_values inputs looks)) (form_put walked.forms number form)))
              | inr other ↦
                  has.numbers wanted (earlier_one wanted other.1 below) is
                  ∙ sym (stay (form_at walked.forms wanted) (sound.safe.forms wanted).built.below)
                  ∙ sym (ap (λ (f : Form). value_of f (leaf_values inputs looks)) (form_kept walked.forms number form wanted other.1))
            ]

    -- with no form, for a constant of the text
    constant_valued : is_constant op ≡ true → HasValues program inputs (with_constant walked)
    constant_valued constant = record {
      leaves = has.leaves;
      numbers = λ wanted below is. elim (eqb_tells wanted number) [
        | inl same ↦ absurd (no_result (subst (IsResult list) same.1 is))
        | inr other ↦ has.numbers wanted (earlier_one wanted other.1 below) is
      ];
    }
      where
        no_result : IsResult list number → ⊥
        no_result is =
            let own = subst (λ (o : Option FheOp). IsSomeAnd o (λ op. not (is_constant op) ≡ true)) (op_with-place list number op at) is in
            false≢true (sym (ap not constant) ∙ own)

  -- ---- an argument

  argument_valued : (ty : WrittenType) → slice_get list walked.place ≡ Some (number, ops.Arg ty)
      → HasValues program inputs (with_form walked number (leaf_form walked.place))
  argument_valued ty here =
      let op = ops.Arg ty in
      let later = from_earlier_keeps look_value inputs walked.looks in
      let first : walked.place < length inputs =
      omega (arith, argument_has_range list program.args walked.place number ty checked.fhe.arguments here, length_in program.args inputs are) in
      let own : number_of program inputs number ≡ number_at inputs walked.place =
      argument_here values program inputs graph number ty (at op here) ∙ ap (number_at inputs) (at_place op here) in
      with_values op here walked.looks walked.ranges walked.weights (leaf_form walked.place) has.leaves (λ f below. refl)
      (own
      ∙ sym (get_or_append_left inputs later.0 (pos 0) walked.place first)
      ∙ sym (ap (λ (l : List ℤ). number_at l walked.place) later.1)
      ∙ sym (leaf_value walked.place found))

  -- ---- an operation on others

  module _ (name : OpName) (operands : List ℕ) (ty : WrittenType)
      (here : slice_get list walked.place ≡ Some (number, ops.Apply name operands ty)) where
    abbrev op : FheOp
    op = ops.Apply name operands ty

    statement_valued : (form : Form) (next : Walked) → number_of program inputs number ≡ value_of form found
        → with_statement (length program.args) walked number ty form ≡ Ok next → HasValues program inputs next
    statement_valued form next own e =
        let passed = statement_passed (length program.args) walked number ty form next e in
        subst (HasValues program inputs) passed.1.is
        (with_values op here walked.looks walked.ranges (walked.weights + length form.terms) form has.leaves (λ f below. refl) own)

    -- the leaf of a pattern
    module _ (look : Look) (own : number_of program inputs number ≡ look_value found look) where
      abbrev leaf : ℕ
      leaf = length program.args + place_in walked.looks look

      abbrev grown : Bool → Walked
      grown new = record walked {
        looks = cond new (walked.looks ++ look ∷ []) walked.looks;
        ranges = cond new (walked.ranges ++ range_of_entries look.entries ∷ []) walked.ranges;
      }

      abbrev reached : Bool → Walked
      reached new = with_form (with_weights (grown new) 1) number (leaf_form leaf)

      inputs_many : length inputs ≡ length program.args
      inputs_many = length_in program.args inputs are

      -- the pattern is there
      shared : list_any (same_look look) walked.looks ≡ true → number_at found leaf ≡ look_value found look
      shared some =
          let within = place_some (same_look look) walked.looks some in
          let there = get_or walked.looks (place_in walked.looks look) look in
          let same : look ≡ there = look_same look there (passes_at_first (same_look look) walked.looks look within) in
          let at_leaf : leaf ≡ length inputs + place_in walked.looks look = omega (arith, inputs_many) in
          ap (number_at found) at_leaf
          ∙ leaf_is program.args [] inputs walked.looks (place_in walked.looks look) look sound.looks inputs_many within
          ∙ sym (ap (look_value found) same)

      -- it is new
      pushed : list_any (same_look look) walked.looks ≡ false → number_at (found ++ look_value found look ∷ []) leaf ≡ look_value found look
      pushed none =
          let at_leaf : leaf ≡ length found =
          omega (arith, inputs_many, place_none (same_look look) walked.looks none, values_many inputs walked.looks) in
          ap (number_at (found ++ look_value found look ∷ [])) at_leaf ∙ get_or-append_seam found (look_value found look) [] (pos 0)

      leaf_by : (new : Bool) → is_new walked.looks look ≡ new → IsSound program (reached new) → HasValues program inputs (reached new)
      leaf_by false old after =
          with_values op here walked.looks walked.ranges (walked.weights + 1) (leaf_form leaf) has.leaves (λ f below. refl)
          (own ∙ sym (shared (some_by (list_any (same_look look) walked.looks) old)) ∙ sym (leaf_value leaf found))
        where
          some_by : (b : Bool) → not b ≡ false → b ≡ true
          some_by true e = refl
          some_by false e = absurd (false≢true (sym e))
      leaf_by true new after =
          let pushed_values = values_push inputs walked.looks look in
          let last = last_sound program.args [] walked.looks look after.looks in
          let last_here = subst (λ (r : List (ℤ × ℤ)). IsSoundLook r look) (sym sound.ranges) last in
          let more = look_value found look ∷ [] in
          with_values op here (walked.looks ++ look ∷ []) (walked.ranges ++ range_of_entries look.entries ∷ []) (walked.weights + 1) (leaf_form leaf)
          (subst (AreIn (walked.ranges ++ range_of_entries look.entries ∷ [])) (sym pushed_values)
          (in_push walked.ranges found (range_of_entries look.entries) (look_value found look) has.leaves
          (look_in laws walked.ranges found look last_here has.leaves)))
          (λ f below. ap (value_of f) pushed_values ∙ stays more f below)
          (own
          ∙ sym (pushed (none_by (list_any (same_look look) walked.looks) new))
          ∙ sym (ap (λ (l : List ℤ). number_at l leaf) pushed_values)
          ∙ sym (leaf_value leaf (leaf_values inputs (walked.looks ++ look ∷ []))))
        where
          none_by : (b : Bool) → not b ≡ true → b ≡ false
          none_by true e = absurd (false≢true e)
          none_by false e = refl

      leaf_valued : (next : Walked) → IsSound program next
          → with_statement (length program.args) (with_leaf walked look) number ty (leaf_form leaf) ≡ Ok next → HasValues program inputs next
      leaf_valued next after e =
          let passed = statement_passed (length program.args) (with_leaf walked look) number ty (leaf_form leaf) next e in
          subst (HasValues program inputs) passed.1.is
          (leaf_by (is_new walked.looks look) refl (subst (IsSound program) (sym passed.1.is) after))

    look_up_valued : (input : ℕ) (table : Entries) (next : Walked) → IsSound program next
        → number_of program inputs number ≡ entry_of table (value_of (form_at walked.forms input) found)
        → with_look_up (length program.args) walked number ty (range_on walked.ranges (form_at walked.forms input)) (form_at walked.forms input) table ≡ Ok next
        → HasValues program inputs next
    look_up_valued input table next after own e = by (int_eq range.0 range.1) refl e
      where
        form : Form
        form = form_at walked.forms input

        range : ℤ × ℤ
        range = range_on walked.ranges form

        in_range : IsIn range (value_of form found)
        in_range = laws.form form.constant form.terms walked.ranges found has.leaves (sound.safe.forms input).built.below

        by : (b : Bool) → int_eq range.0 range.1 ≡ b
            → cond b (with_statement (length program.args) walked number ty (constant_form (entry_of table range.0)))
            (with_statement (length program.args) (with_leaf walked (pattern_on range form table)) number ty
            (leaf_form (length program.args + place_in walked.looks (pattern_on range form table)))) ≡ Ok next
            → HasValues program inputs next
        by true same e =
            let ends = (Decides-int_eq range.0 range.1).0 same in
            let is = only_one range.0 range.1 (value_of form found) ends in_range.least in_range.most in
            statement_valued (constant_form (entry_of table range.0)) next
            (own ∙ ap (entry_of table) is ∙ sym (constant_value (entry_of table range.0) found)) e
        by false same e =
            let pattern = pattern_on range form table in
            leaf_valued pattern
            (own ∙ sym (pattern_entry range form table found (sound.safe.forms input).range.low in_range)) next after e

  -- ---- any operation

  -- the form of a sum or a multiple
  sum_valued : (name : OpName) (operands : List ℕ) (ty : WrittenType) (next : Walked) → is_table_name name ≡ false
      → slice_get list walked.place ≡ Some (number, ops.Apply name operands ty)
      → with_statement (length program.args) walked number ty (sum_form (length walked.ranges) list walked.forms name operands) ≡ Ok next
      → HasValues program inputs next
  sum_valued name operands ty next no_table here e =
      let op = ops.Apply name operands ty in
      statement_valued name operands ty here (sum_form (length walked.ranges) list walked.forms name operands) next
      (sum_is values sums program inputs graph checked.fhe are walked.forms (length walked.ranges) found
      (λ wanted. (sound.safe.forms wanted).built.below) walked.place sound.safe.place has.numbers
      number (at_place op here) ty name operands no_table (at op here)) e

  operation_valued : (name : OpName) (operands : List ℕ) (ty : WrittenType) (next : Walked) → IsSound program next
      → slice_get list walked.place ≡ Some (number, ops.Apply name operands ty)
      → with_operation (length program.args) list walked number name operands ty ≡ Ok next → HasValues program inputs next
  operation_valued AddEint operands ty next after here e = sum_valued AddEint operands ty next refl here e
  operation_valued AddEintInt operands ty next after here e = sum_valued AddEintInt operands ty next refl here e
  operation_valued SubEint operands ty next after here e = sum_valued SubEint operands ty next refl here e
  operation_valued SubEintInt operands ty next after here e = sum_valued SubEintInt operands ty next refl here e
  operation_valued SubIntEint operands ty next after here e = sum_valued SubIntEint operands ty next refl here e
  operation_valued NegEint operands ty next after here e = sum_valued NegEint operands ty next refl here e
  operation_valued MulEintInt operands ty next after here e = sum_valued MulEintInt operands ty next refl here e
  operation_valued Zero operands ty next after here e = sum_valued Zero operands ty next refl here e
  operation_valued ApplyLookupTable operands ty next after here e =
      let op = ops.Apply ApplyLookupTable operands ty in
      look_up_valued ApplyLookupTable operands ty here (slice_index operands 0) (table_with list (slice_index operands 1)) next after
      (look_is values sums program inputs graph checked.fhe are walked.forms (length walked.ranges) found
      (λ wanted. (sound.safe.forms wanted).built.below) walked.place sound.safe.place has.numbers
      number (at_place op here) ty operands (at op here)) e

  -- one operation more
  pub step_valued : (op : FheOp) (next : Walked) → IsSound program next → slice_get list walked.place ≡ Some (number, op)
      → step (length program.args) list walked number op ≡ Ok next → HasValues program inputs next
  step_valued (ops.Arg ty) next after here e =
      subst (HasValues program inputs) (ok_same (with_form walked number (leaf_form walked.place)) next e) (argument_valued ty here)
  step_valued (ops.Int value bits) next after here e =
      subst (HasValues program inputs) (ok_same (with_constant walked) next e) (constant_valued (ops.Int value bits) here refl)
  step_valued (ops.Dense entries count bits) next after here e =
      subst (HasValues program inputs) (ok_same (with_constant walked) next e) (constant_valued (ops.Dense entries count bits) here refl)
  step_valued (ops.Apply name operands ty) next after here e = operation_valued name operands ty next after here e
