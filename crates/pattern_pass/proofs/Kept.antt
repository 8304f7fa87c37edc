-- What the walk over the statements keeps, one operation after the other.
use Rattle.std.proofs.Common.{◌≡◌, ◌≢◌, ℕ, ◌+◌, ◌<◌, ◌==◌, ◌^◌, Bool, true, false, cond, List, [], ◌∷◌, ◌++◌, length, map, All, refl, sym, ap, ◌∙◌, subst, append_assoc, arith, inl, inr, Option, Some, Ok}
use Rattle.std.specs.Prelude.{Result, ℤ, pos, ◌+ℤ◌, not, nat_eq, unsigned_abs, slice_index}
use Rattle.std.specs.Ordering.{int_eq}
use Rattle.std.specs.Option.{option_map_or, IsSomeAnd}
use Rattle.std.specs.List.{list_any, slice_get, Contains}
use Rattle.std.proofs.Math.Seq.{get_or-append_seam}
use Rattle.std.proofs.lemmas.Bool.{false≢true}
use Rattle.std.proofs.lemmas.Bool.Decides.{eqb_tells}
use Rattle.std.proofs.lemmas.List.{length-append, get_or_append_left, map_push}
use Rattle.std.proofs.lemmas.Option.{slice_get_within, get_or_from_slice_get}
use Rattle.indexmap.specs.IndexMap.{insert_entry}
use Rattle.ir_core.specs.Graph.{IsGraph, place_of}
use Rattle.forms.specs.Forms.{span_of, range_at}
use Rattle.forms.specs.Laws.{FormLaws}
use Rattle.forms.specs.Ranges.{range_of_entries}
use Rattle.linear_forms.specs.declared.linear.Form.{Form}
use Rattle.linear_forms.specs.Forms.{constant_form, leaf_form}
use Rattle.linear_forms.specs.Laws.{SumLaws}
use Rattle.live_patterns.specs.declared.patterns.Look.{Look}
use Rattle.fhe_text.specs.declared.source.WrittenType.{WrittenType}
use Rattle.fhe_text.specs.declared.source.WrittenType.TheVariants as types
use Rattle.fhe_text.specs.declared.source.OpName.{OpName}
use Rattle.fhe_text.specs.declared.source.OpName.TheVariants.{AddEint, AddEintInt, SubEint, SubEintInt, SubIntEint, NegEint, MulEintInt, Zero, ApplyLookupTable}
use Rattle.fhe_text.specs.declared.source.Entries.{Entries}
use Rattle.fhe_text.specs.declared.source.Entries.TheVariants as tables
use Rattle.fhe_level.specs.declared.level.FheOp.{FheOp}
use Rattle.fhe_level.specs.declared.level.FheOp.TheVariants as ops
use Rattle.fhe_level.specs.declared.program.Program.{Program}
use Rattle.fhe_level.specs.Limits.{width_of}
use Rattle.fhe_level.specs.Rows.{is_eint, tensor_length}
use Rattle.fhe_level.specs.Operations.{operands_of, type_of}
use Rattle.fhe_level.specs.Programs.{entry_of}
use Rattle.fhe_level.specs.Clearing.{op_with, type_with, is_constant, IsResult, KeepsRow, HasEntries}
use Rattle.fhe_level.specs.Checked.{IsChecked}
use Rattle.fhe_level.specs.Standing.{op_with-place, op_there, same_place, entry_has, argument_has_range, index_type}
use Rattle.pattern_walk.specs.declared.fault.FormFault.{FormFault}
use Rattle.pattern_walk.specs.Sums.{form_at, sum_form, table_of, table_with}
use Rattle.pattern_walk.specs.Looking.{range_on, pattern_on, entries_from, place_in, is_new, same_look}
use Rattle.pattern_walk.specs.Walking.{Walked, with_form, with_constant, with_leaf, with_statement, with_operation, step, is_in_type}
use Rattle.pattern_walk.specs.Safe.{IsRangeOf16, IsSafe}
use Rattle.pattern_walk.specs.Putting.{form_put, form_kept}
use Rattle.pattern_walk.specs.Building.{range_of_leaf}
use Rattle.pattern_walk.specs.Passing.{ok_same, statement_passed}
use Rattle.pattern_walk.specs.Keeping.{step_safe}
use Rattle.pattern_pass.proofs.Sound.{AreTyped, IsSoundLook, IsSound, eint_result}
use Rattle.pattern_pass.proofs.Placing.{place_here, argument_inside}
use Rattle.pattern_pass.proofs.Counted.{entries_numbers, entries_count}
use Rattle.pattern_pass.proofs.NewLook.{new_look, looks_push}

module _ (sums : SumLaws) (laws : FormLaws) (program : Program) (limited : IsChecked program)
    (graph : IsGraph operands_of program.graph) (walked : Walked) (sound : IsSound program walked) where
  abbrev list : List (ℕ × FheOp)
  list = program.graph.list

  abbrev inputs : ℕ
  inputs = length program.args

  -- ---- forms and their types

  module _ (number : ℕ) (op : FheOp) (here : slice_get list walked.place ≡ Some (number, op)) where
    -- it stands at the place of its number
    within : walked.place < length list
    within = slice_get_within list walked.place (number, op) here

    at : place_of list number ≡ walked.place
    at = place_here program limited walked.place number op here

    found : op_with list number ≡ Some op
    found = op_with-place list number op (ap (slice_get list) at ∙ here)

    -- earlier ranges stay, and the new one lies in its type
    typed_more : (next : Walked) → next.place ≡ walked.place + 1
        → ((wanted : ℕ) → wanted ≢ number
        → range_on next.ranges (form_at next.forms wanted) ≡ range_on walked.ranges (form_at walked.forms wanted))
        → (IsResult list number → is_in_type (type_of op) (range_on next.ranges (form_at next.forms number)) ≡ true)
        → AreTyped program next
    typed_more next after stays own wanted before is =
        elim (eqb_tells wanted number) [
          | inl same ↦
              let typed : type_with list number ≡ type_of op = ap (λ o. option_map_or type_of o (types.Int 0)) found in
              let result : IsResult list number = subst (IsResult list) same.1 is in
              let inside : is_in_type (type_with list number) (range_on next.ranges (form_at next.forms number)) ≡ true =
              ap (λ ty. is_in_type ty (range_on next.ranges (form_at next.forms number))) typed ∙ own result in
              subst (λ (n : ℕ). is_in_type (type_with list n) (range_on next.ranges (form_at next.forms n)) ≡ true) (sym same.1) inside
          | inr other ↦
              let inside : place_of list wanted < length list = omega (arith, within, before, after) in
              let apart : place_of list wanted ≢ walked.place = λ e. other.1 (same_place list wanted number inside (e ∙ sym at)) in
              let earlier : place_of list wanted < walked.place = omega (arith, before, after, apart) in
              ap (is_in_type (type_with list wanted)) (stays wanted other.1) ∙ sound.typed wanted earlier is
        ]

    -- a constant has no form
    constant_sound : is_constant op ≡ true → IsSafe program (with_constant walked) → IsSound program (with_constant walked)
    constant_sound constant safe = record {
      safe = safe;
      typed = typed_more (with_constant walked) refl (λ wanted apart. refl)
          (λ is.
          let result = subst (λ (o : Option FheOp). IsSomeAnd o (λ other. not (is_constant other) ≡ true)) found is in
          absurd (false≢true (sym (ap not constant) ∙ result)));
      ranges = sound.ranges;
      looks = sound.looks;
    }

    -- the form of a number, with so many weights in all
    abbrev put : Walked → Form → ℕ → Walked
    put base form weights = record {
      forms = insert_entry nat_eq base.forms number form;
      ranges = base.ranges;
      looks = base.looks;
      place = base.place + 1;
      weights = weights;
    }

    -- with no leaf more
    form_sound : (form : Form) (weights : ℕ) → is_in_type (type_of op) (range_on walked.ranges form) ≡ true
        → IsSafe program (put walked form weights) → IsSound program (put walked form weights)
    form_sound form weights inside safe = record {
      safe = safe;
      typed = typed_more (put walked form weights) refl
          (λ wanted apart. ap (range_on walked.ranges) (form_kept walked.forms number form wanted apart))
          (λ is. ap (λ (f : Form). is_in_type (type_of op) (range_on walked.ranges f)) (form_put walked.forms number form) ∙ inside);
      ranges = sound.ranges;
      looks = sound.looks;
    }

    -- with the leaf of a pattern more
    abbrev grown : Look → Walked
    grown look = record walked {
      looks = walked.looks ++ look ∷ [];
      ranges = walked.ranges ++ range_of_entries look.entries ∷ [];
    }

    leaf_sound : (look : Look) (form : Form) (weights : ℕ) → IsSoundLook walked.ranges look → is_new walked.looks look ≡ true
        → is_in_type (type_of op) (range_on (grown look).ranges form) ≡ true
        → IsSafe program (put (grown look) form weights) → IsSound program (put (grown look) form weights)
    leaf_sound look form weights own new inside safe =
        let range = range_of_entries look.entries in
        record {
          safe = safe;
          typed = typed_more (put (grown look) form weights) refl
              (λ wanted apart.
              ap (range_on (walked.ranges ++ range ∷ [])) (form_kept walked.forms number form wanted apart)
              ∙ sums.range_stays (form_at walked.forms wanted).constant (form_at walked.forms wanted).terms walked.ranges (range ∷ [])
              (sound.safe.forms wanted).built.below)
              (λ is. ap (λ (f : Form). is_in_type (type_of op) (range_on (walked.ranges ++ range ∷ []) f)) (form_put walked.forms number form) ∙ inside);
          ranges = ap (λ (l : List (ℤ × ℤ)). l ++ range ∷ []) sound.ranges
              ∙ append_assoc program.args (map (λ (l : Look). range_of_entries l.entries) walked.looks) (range ∷ [])
              ∙ ap (λ (l : List (ℤ × ℤ)). program.args ++ l) (sym (map_push (λ (l : Look). range_of_entries l.entries) walked.looks look));
          looks = looks_push program.args [] walked.looks look sound.looks
              (subst (λ (r : List (ℤ × ℤ)). IsSoundLook r look) sound.ranges own) new;
        }

  -- an argument
  argument_sound : (number : ℕ) (ty : WrittenType) → slice_get list walked.place ≡ Some (number, ops.Arg ty)
      → IsSafe program (with_form walked number (leaf_form walked.place)) → IsSound program (with_form walked number (leaf_form walked.place))
  argument_sound number ty here safe =
      let has = argument_has_range list program.args walked.place number ty limited.fhe.arguments here in
      let looked = map (λ (l : Look). range_of_entries l.entries) walked.looks in
      let read : range_at walked.ranges walked.place ≡ range_at program.args walked.place =
      ap (λ (r : List (ℤ × ℤ)). range_at r walked.place) sound.ranges
      ∙ get_or_append_left program.args looked (pos 0, pos 0) walked.place has in
      let inside : is_in_type ty (range_on walked.ranges (leaf_form walked.place)) ≡ true =
      ap (is_in_type ty) (range_of_leaf walked.ranges walked.place ∙ read)
      ∙ argument_inside list program.args walked.place number ty limited.fhe.arguments here in
      form_sound number (ops.Arg ty) here (leaf_form walked.place) walked.weights inside safe

  -- ---- look-ups

  -- a look-up whose input's range lies in the index's type has an entry for each number of it
  module _ (number index of : ℕ) (ty : WrittenType)
      (here : slice_get list walked.place ≡ Some (number, ops.Apply ApplyLookupTable (index ∷ of ∷ []) ty)) where
    abbrev op : FheOp
    op = ops.Apply ApplyLookupTable (index ∷ of ∷ []) ty

    -- the index stands before it, and so does the table
    contained : Contains list (number, op)
    contained =
        (walked.place, within number op here, get_or_from_slice_get list walked.place (number, op) (number, op) here)

    index_before : place_of list index < walked.place
    index_before =
        let before = graph.earlier number index op contained (0, omega arith, refl) in
        omega (arith, before, at number op here)

    table_before : place_of list of < length list
    table_before =
        let before = graph.earlier number of op contained (1, omega arith, refl) in
        omega (arith, before, at number op here, within number op here)

    row : KeepsRow list op
    row = entry_has (λ (entry : ℕ × FheOp). KeepsRow list entry.1) list walked.place (number, op) limited.fhe.rows here

    index_eint : is_eint (type_with list index) ≡ true
    index_eint = index_type (type_with list index) (type_with list of) ty row.1

    pair_count : pos (length (entries_from (table_with list of) (unsigned_abs (range_on walked.ranges (form_at walked.forms index)).0)
        (unsigned_abs (span_of (range_on walked.ranges (form_at walked.forms index))) + 1)))
        ≡ span_of (range_on walked.ranges (form_at walked.forms index)) +ℤ pos 1
    pair_count =
        let range = range_on walked.ranges (form_at walked.forms index) in
        let table = op_there list of table_before in
        let found_table : op_with list of ≡ Some table.0 = op_with-place list of table.0 table.1 in
        let typed : type_with list of ≡ type_of table.0 = ap (λ o. option_map_or type_of o (types.Int 0)) found_table in
        let is : table_with list of ≡ table_of table.0 = ap (λ o. option_map_or table_of o (tables.Splat (pos 0))) found_table in
        let same : (tensor_length (type_of table.0) == 2 ^ width_of (type_with list index)) ≡ true =
        ap (λ t. tensor_length t == 2 ^ width_of (type_with list index)) (sym typed) ∙ row.2 in
        let has : HasEntries table.0 =
        entry_has (λ (entry : ℕ × FheOp). HasEntries entry.1) list (place_of list of) (of, table.0) limited.fhe.tables table.1 in
        let inside : is_in_type (type_with list index) range ≡ true =
        sound.typed index index_before (eint_result list index index_eint) in
        ap (λ (e : Entries). pos (length (entries_from e (unsigned_abs range.0) (unsigned_abs (span_of range) + 1)))) is
        ∙ entries_count (type_with list index) table.0 range index_eint same has inside (sound.safe.forms index).range.rising

  -- whatever its operands are
  operands_count : (number : ℕ) (operands : List ℕ) (ty : WrittenType)
      → slice_get list walked.place ≡ Some (number, ops.Apply ApplyLookupTable operands ty) → length operands ≡ 2
  operands_count number operands ty here =
      (entry_has (λ (entry : ℕ × FheOp). KeepsRow list entry.1) list walked.place (number, ops.Apply ApplyLookupTable operands ty) limited.fhe.rows here).0

  -- the range of the input
  abbrev input_range : List ℕ → ℤ × ℤ
  input_range operands = range_on walked.ranges (form_at walked.forms (slice_index operands 0))

  -- the pattern
  abbrev pattern : List ℕ → Look
  pattern operands = pattern_on (input_range operands) (form_at walked.forms (slice_index operands 0)) (table_with list (slice_index operands 1))

  pattern_count : (number : ℕ) (operands : List ℕ) (ty : WrittenType)
      → slice_get list walked.place ≡ Some (number, ops.Apply ApplyLookupTable operands ty)
      → pos (length (pattern operands).entries) ≡ span_of (input_range operands) +ℤ pos 1
  pattern_count number (index ∷ of ∷ []) ty here = pair_count number index of ty here
  pattern_count number [] ty here = absurd (let two = operands_count number [] ty here in omega (arith, two))
  pattern_count number (index ∷ []) ty here = absurd (let two = operands_count number (index ∷ []) ty here in omega (arith, two))
  pattern_count number (index ∷ of ∷ other ∷ others) ty here =
      absurd (let two = operands_count number (index ∷ of ∷ other ∷ others) ty here in omega (arith, two))

  -- the range of the leaf that is added
  last_range : (look : Look) → All IsRangeOf16 (walked.ranges ++ range_of_entries look.entries ∷ []) → IsRangeOf16 (range_of_entries look.entries)
  last_range look each =
      let range = range_of_entries look.entries in
      subst IsRangeOf16 (get_or-append_seam walked.ranges range [] (pos 0, pos 0))
      (each (length walked.ranges) (pos 0, pos 0) (omega (arith, length-append walked.ranges (range ∷ []))))

  -- ---- operations on others

  module _ (number : ℕ) (name : OpName) (operands : List ℕ) (ty : WrittenType)
      (here : slice_get list walked.place ≡ Some (number, ops.Apply name operands ty)) (next : Walked) (safe : IsSafe program next) where
    statement_sound : (form : Form) → with_statement inputs walked number ty form ≡ Ok next → IsSound program next
    statement_sound form e =
        let passed = statement_passed inputs walked number ty form next e in
        subst (IsSound program) passed.1.is
        (form_sound number (ops.Apply name operands ty) here form (walked.weights + length form.terms) passed.1.inside
        (subst (IsSafe program) (sym passed.1.is) safe))

    new_sound : (look : Look) (leaf : ℕ) → is_new walked.looks look ≡ true
        → (IsRangeOf16 (range_of_entries look.entries) → IsSoundLook walked.ranges look)
        → with_statement inputs (grown number (ops.Apply name operands ty) here look) number ty (leaf_form leaf) ≡ Ok next → IsSound program next
    new_sound look leaf new own e =
        let base = grown number (ops.Apply name operands ty) here look in
        let passed = statement_passed inputs base number ty (leaf_form leaf) next e in
        let put_safe = subst (IsSafe program) (sym passed.1.is) safe in
        subst (IsSound program) passed.1.is
        (leaf_sound number (ops.Apply name operands ty) here look (leaf_form leaf) (walked.weights + 1) (own (last_range look put_safe.ranges)) new
        passed.1.inside put_safe)

    -- the leaf of a pattern
    pattern_sound : (look : Look) (leaf : ℕ) → (IsRangeOf16 (range_of_entries look.entries) → IsSoundLook walked.ranges look)
        → with_statement inputs (with_leaf walked look) number ty (leaf_form leaf) ≡ Ok next → IsSound program next
    pattern_sound look leaf own e = by (list_any (same_look look) walked.looks) refl
      where
        chosen : Bool → Walked
        chosen c = record walked {
          looks = cond c (walked.looks ++ look ∷ []) walked.looks;
          ranges = cond c (walked.ranges ++ range_of_entries look.entries ∷ []) walked.ranges;
        }

        on_choice : (b : Bool) → list_any (same_look look) walked.looks ≡ b → with_statement inputs (chosen (not b)) number ty (leaf_form leaf) ≡ Ok next
        on_choice b same = subst (λ (c : Bool). with_statement inputs (chosen (not c)) number ty (leaf_form leaf) ≡ Ok next) same e

        by : (b : Bool) → list_any (same_look look) walked.looks ≡ b → IsSound program next
        by true same = statement_sound (leaf_form leaf) (on_choice true same)
        by false same = new_sound look leaf (ap not same) own (on_choice false same)

  look_up_sound : (number : ℕ) (operands : List ℕ) (ty : WrittenType) (next : Walked)
      → slice_get list walked.place ≡ Some (number, ops.Apply ApplyLookupTable operands ty) → IsSafe program next
      → with_operation inputs list walked number ApplyLookupTable operands ty ≡ Ok next → IsSound program next
  look_up_sound number operands ty next here safe e = by (int_eq (input_range operands).0 (input_range operands).1) refl
    where
      taken : Bool → Result Walked FormFault
      taken b =
          cond b (with_statement inputs walked number ty (constant_form (entry_of (table_with list (slice_index operands 1)) (input_range operands).0)))
          (with_statement inputs (with_leaf walked (pattern operands)) number ty (leaf_form (inputs + place_in walked.looks (pattern operands))))

      by : (b : Bool) → int_eq (input_range operands).0 (input_range operands).1 ≡ b → IsSound program next
      by true same =
          statement_sound number ApplyLookupTable operands ty here next safe
          (constant_form (entry_of (table_with list (slice_index operands 1)) (input_range operands).0)) (ap taken (sym same) ∙ e)
      by false same =
          pattern_sound number ApplyLookupTable operands ty here next safe (pattern operands) (inputs + place_in walked.looks (pattern operands))
          (λ range.
          new_look walked.ranges (form_at walked.forms (slice_index operands 0)) (table_with list (slice_index operands 1))
          (sound.safe.forms (slice_index operands 0)) same (pattern_count number operands ty here)
          (entries_numbers (pattern operands).entries range))
          (ap taken (sym same) ∙ e)

  operation_sound : (number : ℕ) (name : OpName) (operands : List ℕ) (ty : WrittenType) (next : Walked)
      → slice_get list walked.place ≡ Some (number, ops.Apply name operands ty) → IsSafe program next
      → with_operation inputs list walked number name operands ty ≡ Ok next → IsSound program next
  operation_sound number AddEint operands ty next here safe e =
      statement_sound number AddEint operands ty here next safe (sum_form (length walked.ranges) list walked.forms AddEint operands) e
  operation_sound number AddEintInt operands ty next here safe e =
      statement_sound number AddEintInt operands ty here next safe (sum_form (length walked.ranges) list walked.forms AddEintInt operands) e
  operation_sound number SubEint operands ty next here safe e =
      statement_sound number SubEint operands ty here next safe (sum_form (length walked.ranges) list walked.forms SubEint operands) e
  operation_sound number SubEintInt operands ty next here safe e =
      statement_sound number SubEintInt operands ty here next safe (sum_form (length walked.ranges) list walked.forms SubEintInt operands) e
  operation_sound number SubIntEint operands ty next here safe e =
      statement_sound number SubIntEint operands ty here next safe (sum_form (length walked.ranges) list walked.forms SubIntEint operands) e
  operation_sound number NegEint operands ty next here safe e =
      statement_sound number NegEint operands ty here next safe (sum_form (length walked.ranges) list walked.forms NegEint operands) e
  operation_sound number MulEintInt operands ty next here safe e =
      statement_sound number MulEintInt operands ty here next safe (sum_form (length walked.ranges) list walked.forms MulEintInt operands) e
  operation_sound number Zero operands ty next here safe e =
      statement_sound number Zero operands ty here next safe (sum_form (length walked.ranges) list walked.forms Zero operands) e
  operation_sound number ApplyLookupTable operands ty next here safe e = look_up_sound number operands ty next here safe e

  -- ---- any operation

  sound_by : (number : ℕ) (op : FheOp) (next : Walked) → slice_get list walked.place ≡ Some (number, op)
      → IsSafe program next → step inputs list walked number op ≡ Ok next → IsSound program next
  sound_by number (ops.Arg ty) next here safe e =
      let same = ok_same (with_form walked number (leaf_form walked.place)) next e in
      subst (IsSound program) same (argument_sound number ty here (subst (IsSafe program) (sym same) safe))
  sound_by number (ops.Int value bits) next here safe e =
      let same = ok_same (with_constant walked) next e in
      subst (IsSound program) same (constant_sound number (ops.Int value bits) here refl (subst (IsSafe program) (sym same) safe))
  sound_by number (ops.Dense found count bits) next here safe e =
      let same = ok_same (with_constant walked) next e in
      subst (IsSound program) same (constant_sound number (ops.Dense found count bits) here refl (subst (IsSafe program) (sym same) safe))
  sound_by number (ops.Apply name operands ty) next here safe e = operation_sound number name operands ty next here safe e

  pub step_sound : (number : ℕ) (op : FheOp) (next : Walked) → slice_get list walked.place ≡ Some (number, op)
      → step inputs list walked number op ≡ Ok next → IsSound program next
  step_sound number op next here e =
      sound_by number op next here (step_safe sums laws program limited walked sound.safe number op next here e) e
