-- At the end of the walk: its patterns compute what the program computes.
use Rattle.std.proofs.Common.{◌≡◌, ℕ, zero, suc, ◌+◌, ◌-◌, ◌<◌, ◌≤◌, ◌^◌, true, List, [], ◌∷◌, length, get_or, drop, map, refl, sym, ap, ◌∙◌, subst, arith, Some, Ok}
use Rattle.std.specs.Prelude.{ℤ, pos, ◌≤ℤ◌, int_le}
use Rattle.std.specs.List.{AllByRecursion, slice_get}
use Rattle.std.specs.Option.{option_map_or}
use Rattle.std.proofs.lemmas.Int.{ints}
use Rattle.std.proofs.lemmas.List.Elements.{recursion_from_All}
use Rattle.std.proofs.lemmas.Option.{slice_get-get_or, slice_get_within}
use Rattle.refusals.specs.Steps.{value_of_step}
use Rattle.forms.specs.Forms.{AreIn}
use Rattle.forms.specs.Laws.{FormLaws}
use Rattle.ir_core.specs.Graph.{IsGraph, place_of}
use Rattle.linear_forms.specs.declared.linear.Form.{Form}
use Rattle.linear_forms.specs.Sound.{AreBelow}
use Rattle.linear_forms.specs.Laws.{SumLaws, value_of}
use Rattle.ap_level.specs.Patterns.{argument_ranges}
use Rattle.ap_level.specs.Patterns as on_patterns
use Rattle.live_patterns.specs.Found.{found_patterns}
use Rattle.fhe_text.specs.declared.source.WrittenType.{WrittenType}
use Rattle.fhe_text.specs.declared.source.WrittenType.TheVariants as types
use Rattle.fhe_level.specs.declared.level.FheOp.{FheOp}
use Rattle.fhe_level.specs.declared.program.Program.{Program}
use Rattle.fhe_level.specs.Rows.{is_eint}
use Rattle.fhe_level.specs.Operations.{operands_of, type_of}
use Rattle.fhe_level.specs.Programs.{clear_values}
use Rattle.fhe_level.specs.Clearing.{type_with, IsNumberOf, IsResult, IsClear, number_of}
use Rattle.fhe_level.specs.Checked.{IsChecked}
use Rattle.fhe_level.specs.Standing.{both, op_with-place, result_there, length_in}
use Rattle.fhe_level.specs.Laws.{ValueLaws}
use Rattle.pattern_walk.specs.Sums.{form_at}
use Rattle.pattern_walk.specs.Looking.{range_on}
use Rattle.pattern_walk.specs.Walking.{Walked, nothing_walked, is_in_type, step, walk, walked, patterns_in}
use Rattle.pattern_walk.specs.Stepping.{step_place}
use Rattle.pattern_walk.specs.Passing.{holds_le, ok_same}
use Rattle.pattern_pass.proofs.Sound.{IsSound, eint_result}
use Rattle.pattern_pass.proofs.Leaves.{leaf_values}
use Rattle.pattern_pass.proofs.Numbers.{place_here}
use Rattle.pattern_pass.proofs.Results.{results_are, arguments_are}
use Rattle.pattern_pass.proofs.Valued.{HasValues, start_valued, step_valued}

-- ---- the operations that are left

first_left : {A : Type 0} (xs : List A) (place : ℕ) (x : A) (later : List A) → drop place xs ≡ x ∷ later
    → (slice_get xs place ≡ Some x) × (drop (place + 1) xs ≡ later)
first_left [] zero x later left = absurd cc
first_left [] (suc place) x later left = absurd cc
first_left (y ∷ xs) zero x later left = (cc, cc)
first_left (y ∷ xs) (suc place) x later left =
    let rest = first_left xs place x later left in
    let one_more : suc place + 1 ≡ suc (place + 1) = omega arith in
    (rest.0, ap (λ n. drop n (y ∷ xs)) one_more ∙ rest.1)

none_left : {A : Type 0} (xs : List A) (place : ℕ) → drop place xs ≡ [] → length xs ≤ place
none_left [] place left = omega arith
none_left (x ∷ xs) zero left = absurd cc
none_left (x ∷ xs) (suc place) left = omega (arith, none_left xs place left)

-- ---- numbers of a type

within_ends : (high least most z n : ℤ) → pos 0 ≤ℤ least → most ≤ℤ high → least ≤ℤ z → z ≤ℤ most → z ≡ n
    → (pos 0 ≤ℤ n) × (n ≤ℤ high)
within_ends high least most z n p q r s same = (omega (arith, ints, p, r, same), omega (arith, ints, q, s, same))

-- ---- the whole

-- the step keeps what the walk keeps
abbrev pub KeepsSound : Program → Type 0
KeepsSound program =
    (before next : Walked) (number : ℕ) (op : FheOp) → IsSound program before
    → slice_get program.graph.list before.place ≡ Some (number, op)
    → step (length program.args) program.graph.list before number op ≡ Ok next → IsSound program next

-- what holds at the end
pub record IsReached (program : Program) (inputs : List ℤ) (last : Walked) : Type 0 where
  pub sound : IsSound program last
  pub valued : HasValues program inputs last
  pub place : last.place ≡ length program.graph.list

module _ (laws : FormLaws) (sums : SumLaws) (values : ValueLaws) (program : Program) (inputs : List ℤ) (checked : IsChecked program)
    (graph : IsGraph operands_of program.graph) (are : AreIn program.args inputs) where
  abbrev list : List (ℕ × FheOp)
  list = program.graph.list

  walk_reaches : KeepsSound program → (later : List (ℕ × FheOp)) (before last : Walked) → IsSound program before
      → HasValues program inputs before → drop before.place list ≡ later
      → walk (length program.args) list before later ≡ Ok last → IsReached program inputs last
  walk_reaches keeps [] before last sound has left e =
      subst (IsReached program inputs) (ok_same before last e) (record {
        sound = sound;
        valued = has;
        place = let past = none_left list before.place left in omega (arith, past, sound.safe.place);
      })
  walk_reaches keeps (entry ∷ later) before last sound has left e =
      let given = value_of_step (step (length program.args) list before entry.0 entry.1)
      (λ next. walk (length program.args) list next later) last e in
      let next = given.0 in
      let first = first_left list before.place entry later left in
      let after = keeps before next entry.0 entry.1 sound first.0 given.1 in
      let valued = step_valued laws sums values program inputs checked graph are before sound has entry.0 entry.1 next after first.0 given.1 in
      let one_more = step_place (length program.args) list before entry.0 entry.1 next given.1 in
      walk_reaches keeps later next last after valued (ap (λ n. drop n list) one_more ∙ first.1) given.2

  -- the end of the walk
  pub reached_is : KeepsSound program → IsSound program (nothing_walked program.args) → (last : Walked) → walked program ≡ Ok last
      → IsReached program inputs last
  reached_is keeps start last e = walk_reaches keeps list (nothing_walked program.args) last start (start_valued program inputs are) refl e

  module _ (last : Walked) (is : IsReached program inputs last) where
    abbrev found : List ℤ
    found = leaf_values inputs last.looks

    result_is : (wanted : ℕ) → IsResult list wanted → value_of (form_at last.forms wanted) found ≡ number_of program inputs wanted
    result_is wanted result =
        sym (is.valued.numbers wanted (omega (arith, result_there list wanted result, is.place)) result)

    map_both : (wanted : List ℕ) → AllByRecursion (IsResult list) wanted
        → map (λ form. value_of form found) (map (form_at last.forms) wanted) ≡ map (number_of program inputs) wanted
    map_both [] each = refl
    map_both (w ∷ wanted) each =
        ap (λ z. z ∷ map (λ form. value_of form found) (map (form_at last.forms) wanted)) (result_is w each.0)
        ∙ ap (λ l. number_of program inputs w ∷ l) (map_both wanted each.1)

    all_below : (wanted : List ℕ) → AllByRecursion (λ (form : Form). AreBelow (length found) form.terms) (map (form_at last.forms) wanted)
    all_below [] = tt
    all_below (w ∷ wanted) = (
      subst (λ (n : ℕ). AreBelow n (form_at last.forms w).terms) (sym (length_in last.ranges found is.valued.leaves))
          (is.sound.safe.forms w).built.below,
      all_below wanted,
    )

    -- the patterns compute what the program computes,
    pub reached_values : on_patterns.clear_values (found_patterns (patterns_in program last)) inputs ≡ clear_values program inputs
    reached_values =
        results_are inputs (patterns_in program last) (length_in program.args inputs are) (all_below program.results)
        ∙ map_both program.results (recursion_from_All (IsResult list) program.results checked.fhe.results)

    -- have its arguments,
    pub reached_arguments : argument_ranges (found_patterns (patterns_in program last)) ≡ program.args
    reached_arguments = arguments_are (patterns_in program last)

    number_fits : (ty : WrittenType) (wanted : ℕ) → type_with list wanted ≡ ty → place_of list wanted < length list
        → IsNumberOf ty (number_of program inputs wanted)
    number_fits (types.Eint width) wanted typed there =
        let form = form_at last.forms wanted in
        let range = range_on last.ranges form in
        let result = eint_result list wanted (ap is_eint typed) in
        let in_type : is_in_type (types.Eint width) range ≡ true =
        sym (ap (λ t. is_in_type t range) typed) ∙ is.sound.typed wanted (omega (arith, there, is.place)) result in
        let ends = both (int_le (pos 0) range.0) (int_le range.1 (pos (2 ^ width - 1))) in_type in
        let inside = laws.form form.constant form.terms last.ranges found is.valued.leaves (is.sound.safe.forms wanted).built.below in
        let same = result_is wanted result in
        within_ends (pos (2 ^ width - 1)) range.0 range.1 (value_of form found) (number_of program inputs wanted)
        (holds_le (pos 0) range.0 ends.0) (holds_le range.1 (pos (2 ^ width - 1)) ends.1) inside.least inside.most same
    number_fits (types.Int bits) wanted typed there = tt
    number_fits (types.Tensor count bits) wanted typed there = tt

    -- and the number of each operation lies in its type
    pub reached_clear : IsClear program inputs
    reached_clear = record {
      fhe = checked.fhe;
      arguments = are;
      numbers = λ k d within. entry_fits (get_or list k d) k (slice_get-get_or list k d within);
    }
      where
        entry_fits : (entry : ℕ × FheOp) (place : ℕ) → slice_get list place ≡ Some entry → IsNumberOf (type_of entry.1) (number_of program inputs entry.0)
        entry_fits entry place at =
            let placed : place_of list entry.0 ≡ place = place_here program checked.placed place entry.0 entry.1 at in
            let here : slice_get list (place_of list entry.0) ≡ Some (entry.0, entry.1) = ap (slice_get list) placed ∙ at in
            let typed : type_with list entry.0 ≡ type_of entry.1 =
            ap (λ o. option_map_or type_of o (types.Int 0)) (op_with-place list entry.0 entry.1 here) in
            number_fits (type_of entry.1) entry.0 typed (slice_get_within list (place_of list entry.0) (entry.0, entry.1) here)
