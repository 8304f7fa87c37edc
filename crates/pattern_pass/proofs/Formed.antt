-- The laws of the patterns of a program.
use Rattle.std.proofs.Common.{◌≡◌, List, refl, sym, ap, ◌∙◌, subst, Result, Ok, Err}
use Rattle.std.specs.Prelude.{ℤ}
use Rattle.refusals.specs.Steps.{value_of_step}
use Rattle.forms.specs.Forms.{AreIn}
use Rattle.forms.specs.Laws.{FormLaws}
use Rattle.linear_forms.specs.Laws.{SumLaws}
use Rattle.ap_level.specs.declared.level.ApOp.{ApOp}
use Rattle.ap_level.specs.Patterns.{argument_ranges}
use Rattle.ap_level.specs.Patterns as on_patterns
use Rattle.ap_level.specs.Rules.{ArePatterns}
use Rattle.live_patterns.specs.declared.patterns.Patterns.{Patterns}
use Rattle.live_patterns.specs.Found.{AreFound, found_patterns}
use Rattle.live_patterns.specs.Live.{live_patterns}
use Rattle.live_patterns.specs.Laws.{LiveLaws}
use Rattle.fhe_level.specs.declared.program.Program.{Program}
use Rattle.fhe_level.specs.Programs.{clear_values}
use Rattle.fhe_level.specs.Clearing.{IsClear}
use Rattle.fhe_level.specs.Checked.{IsChecked}
use Rattle.fhe_level.specs.Laws.{ValueLaws}
use Rattle.pattern_walk.specs.declared.fault.FormFault.{FormFault}
use Rattle.pattern_walk.specs.Walking.{Walked, walked, patterns_in, patterns_found}
use Rattle.pattern_pass.specs.Formed.{formed}
use Rattle.pattern_pass.specs.Laws.{FormedLaws}
use Rattle.pattern_pass.proofs.Kept.{step_sound}
use Rattle.pattern_pass.proofs.Walked.{start_sound, walked_sound}
use Rattle.pattern_pass.proofs.Finding.{are_found}
use Rattle.pattern_pass.proofs.Results.{arguments_are}
use Rattle.pattern_pass.proofs.Reached.{IsReached, reached_is, reached_values, reached_clear}

ok_is : {A : Type 0} (x y : A) → ◌≡◌ {A = Result A FormFault} (Ok x) (Ok y) → x ≡ y
ok_is x y e = cc

-- patterns that were found are those at the end of a walk
end_of : (program : Program) (found : Patterns) → patterns_found program ≡ Ok found
    → (last : Walked) × (walked program ≡ Ok last) × (patterns_in program last ≡ found)
end_of program found e =
    let taken = value_of_step (walked program) (λ (last : Walked). Ok (patterns_in program last)) found e in
    (taken.0, taken.1, ok_is (patterns_in program taken.0) found taken.2)

-- operations that were formed are the live ones of those
pub record IsFormed (program : Program) (operations : List ApOp) : Type 0 where
  pub last : Walked
  pub reached : walked program ≡ Ok last
  pub is : operations ≡ live_patterns (found_patterns (patterns_in program last))

formed_from : (program : Program) (operations : List ApOp) → formed program ≡ Ok operations → IsFormed program operations
formed_from program operations e =
    let taken = value_of_step (patterns_found program) (λ (found : Patterns). Ok (live_patterns (found_patterns found))) operations e in
    let ends = end_of program taken.0 taken.1 in
    record {
      last = ends.0;
      reached = ends.1;
      is = sym (ok_is (live_patterns (found_patterns taken.0)) operations taken.2)
          ∙ ap (λ (found : Patterns). live_patterns (found_patterns found)) (sym ends.2);
    }

module _ (forms : FormLaws) (sums : SumLaws) where
  found_at : (program : Program) → IsChecked program → (last : Walked) → walked program ≡ Ok last
      → AreFound (found_patterns (patterns_in program last))
  found_at program checked last e =
      let sound = walked_sound sums forms program checked checked.graph last e in
      are_found program checked last sound.0 sound.1

  -- patterns that were found keep their rules
  pub found_of : (program : Program) → IsChecked program → (found : Patterns) → patterns_found program ≡ Ok found
      → AreFound (found_patterns found)
  found_of program checked found e =
      let ends = end_of program found e in
      subst (λ (p : Patterns). AreFound (found_patterns p)) ends.2 (found_at program checked ends.0 ends.1)

  module _ (values : ValueLaws) (live : LiveLaws) where
    reached : (program : Program) (inputs : List ℤ) (checked : IsChecked program) → AreIn program.args inputs → (last : Walked)
        → walked program ≡ Ok last → IsReached program inputs last
    reached program inputs checked are last e =
        reached_is forms sums values program inputs checked checked.graph are
        (λ before next number op sound here given. step_sound sums forms program checked checked.graph before sound number op next here given)
        (start_sound program checked) last e

    keep_rules : (program : Program) (operations : List ApOp) → IsChecked program → formed program ≡ Ok operations → ArePatterns operations
    keep_rules program operations checked e =
        let f = formed_from program operations e in
        subst ArePatterns (sym f.is) (live.rules (found_patterns (patterns_in program f.last)) (found_at program checked f.last f.reached))

    have_arguments : (program : Program) (operations : List ApOp) → IsChecked program → formed program ≡ Ok operations
        → argument_ranges operations ≡ program.args
    have_arguments program operations checked e =
        let f = formed_from program operations e in
        ap argument_ranges f.is
        ∙ live.inputs (found_patterns (patterns_in program f.last)) (found_at program checked f.last f.reached)
        ∙ arguments_are (patterns_in program f.last)

    compute_values : (program : Program) (operations : List ApOp) (inputs : List ℤ) → IsChecked program → formed program ≡ Ok operations
        → AreIn program.args inputs → on_patterns.clear_values operations inputs ≡ clear_values program inputs
    compute_values program operations inputs checked e are =
        let f = formed_from program operations e in
        ap (λ (l : List ApOp). on_patterns.clear_values l inputs) f.is
        ∙ live.values (found_patterns (patterns_in program f.last)) inputs (found_at program checked f.last f.reached)
        ∙ reached_values forms sums values program inputs checked checked.graph are f.last (reached program inputs checked are f.last f.reached)

    are_clear : (program : Program) (operations : List ApOp) (inputs : List ℤ) → IsChecked program → formed program ≡ Ok operations
        → AreIn program.args inputs → IsClear program inputs
    are_clear program operations inputs checked e are =
        let f = formed_from program operations e in
        reached_clear forms sums values program inputs checked checked.graph are f.last (reached program inputs checked are f.last f.reached)

    pub formed_laws : FormedLaws
    formed_laws = record {
      rules = keep_rules;
      arguments = have_arguments;
      values = compute_values;
      clear = are_clear;
    }
