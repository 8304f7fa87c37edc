-- What holds where all statements are walked over.
use Rattle.std.proofs.Common.{◌≡◌, ℕ, zero, suc, ◌+◌, ◌≤◌, List, [], ◌∷◌, length, drop, refl, sym, ap, ◌∙◌, subst, arith, Some, Ok}
use Rattle.std.specs.List.{slice_get}
use Rattle.std.proofs.lemmas.List.{append-nil, length-drop}
use Rattle.refusals.specs.Steps.{value_of_step}
use Rattle.ir_core.specs.Graph.{IsGraph}
use Rattle.forms.specs.Laws.{FormLaws}
use Rattle.linear_forms.specs.Laws.{SumLaws}
use Rattle.fhe_level.specs.declared.level.FheOp.{FheOp}
use Rattle.fhe_level.specs.declared.program.Program.{Program}
use Rattle.fhe_level.specs.Operations.{operands_of}
use Rattle.fhe_level.specs.Checked.{IsChecked}
use Rattle.pattern_walk.specs.Walking.{Walked, nothing_walked, step, walk, walked}
use Rattle.pattern_walk.specs.Passing.{ok_same}
use Rattle.pattern_walk.specs.Keeping.{start_safe}
use Rattle.pattern_walk.specs.Stepping.{step_place}
use Rattle.pattern_pass.proofs.Sound.{IsSound}
use Rattle.pattern_pass.proofs.Kept.{step_sound}

-- ---- what is left of a list

-- nothing is left only behind all
none_left : {A : Type 0} (xs : List A) (place : ℕ) → drop place xs ≡ [] → length xs ≤ place
none_left xs place none = let count = length-drop place xs in let same = ap length none in omega (arith, count, same)

-- the first that is left stands at the place
first_left : {A : Type 0} (xs : List A) (place : ℕ) (x : A) (later : List A) → drop place xs ≡ x ∷ later
    → (slice_get xs place ≡ Some x) × (drop (place + 1) xs ≡ later)
first_left [] zero x later left = absurd cc
first_left [] (suc place) x later left = absurd cc
first_left (y ∷ xs) zero x later left = (let same : y ≡ x = cc in ap (λ z. Some z) same, let same : xs ≡ later = cc in same)
first_left (y ∷ xs) (suc place) x later left =
    let behind = first_left xs place x later left in
    let next : suc place + 1 ≡ suc (place + 1) = omega arith in
    (behind.0, ap (λ (n : ℕ). drop n (y ∷ xs)) next ∙ behind.1)

-- ---- before the first operation

pub start_sound : (program : Program) → IsChecked program → IsSound program (nothing_walked program.args)
start_sound program limited = record {
  safe = start_safe program limited;
  typed = λ number before is. absurd (omega arith);
  ranges = sym (append-nil program.args);
  looks = tt;
}

-- ---- the whole

module _ (sums : SumLaws) (laws : FormLaws) (program : Program) (limited : IsChecked program)
    (graph : IsGraph operands_of program.graph) where
  -- from a state on, with the operations that are left
  pub rest_sound : (later : List (ℕ × FheOp)) (state reached : Walked) → IsSound program state
      → drop state.place program.graph.list ≡ later
      → walk (length program.args) program.graph.list state later ≡ Ok reached
      → IsSound program reached × (reached.place ≡ length program.graph.list)
  rest_sound [] state reached sound left e =
      let same = ok_same state reached e in
      let past = none_left program.graph.list state.place left in
      let most = sound.safe.place in
      let place : state.place ≡ length program.graph.list = omega (arith, past, most) in
      (subst (IsSound program) same sound, sym (ap (λ (w : Walked). w.place) same) ∙ place)
  rest_sound (entry ∷ later) state reached sound left e =
      let here = first_left program.graph.list state.place entry later left in
      let taken = value_of_step (step (length program.args) program.graph.list state entry.0 entry.1)
      (λ next. walk (length program.args) program.graph.list next later) reached e in
      let next = taken.0 in
      let placed = step_place (length program.args) program.graph.list state entry.0 entry.1 next taken.1 in
      rest_sound later next reached
      (step_sound sums laws program limited graph state sound entry.0 entry.1 next here.0 taken.1)
      (ap (λ (n : ℕ). drop n program.graph.list) placed ∙ here.1) taken.2

  -- a walk that ends keeps it, and has gone over all operations
  pub walked_sound : (reached : Walked) → walked program ≡ Ok reached
      → IsSound program reached × (reached.place ≡ length program.graph.list)
  walked_sound reached e =
      rest_sound program.graph.list (nothing_walked program.args) reached (start_sound program limited) refl e
