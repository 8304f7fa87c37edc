-- The walk goes on after each operation.
use Rattle.std.proofs.Common.{◌≡◌, ℕ, zero, suc, ◌+◌, ◌≤◌, List, [], ◌∷◌, length, drop, refl, sym, ap, ◌∙◌, arith, Some, Ok, Err}
use Rattle.std.specs.Prelude.{Result}
use Rattle.std.specs.List.{slice_get}
use Rattle.refusals.specs.declared.refusal.Refusal.{Refusal}
use Rattle.refusals.specs.declared.refusal.Refusal.TheVariants.{Fault, Memory}
use Rattle.refusals.specs.Reading.{◌>>=◌, Refuses}
use Rattle.fhe_level.specs.declared.level.FheOp.{FheOp}
use Rattle.fhe_level.specs.declared.program.Program.{Program}
use Rattle.fhe_level.specs.Clearing.{IsFhe}
use Rattle.pattern_walk.specs.declared.fault.FormFault.{FormFault}
use Rattle.pattern_walk.specs.Walking.{Walked, step, walk}
use Rattle.pattern_walk.proofs.Here.{rest_here}
use Rattle.pattern_walk.specs.Stepping.{step_place}

module _ (program : Program) (fhe : IsFhe program) (walked : Walked) (number : ℕ) (op : FheOp)
    (here : slice_get program.graph.list walked.place ≡ Some (number, op)) where
  abbrev list : List (ℕ × FheOp)
  list = program.graph.list

  abbrev inputs : ℕ
  inputs = length program.args

  -- what is left gives what the step and the rest give
  rest_is : walk inputs list walked (drop walked.place list)
      ≡ (step inputs list walked number op >>= λ next. walk inputs list next (drop (walked.place + 1) list))
  rest_is = ap (walk inputs list walked) (rest_here program fhe walked.place number op here)

  pub rest_ok : (next : Walked) → step inputs list walked number op ≡ Ok next
      → walk inputs list next (drop next.place list) ≡ walk inputs list walked (drop walked.place list)
  rest_ok next e =
      ap (λ (n : ℕ). walk inputs list next (drop n list)) (step_place inputs list walked number op next e)
      ∙ sym (rest_is ∙ ap (λ (r : Result Walked FormFault). r >>= λ next. walk inputs list next (drop (walked.place + 1) list)) e)

  pub rest_err : (fault : FormFault) → step inputs list walked number op ≡ Err fault
      → walk inputs list walked (drop walked.place list) ≡ Err fault
  rest_err fault e =
      rest_is ∙ ap (λ (r : Result Walked FormFault). r >>= λ next. walk inputs list next (drop (walked.place + 1) list)) e

  -- a step that was refused refuses the whole
  pub rest_refused : (refusal : Refusal FormFault) → Refuses refusal (step inputs list walked number op)
      → Refuses refusal (walk inputs list walked (drop walked.place list))
  rest_refused (Fault fault) e = rest_err fault e
  rest_refused Memory e = tt
