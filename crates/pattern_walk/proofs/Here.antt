-- The operation that stands at a place.
use Rattle.std.proofs.Common.{◌≡◌, ℕ, suc, ◌+◌, ◌<◌, ◌≤◌, ◌==◌, List, [], ◌∷◌, length, get_or, drop, All, refl, sym, ap, ◌∙◌, arith, add-one, inl, inr, Some, None}
use Rattle.std.specs.List.{slice_get, Contains}
use Rattle.std.proofs.Math.Seq.{drop-cons}
use Rattle.std.proofs.lemmas.Bool.Decides.{eqb_tells}
use Rattle.std.proofs.lemmas.List.Elements.{Contains-get_or}
use Rattle.std.proofs.lemmas.Option.{slice_get_within, get_or_from_slice_get}
use Rattle.ir_core.specs.Graph.{IsGraph, Holds, place_of}
use Rattle.fhe_level.specs.declared.level.FheOp.{FheOp}
use Rattle.fhe_level.specs.declared.level.FheOp.TheVariants as ops
use Rattle.fhe_level.specs.declared.program.Program.{Program}
use Rattle.fhe_level.specs.Operations.{operands_of, type_of}
use Rattle.fhe_level.specs.Clearing.{HasWidth, KeepsRow, IsFhe}
use Rattle.fhe_level.specs.Standing.{entry_has, number_there}

place_most : (operations : List (ℕ × FheOp)) (number : ℕ) → place_of operations number ≤ length operations
place_most [] number = omega arith
place_most (entry ∷ operations) number =
    elim (eqb_tells entry.0 number) [
      | inl same ↦ rw same.0 (omega arith)
      | inr other ↦ rw other.0 (omega (arith, place_most operations number))
    ]

module _ (program : Program) (fhe : IsFhe program) (place number : ℕ) (op : FheOp)
    (here : slice_get program.graph.list place ≡ Some (number, op)) where
  pub within_here : place < length program.graph.list
  within_here = slice_get_within program.graph.list place (number, op) here

  pub width_at : HasWidth (type_of op)
  width_at = entry_has (λ (entry : ℕ × FheOp). HasWidth (type_of entry.1)) program.graph.list place (number, op) fhe.widths here

  pub row_at : KeepsRow program.graph.list op
  row_at = entry_has (λ (entry : ℕ × FheOp). KeepsRow program.graph.list entry.1) program.graph.list place (number, op) fhe.rows here

  -- each operand is there
  pub operands_at : IsGraph operands_of program.graph → All (Holds program.graph.list) (operands_of op)
  operands_at graph = λ k d inside.
      let contained : Contains program.graph.list (number, op) =
      (place, within_here, get_or_from_slice_get program.graph.list place (number, op) (number, op) here) in
      let below = graph.earlier number (get_or (operands_of op) k d) op contained (Contains-get_or (operands_of op) k d inside) in
      number_there program.graph.list (get_or (operands_of op) k d) (omega (arith, below, place_most program.graph.list number))

  -- the operations from here on
  pub rest_here : drop place program.graph.list ≡ (number, op) ∷ drop (place + 1) program.graph.list
  rest_here =
      let first : get_or program.graph.list place (number, op) ≡ (number, op) =
      get_or_from_slice_get program.graph.list place (number, op) (number, op) here in
      drop-cons program.graph.list place (number, op) within_here
      ∙ rw (add-one place) (ap (λ (entry : ℕ × FheOp). entry ∷ drop (suc place) program.graph.list) first)
