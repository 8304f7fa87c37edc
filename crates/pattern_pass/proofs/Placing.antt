-- The places of the numbers of a program, and the ranges of its arguments.
use Rattle.std.proofs.Common.{◌≡◌, ℕ, zero, suc, ◌+◌, true, List, [], ◌∷◌, refl, sym, ap, ◌∙◌, subst, arith, eq-eqb, inl, inr, Option, Some}
use Rattle.std.specs.Prelude.{ℤ, pos, ◌&&◌, int_le, ◌^◌, ◌-◌}
use Rattle.std.specs.List.{slice_get, enumerate_from}
use Rattle.std.specs.Option.{option_map_or}
use Rattle.std.proofs.lemmas.Bool.Decides.{eqb_tells}
use Rattle.ir_core.specs.Graph.{place_of}
use Rattle.ir_core.specs.Placed.{operations_of}
use Rattle.forms.specs.Forms.{range_at}
use Rattle.fhe_text.specs.declared.source.WrittenType.{WrittenType}
use Rattle.fhe_text.specs.declared.source.WrittenType.TheVariants as types
use Rattle.fhe_level.specs.declared.level.FheOp.{FheOp}
use Rattle.fhe_level.specs.declared.level.FheOp.TheVariants as ops
use Rattle.fhe_level.specs.declared.program.Program.{Program}
use Rattle.fhe_level.specs.Types.{type_range, is_range_in}
use Rattle.fhe_level.specs.Operations.{type_of}
use Rattle.fhe_level.specs.Clearing.{AreArguments}
use Rattle.fhe_level.specs.Checked.{IsChecked}
use Rattle.fhe_level.specs.Standing.{both, argument_has_range}
use Rattle.pattern_walk.specs.Walking.{is_in_type}

-- ---- places

-- numbers that are counted from n on: the one at a place, and its place
place_from : (operations : List FheOp) (n place number : ℕ) (op : FheOp)
    → slice_get (enumerate_from n operations) place ≡ Some (number, op)
    → (n + place ≡ number) × (place_of (enumerate_from n operations) number ≡ place)
place_from [] n place number op at = absurd cc
place_from (first ∷ operations) n zero number op at =
    let same : n ≡ number = ap (λ (found : Option (ℕ × FheOp)). option_map_or (λ (entry : ℕ × FheOp). entry.0) found 0) at in
    (omega (arith, same), rw (eq-eqb n number same) refl)
place_from (first ∷ operations) n (suc place) number op at =
    let later = place_from operations (n + 1) place number op at in
    let counted = later.0 in
    let behind = later.1 in (
      omega (arith, counted),
      elim (eqb_tells n number) [
        | inl same ↦ absurd (let equal = same.1 in omega (arith, counted, equal))
        | inr other ↦ rw other.0 (omega (arith, behind))
      ],
    )

-- the operation at a place has its number there
pub place_here : (program : Program) → IsChecked program → (place number : ℕ) (op : FheOp)
    → slice_get program.graph.list place ≡ Some (number, op) → place_of program.graph.list number ≡ place
place_here program limited place number op at =
    let same = limited.placed.numbers in
    let found = ap (λ (list : List (ℕ × FheOp)). slice_get list place) (sym same) ∙ at in
    ap (λ (list : List (ℕ × FheOp)). place_of list number) same
    ∙ (place_from (operations_of program.graph) 0 place number op found).1

-- ---- arguments

argument_fits : (operations : List (ℕ × FheOp)) (ranges : List (ℤ × ℤ)) (place wanted : ℕ) (ty : WrittenType)
    → AreArguments operations ranges → slice_get operations place ≡ Some (wanted, ops.Arg ty)
    → is_range_in (type_range ty) (range_at ranges place) ≡ true
argument_fits operations [] place wanted ty are at =
    let within = argument_has_range operations [] place wanted ty are at in absurd (omega (arith, within))
argument_fits [] (range ∷ ranges) place wanted ty are at = absurd are
argument_fits (entry ∷ operations) (range ∷ ranges) zero wanted ty are at =
    let own : entry ≡ (wanted, ops.Arg ty) = cc in
    subst (λ (e : ℕ × FheOp). is_range_in (type_range (type_of e.1)) range ≡ true) own are.1
argument_fits (entry ∷ operations) (range ∷ ranges) (suc place) wanted ty are at =
    argument_fits operations ranges place wanted ty are.2 at

in_type_by : (ty : WrittenType) (range : ℤ × ℤ) → is_range_in (type_range ty) range ≡ true → is_in_type ty range ≡ true
in_type_by (types.Eint width) range fits =
    let ends = both (int_le range.0 range.1 && int_le (pos 0) range.0) (int_le range.1 (pos (2 ^ width - 1))) fits in
    let low = both (int_le range.0 range.1) (int_le (pos 0) range.0) ends.0 in
    rw (low.1, ends.1) refl
in_type_by (types.Int bits) range fits = refl
in_type_by (types.Tensor count bits) range fits = refl

-- the range of an argument lies in its type
pub argument_inside : (operations : List (ℕ × FheOp)) (ranges : List (ℤ × ℤ)) (place wanted : ℕ) (ty : WrittenType)
    → AreArguments operations ranges → slice_get operations place ≡ Some (wanted, ops.Arg ty)
    → is_in_type ty (range_at ranges place) ≡ true
argument_inside operations ranges place wanted ty are at =
    in_type_by ty (range_at ranges place) (argument_fits operations ranges place wanted ty are at)
