-- The number of an operation, from the numbers of its operands.
use Rattle.std.proofs.Common.{◌≡◌, ℕ, zero, suc, ◌+◌, ◌<◌, Bool, true, List, [], ◌∷◌, length, get_or, map, take, All, refl, sym, ap, ◌∙◌, arith, inl, inr, eq-eqb, Option, Some}
use Rattle.std.specs.Prelude.{ℤ, pos, ◌≤ℤ◌, ◌&&◌, int_le, slice_index}
use Rattle.std.specs.List.{AllByRecursion, Contains, slice_get, enumerate_from}
use Rattle.std.specs.Option.{option_map_or}
use Rattle.std.proofs.lemmas.Int.{ints}
use Rattle.std.proofs.lemmas.Bool.{false≢true}
use Rattle.std.proofs.lemmas.Bool.Decides.{eqb_tells}
use Rattle.std.proofs.lemmas.List.Elements.{recursion_from_All, Contains-get_or}
use Rattle.std.proofs.lemmas.Option.{slice_get_within, get_or_from_slice_get}
use Rattle.forms.specs.Forms.{number_at, AreIn}
use Rattle.ir_core.specs.Graph.{IsGraph, place_of}
use Rattle.ir_core.specs.Placed.{operations_of, IsPlaced}
use Rattle.fhe_text.specs.declared.source.WrittenType.{WrittenType}
use Rattle.fhe_text.specs.declared.source.WrittenType.TheVariants as types
use Rattle.fhe_text.specs.declared.source.OpName.{OpName}
use Rattle.fhe_text.specs.declared.source.Entries.TheVariants as tables
use Rattle.fhe_level.specs.declared.level.FheOp.{FheOp}
use Rattle.fhe_level.specs.declared.level.FheOp.TheVariants as ops
use Rattle.fhe_level.specs.declared.program.Program.{Program}
use Rattle.fhe_level.specs.Rows.{is_eint, is_int, is_eint_of}
use Rattle.fhe_level.specs.Operations.{operands_of, type_of}
use Rattle.fhe_level.specs.Types.{type_range, is_range_in}
use Rattle.fhe_level.specs.Programs.{Value, number_in, entry_of, entry_in, value_at, value_of, apply, operation_values}
use Rattle.fhe_level.specs.Clearing.{op_with, type_with, KeepsRow, AreArguments, IsFhe, number_of}
use Rattle.fhe_level.specs.Standing.{both, op_with-place, op_there, entry_has, argument_has_range}
use Rattle.fhe_level.specs.Laws.{ValueLaws}
use Rattle.pattern_walk.specs.Passing.{holds_le}
use Rattle.pattern_walk.specs.Sums.{constant_of, constant_with, table_of, table_with}

-- ---- places

-- where numbers are places, that of the operation at a place is the place
place_from : (operations : List FheOp) (first place wanted : ℕ) (op : FheOp)
    → slice_get (enumerate_from first operations) place ≡ Some (wanted, op)
    → (wanted ≡ first + place) × (place_of (enumerate_from first operations) wanted ≡ place)
place_from [] first place wanted op at = absurd cc
place_from (o ∷ operations) first zero wanted op at =
    let same : first ≡ wanted = ap (λ (found : Option (ℕ × FheOp)). option_map_or (λ (entry : ℕ × FheOp). entry.0) found 0) at in
    (omega (arith, same), rw (eq-eqb first wanted same) refl)
place_from (o ∷ operations) first (suc place) wanted op at =
    let later = place_from operations (first + 1) place wanted op at in
    let number_is : wanted ≡ first + suc place = omega (arith, later.0) in (
      number_is,
      elim (eqb_tells first wanted) [
        | inl same ↦ absurd (omega (arith, same.1, number_is))
        | inr other ↦ rw other.0 (omega (arith, later.1))
      ],
    )

pub place_here : (program : Program) → IsPlaced program.graph → (place wanted : ℕ) (op : FheOp)
    → slice_get program.graph.list place ≡ Some (wanted, op) → place_of program.graph.list wanted ≡ place
place_here program placed place wanted op at =
    let numbered : slice_get (enumerate_from 0 (operations_of program.graph)) place ≡ Some (wanted, op) =
    sym (ap (λ (l : List (ℕ × FheOp)). slice_get l place) placed.numbers) ∙ at in
    ap (λ (l : List (ℕ × FheOp)). place_of l wanted) placed.numbers
    ∙ (place_from (operations_of program.graph) 0 place wanted op numbered).1

-- ---- one operation

map_same : {A B : Type 0} (f g : A → B) (xs : List A) → AllByRecursion (λ x. f x ≡ g x) xs → map f xs ≡ map g xs
map_same f g [] same = refl
map_same f g (x ∷ xs) same = ap (λ y. y ∷ map f xs) same.0 ∙ ap (λ ys. g x ∷ ys) (map_same f g xs same.1)

module _ (values : ValueLaws) (program : Program) (inputs : List ℤ) (graph : IsGraph operands_of program.graph) where
  abbrev list : List (ℕ × FheOp)
  list = program.graph.list

  abbrev all : List (ℕ × Value)
  all = operation_values list inputs

  module _ (wanted : ℕ) (op : FheOp) (at : slice_get list (place_of list wanted) ≡ Some (wanted, op)) where
    abbrev place : ℕ
    place = place_of list wanted

    abbrev earlier : List (ℕ × Value)
    earlier = operation_values (take place list) inputs

    within : place < length list
    within = slice_get_within list place (wanted, op) at

    -- each operand stands before it
    pub before : All (λ operand. place_of list operand < place) (operands_of op)
    before k d inside =
        let contained : Contains list (wanted, op) = (place, within, get_or_from_slice_get list place (wanted, op) (wanted, op) at) in
        graph.earlier wanted (get_or (operands_of op) k d) op contained (Contains-get_or (operands_of op) k d inside)

    operands_same : map (value_at earlier) (operands_of op) ≡ map (value_at all) (operands_of op)
    operands_same =
        map_same (value_at earlier) (value_at all) (operands_of op)
        (recursion_from_All (λ operand. value_at earlier operand ≡ value_at all operand) (operands_of op)
        (λ k d inside. values.before inputs list place (get_or (operands_of op) k d) (before k d inside) (omega (arith, within))))

    value_here : value_at all wanted ≡ value_of inputs earlier op
    value_here = values.here inputs list wanted op at

    pub number_here : number_of program inputs wanted ≡ number_in (value_of inputs earlier op)
    number_here = ap number_in value_here

    pub count_here : length earlier ≡ place
    count_here = values.count inputs list place (omega (arith, within))

  -- an operation on others
  pub apply_here : (wanted : ℕ) (name : OpName) (operands : List ℕ) (ty : WrittenType)
      → slice_get list (place_of list wanted) ≡ Some (wanted, ops.Apply name operands ty)
      → number_of program inputs wanted ≡ apply name (map (value_at all) operands)
  apply_here wanted name operands ty at =
      number_here wanted (ops.Apply name operands ty) at ∙ ap (apply name) (operands_same wanted (ops.Apply name operands ty) at)

  -- an argument
  pub argument_here : (wanted : ℕ) (ty : WrittenType) → slice_get list (place_of list wanted) ≡ Some (wanted, ops.Arg ty)
      → number_of program inputs wanted ≡ number_at inputs (place_of list wanted)
  argument_here wanted ty at = number_here wanted (ops.Arg ty) at ∙ ap (number_at inputs) (count_here wanted (ops.Arg ty) at)

-- ---- constants

eint_not_int : (ty : WrittenType) → is_eint ty ≡ true → is_int ty ≡ true → ⊥
eint_not_int (types.Eint width) eint int = false≢true int
eint_not_int (types.Int bits) eint int = false≢true eint
eint_not_int (types.Tensor count bits) eint int = false≢true eint

pub eint_by : (width : ℕ) (ty : WrittenType) → is_eint_of width ty ≡ true → is_eint ty ≡ true
eint_by width (types.Eint other) is = refl
eint_by width (types.Int bits) is = absurd (false≢true is)
eint_by width (types.Tensor count bits) is = absurd (false≢true is)

only_zero : (least most z : ℤ) → pos 0 ≤ℤ least → most ≤ℤ pos 0 → least ≤ℤ z → z ≤ℤ most → z ≡ pos 0
only_zero least most z p q r s = omega (arith, ints, p, q, r, s)

-- an argument of no encrypted type is 0
argument_zero : (operations : List (ℕ × FheOp)) (ranges : List (ℤ × ℤ)) (inputs : List ℤ) (place wanted bits : ℕ)
    → AreArguments operations ranges → AreIn ranges inputs → slice_get operations place ≡ Some (wanted, ops.Arg (types.Int bits))
    → number_at inputs place ≡ pos 0
argument_zero operations [] inputs place wanted bits arguments are at =
    absurd (omega (arith, argument_has_range operations [] place wanted (types.Int bits) arguments at))
argument_zero [] (range ∷ ranges) inputs place wanted bits arguments are at = absurd arguments
argument_zero (entry ∷ operations) (range ∷ ranges) [] place wanted bits arguments are at = absurd are
argument_zero (entry ∷ operations) (range ∷ ranges) (z ∷ inputs) zero wanted bits arguments are at =
    let own : entry ≡ (wanted, ops.Arg (types.Int bits)) = cc in
    let inside : is_range_in (type_range (types.Int bits)) range ≡ true =
    sym (ap (λ (e : ℕ × FheOp). is_range_in (type_range (type_of e.1)) range) own) ∙ arguments.1 in
    let ends = both (int_le range.0 range.1 && int_le (pos 0) range.0) (int_le range.1 (pos 0)) inside in
    let low = both (int_le range.0 range.1) (int_le (pos 0) range.0) ends.0 in
    only_zero range.0 range.1 z (holds_le (pos 0) range.0 low.1) (holds_le range.1 (pos 0) ends.1) are.0.least are.0.most
argument_zero (entry ∷ operations) (range ∷ ranges) (z ∷ inputs) (suc place) wanted bits arguments are at =
    argument_zero operations ranges inputs place wanted bits arguments.2 are.1 at

module _ (values : ValueLaws) (program : Program) (inputs : List ℤ) (graph : IsGraph operands_of program.graph)
    (fhe : IsFhe program) (are : AreIn program.args inputs) where
  abbrev nodes : List (ℕ × FheOp)
  nodes = program.graph.list

  -- it keeps its row
  pub row_here : (wanted : ℕ) (op : FheOp) → slice_get nodes (place_of nodes wanted) ≡ Some (wanted, op) → KeepsRow nodes op
  row_here wanted op at = entry_has (λ (entry : ℕ × FheOp). KeepsRow nodes entry.1) nodes (place_of nodes wanted) (wanted, op) fhe.rows at

  constant_is : (wanted : ℕ) (op : FheOp) → slice_get nodes (place_of nodes wanted) ≡ Some (wanted, op) → is_int (type_of op) ≡ true
      → number_of program inputs wanted ≡ constant_of op
  constant_is wanted (ops.Arg (types.Eint width)) at int = absurd (false≢true int)
  constant_is wanted (ops.Arg (types.Tensor count bits)) at int = absurd (false≢true int)
  constant_is wanted (ops.Arg (types.Int bits)) at int =
      argument_here values program inputs graph wanted (types.Int bits) at
      ∙ argument_zero nodes program.args inputs (place_of nodes wanted) wanted bits fhe.arguments are at
  constant_is wanted (ops.Int value bits) at int = number_here values program inputs graph wanted (ops.Int value bits) at
  constant_is wanted (ops.Dense found count bits) at int = absurd (false≢true int)
  constant_is wanted (ops.Apply name operands ty) at int =
      let keeps = row_here wanted (ops.Apply name operands ty) at in
      absurd (eint_not_int ty (both (is_eint ty) _ keeps.1).0 int)

  module _ (wanted : ℕ) (there : place_of nodes wanted < length nodes) where
    found_here : (op : FheOp) × (slice_get nodes (place_of nodes wanted) ≡ Some (wanted, op))
    found_here = op_there nodes wanted there

    op_here : op_with nodes wanted ≡ Some found_here.0
    op_here = op_with-place nodes wanted found_here.0 found_here.1

    -- the number of a constant operand is that of the text
    pub constant_number : is_int (type_with nodes wanted) ≡ true → number_of program inputs wanted ≡ constant_with nodes wanted
    constant_number int =
        let typed : type_with nodes wanted ≡ type_of found_here.0 = ap (λ o. option_map_or type_of o (types.Int 0)) op_here in
        constant_is wanted found_here.0 found_here.1 (sym (ap is_int typed) ∙ int)
        ∙ sym (ap (λ o. option_map_or constant_of o (pos 0)) op_here)

    table_is : (op : FheOp) (so_far : List (ℕ × Value)) (index : ℤ) → entry_in (value_of inputs so_far op) index ≡ entry_of (table_of op) index
    table_is (ops.Arg ty) so_far index = refl
    table_is (ops.Int value bits) so_far index = refl
    table_is (ops.Dense found count bits) so_far index = refl
    table_is (ops.Apply name operands ty) so_far index = refl

    -- the entries of a table operand are those of the text
    pub table_entry : (index : ℤ) → entry_in (value_at (operation_values nodes inputs) wanted) index ≡ entry_of (table_with nodes wanted) index
    table_entry index =
        ap (λ v. entry_in v index) (values.here inputs nodes wanted found_here.0 found_here.1)
        ∙ table_is found_here.0 (operation_values (take (place_of nodes wanted) nodes) inputs) index
        ∙ sym (ap (λ o. entry_of (option_map_or table_of o (tables.Splat (pos 0))) index) op_here)

-- ---- rows

-- so many operands
pub no_operand : (operands : List ℕ) → length operands ≡ 0 → operands ≡ []
no_operand [] long = refl
no_operand (a ∷ operands) long = absurd (omega arith)

pub one_operand : (operands : List ℕ) → length operands ≡ 1 → operands ≡ slice_index operands 0 ∷ []
one_operand [] long = absurd (omega arith)
one_operand (a ∷ []) long = refl
one_operand (a ∷ b ∷ operands) long = absurd (omega arith)

pub two_operands : (operands : List ℕ) → length operands ≡ 2 → operands ≡ slice_index operands 0 ∷ slice_index operands 1 ∷ []
two_operands [] long = absurd (omega arith)
two_operands (a ∷ []) long = absurd (omega arith)
two_operands (a ∷ b ∷ []) long = refl
two_operands (a ∷ b ∷ c ∷ operands) long = absurd (omega arith)

-- what a row says of its operands' types
pub one_holds : (first a : Bool) → (first && (a && true)) ≡ true → a ≡ true
one_holds first a is = (both a true (both first (a && true) is).1).0

pub two_hold : (first a b : Bool) → (first && (a && (b && true))) ≡ true → (a ≡ true) × (b ≡ true)
two_hold first a b is =
    let rest = both a (b && true) (both first (a && (b && true)) is).1 in
    (rest.0, (both b true rest.1).0)
