-- A program that is computed operation by operation.
use Rattle.std.proofs.Common.{◌≡◌, ◌≢◌, ℕ, zero, suc, ◌+◌, ◌<◌, ◌≤◌, ◌==◌, ◌^◌, Bool, true, false, cond, List, [], ◌∷◌, ◌++◌, length, get_or, set, map, take, drop, All, refl, sym, ap, ◌∙◌, subst, add-one, arith, Option, Some, None, inl, inr}
use Rattle.std.specs.Prelude.{ℤ, pos, not, ◌≤ℤ◌, ◌<ℤ◌}
use Rattle.std.specs.List.{AllByRecursion, Contains, slice_get, slice_index_or, list_all}
use Rattle.std.specs.Option.{option_map_or, IsSomeAnd}
use Rattle.std.proofs.lemmas.Bool.{false≢true, cases_lt}
use Rattle.std.proofs.lemmas.List.{get_or-set_other, get_or-set_same, take_more, map_push}
use Rattle.std.proofs.lemmas.List.Elements.{All-from_recursion, recursion_from_All, Contains-get_or}
use Rattle.std.proofs.lemmas.Option.{slice_get_within, slice_get-get_or, get_or_from_slice_get}
use Rattle.forms.specs.Forms.{number_at, AreIn}
use Rattle.ir_core.specs.Graph.{Operations, IsGraph, Holds, StandsBefore, place_of, numbers_of}
use Rattle.fhe_text.specs.declared.source.WrittenType.{WrittenType}
use Rattle.fhe_text.specs.declared.source.WrittenType.TheVariants as types
use Rattle.fhe_text.specs.declared.source.OpName.{OpName}
use Rattle.fhe_text.specs.declared.source.OpName.TheVariants.{ApplyLookupTable}
use Rattle.fhe_level.specs.declared.level.FheOp.{FheOp}
use Rattle.fhe_level.specs.declared.level.FheOp.TheVariants as ops
use Rattle.fhe_level.specs.declared.program.Program.{Program}
use Rattle.fhe_level.specs.Limits.{width_of}
use Rattle.fhe_level.specs.Rows.{row_of, keeps_row, fits_table, tensor_length, is_eint}
use Rattle.fhe_level.specs.Operations.{operands_of, type_of}
use Rattle.fhe_level.specs.Programs.{Value, number, table, number_in, operand_at, apply, value_at, value_of, operation_values}
use Rattle.fhe_level.specs.Clearing.{op_with, type_with, KeepsRow, HasEntries, HasWidth, IsNumberOf, IsResult, is_argument, is_constant, AreArguments, number_of, IsFhe, IsClear}
use Rattle.fhe_level.specs.Room.{held, held_value, HoldsBefore, AreHeld, IsIndexIn, CanApply}
use Rattle.fhe_level.specs.Standing.{both, op_with-place, op_there, number_there, same_place, entry_has, argument_has_range, length_in, index_type, finds}
use Rattle.fhe_level.proofs.Values.{value_is, value_before, values_before}
use Rattle.fhe_level.proofs.Entries.{bounded, can_apply, held_is}

map_same : {A B : Type 0} (f g : A → B) (xs : List A) → AllByRecursion (λ x. f x ≡ g x) xs → map f xs ≡ map g xs
map_same f g [] same = refl
map_same f g (x ∷ xs) same = ap (λ y. y ∷ map f xs) same.0 ∙ ap (λ ys. g x ∷ ys) (map_same f g xs same.1)

-- ---- one operation

module _ (program : Program) (inputs : List ℤ) (graph : IsGraph operands_of program.graph) (wanted : ℕ) (op : FheOp)
    (at : slice_get program.graph.list (place_of program.graph.list wanted) ≡ Some (wanted, op)) where
  abbrev list : List (ℕ × FheOp)
  list = program.graph.list

  abbrev place : ℕ
  place = place_of list wanted

  abbrev values : List (ℕ × Value)
  values = operation_values list inputs

  within : place < length list
  within = slice_get_within list place (wanted, op) at

  contained : Contains list (wanted, op)
  contained = (place, within, get_or_from_slice_get list place (wanted, op) (wanted, op) at)

  -- each operand stands before it
  before : All (λ operand. place_of list operand < place) (operands_of op)
  before k d inside =
      graph.earlier wanted (get_or (operands_of op) k d) op contained (Contains-get_or (operands_of op) k d inside)

  -- and has among all values the value that it has among those before it
  operands_same : map (value_at (operation_values (take place list) inputs)) (operands_of op) ≡ map (value_at values) (operands_of op)
  operands_same =
      map_same (value_at (operation_values (take place list) inputs)) (value_at values) (operands_of op) (recursion_from_All (λ operand. value_at (operation_values (take place list) inputs) operand ≡ value_at values operand) (operands_of op) (λ k d inside. value_before inputs list place (get_or (operands_of op) k d) (before k d inside) (omega (arith, within))))

  -- the value of the operation, from those before it
  pub value_here : value_at values wanted ≡ value_of inputs (operation_values (take place list) inputs) op
  value_here = value_is inputs list wanted op at

  pub number_here : number_of program inputs wanted ≡ number_in (value_of inputs (operation_values (take place list) inputs) op)
  number_here = ap number_in value_here

  pub count_here : length (operation_values (take place list) inputs) ≡ place
  count_here = values_before inputs list place (omega (arith, within))

  -- what the room has of its operands
  module _ (room : List ℤ) (holds : HoldsBefore program inputs room place) where
    held_there : (operand : ℕ) → place_of list operand < place → held_value list room operand ≡ value_at values operand
    held_there operand below =
        let found = op_there list operand (omega (arith, within)) in
        let is = value_is inputs list operand found.0 found.1 in
        ap (λ o. option_map_or (held (number_at room operand)) o (number (pos 0))) (op_with-place list operand found.0 found.1)
        ∙ held_is found.0 inputs (operation_values (take (place_of list operand) list) inputs) (number_at room operand)
        (holds operand below ∙ ap number_in is)
        ∙ sym is

    pub held_values : map (held_value list room) (operands_of op) ≡ map (value_at values) (operands_of op)
    held_values =
        map_same (held_value list room) (value_at values) (operands_of op) (recursion_from_All (λ operand. held_value list room operand ≡ value_at values operand) (operands_of op) (λ k d inside. held_there (get_or (operands_of op) k d) (before k d inside)))

    pub are_held : AreHeld list room (operands_of op)
    are_held = record {
      there = λ k d inside. let below = before k d inside in number_there list (get_or (operands_of op) k d) (omega (arith, within));
      numbers = λ k d inside.
          ap number_in (held_there (get_or (operands_of op) k d) (before k d inside))
          ∙ sym (holds (get_or (operands_of op) k d) (before k d inside));
    }

-- ---- an argument

pub argument_here : (program : Program) (inputs : List ℤ) → IsClear program inputs → (wanted : ℕ) (ty : WrittenType)
    → slice_get program.graph.list (place_of program.graph.list wanted) ≡ Some (wanted, ops.Arg ty)
    → place_of program.graph.list wanted < length inputs
argument_here program inputs clear wanted ty at =
    omega (arith, argument_has_range program.graph.list program.args (place_of program.graph.list wanted) wanted ty clear.fhe.arguments at, length_in program.args inputs clear.arguments)

-- ---- an operation on others

module _ (program : Program) (inputs : List ℤ) (graph : IsGraph operands_of program.graph) (clear : IsClear program inputs)
    (wanted : ℕ) (name : OpName) (operands : List ℕ) (ty : WrittenType)
    (at : slice_get program.graph.list (place_of program.graph.list wanted) ≡ Some (wanted, ops.Apply name operands ty)) where
  abbrev nodes : List (ℕ × FheOp)
  nodes = program.graph.list

  abbrev spot : ℕ
  spot = place_of nodes wanted

  abbrev operand_values : List Value
  operand_values = map (value_at (operation_values nodes inputs)) operands

  -- its number
  pub number_is : number_of program inputs wanted ≡ apply name operand_values
  number_is =
      number_here program inputs graph wanted (ops.Apply name operands ty) at
      ∙ ap (apply name) (operands_same program inputs graph wanted (ops.Apply name operands ty) at)

  -- it keeps its row
  pub row : KeepsRow nodes (ops.Apply name operands ty)
  row = entry_has (λ (entry : ℕ × FheOp). KeepsRow nodes entry.1) nodes spot (wanted, ops.Apply name operands ty) clear.fhe.rows at

  pub fits_here : (pos 0 ≤ℤ apply name operand_values) × (apply name operand_values <ℤ pos (2 ^ 16))
  fits_here =
      let wide : HasWidth ty =
      entry_has (λ (entry : ℕ × FheOp). HasWidth (type_of entry.1)) nodes spot (wanted, ops.Apply name operands ty) clear.fhe.widths at in
      let is : IsNumberOf ty (number_of program inputs wanted) =
      entry_has (λ (entry : ℕ × FheOp). IsNumberOf (type_of entry.1) (number_of program inputs entry.0)) nodes spot (wanted, ops.Apply name operands ty) clear.numbers at in
      subst (λ z. (pos 0 ≤ℤ z) × (z <ℤ pos (2 ^ 16))) number_is (bounded name (map (type_with nodes) operands) ty (number_of program inputs wanted) row.1 wide is)

-- the index of a look-up has an entry in its table
pub index_found : (program : Program) (inputs : List ℤ) → IsGraph operands_of program.graph → IsClear program inputs
    → (wanted : ℕ) (operands : List ℕ) (ty : WrittenType)
    → slice_get program.graph.list (place_of program.graph.list wanted) ≡ Some (wanted, ops.Apply ApplyLookupTable operands ty)
    → IsIndexIn
    (operand_at (map (value_at (operation_values program.graph.list inputs)) operands) 1)
    (number_in (operand_at (map (value_at (operation_values program.graph.list inputs)) operands) 0))
index_found program inputs graph clear wanted [] ty at =
    absurd (omega (arith, (row program inputs graph clear wanted ApplyLookupTable [] ty at).0))
index_found program inputs graph clear wanted (index ∷ []) ty at =
    absurd (omega (arith, (row program inputs graph clear wanted ApplyLookupTable (index ∷ []) ty at).0))
index_found program inputs graph clear wanted (index ∷ of ∷ x ∷ more) ty at =
    absurd (omega (arith, (row program inputs graph clear wanted ApplyLookupTable (index ∷ of ∷ x ∷ more) ty at).0))
index_found program inputs graph clear wanted (index ∷ of ∷ []) ty at =
    let list = program.graph.list in
    let op : FheOp = ops.Apply ApplyLookupTable (index ∷ of ∷ []) ty in
    let keeps = row program inputs graph clear wanted ApplyLookupTable (index ∷ of ∷ []) ty at in
    let place_in : place_of list wanted < length list = slice_get_within list (place_of list wanted) (wanted, op) at in
    let earlier = before program inputs graph wanted op at in
    let index_before : place_of list index < place_of list wanted = earlier 0 0 (omega arith) in
    let of_before : place_of list of < place_of list wanted = earlier 1 0 (omega arith) in
    let index_op = op_there list index (omega arith) in
    let of_op = op_there list of (omega arith) in
    let index_typed : type_with list index ≡ type_of index_op.0 =
    ap (λ o. option_map_or type_of o (types.Int 0)) (op_with-place list index index_op.0 index_op.1) in
    let of_typed : type_with list of ≡ type_of of_op.0 =
    ap (λ o. option_map_or type_of o (types.Int 0)) (op_with-place list of of_op.0 of_op.1) in
    let eint : is_eint (type_of index_op.0) ≡ true =
    sym (ap is_eint index_typed) ∙ index_type (type_with list index) (type_with list of) ty keeps.1 in
    let same : (tensor_length (type_of of_op.0) == 2 ^ width_of (type_of index_op.0)) ≡ true =
    ap (λ t. tensor_length t == 2 ^ width_of (type_of index_op.0)) (sym of_typed)
    ∙ ap (λ t. tensor_length (type_with list of) == 2 ^ width_of t) (sym index_typed) ∙ keeps.2 in
    let has : HasEntries of_op.0 =
    entry_has (λ (entry : ℕ × FheOp). HasEntries entry.1) list (place_of list of) (of, of_op.0) clear.fhe.tables of_op.1 in
    let is : IsNumberOf (type_of index_op.0) (number_of program inputs index) =
    entry_has (λ (entry : ℕ × FheOp). IsNumberOf (type_of entry.1) (number_of program inputs entry.0)) list (place_of list index) (index, index_op.0) clear.numbers index_op.1 in
    subst (λ value. IsIndexIn value (number_of program inputs index)) (sym (value_is inputs list of of_op.0 of_op.1)) (finds (type_of index_op.0) of_op.0 inputs (operation_values (take (place_of list of) list) inputs) (number_of program inputs index) eint same has is)

-- an operation can be applied to its operands
pub can_here : (program : Program) (inputs : List ℤ) → IsGraph operands_of program.graph → IsClear program inputs
    → (wanted : ℕ) (name : OpName) (operands : List ℕ) (ty : WrittenType)
    → slice_get program.graph.list (place_of program.graph.list wanted) ≡ Some (wanted, ops.Apply name operands ty)
    → CanApply name (map (value_at (operation_values program.graph.list inputs)) operands)
can_here program inputs graph clear wanted name operands ty at =
    can_apply name (map (value_at (operation_values program.graph.list inputs)) operands)
    (fits_here program inputs graph clear wanted name operands ty at)
    (λ is. index_found program inputs graph clear wanted operands ty (at ∙ ap (λ n. Some (wanted, ops.Apply n operands ty)) is))

-- ---- the room

-- one number more
pub holds_more : (program : Program) (inputs room : List ℤ) (place wanted : ℕ) (z : ℤ)
    → place_of program.graph.list wanted ≡ place → place < length program.graph.list → wanted < length room
    → HoldsBefore program inputs room place → z ≡ number_of program inputs wanted
    → HoldsBefore program inputs (set room wanted z) (place + 1)
holds_more program inputs room place wanted z at within inside holds is other below =
    elim (cases_lt (place_of program.graph.list other) place) [
      | inl before_it ↦
          let differs : other ≢ wanted = λ (same : other ≡ wanted). absurd (omega (arith, ap (place_of program.graph.list) same)) in
          get_or-set_other room wanted other z (pos 0) differs ∙ holds other before_it
      | inr not_before ↦
          let same : other ≡ wanted = same_place program.graph.list other wanted (omega arith) (omega arith) in
          let P : ℕ → Type 0 = λ (n : ℕ). get_or (set room wanted z) n (pos 0) ≡ number_of program inputs n in
          subst P (sym same) (get_or-set_same room wanted z (pos 0) inside ∙ is)
    ]

-- one result more
pub results_more : (f : ℕ → ℤ) (results : List ℕ) (index : ℕ) (found : List ℤ) (z : ℤ) → index < length results
    → found ≡ map f (take index results) → z ≡ f (get_or results index 0) → found ++ z ∷ [] ≡ map f (take (index + 1) results)
results_more f results index found z within so_far is =
    ap (λ (l : List ℤ). l ++ z ∷ []) so_far
    ∙ ap (λ (y : ℤ). map f (take index results) ++ y ∷ []) is
    ∙ sym (ap (map f) (take_more results index 0 within) ∙ map_push f (take index results) (get_or results index 0))
