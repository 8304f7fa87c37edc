-- The program of a source that keeps the checks is as its types ask.
use Rattle.std.proofs.Common.{◌≡◌, ℕ, zero, suc, ◌+◌, ◌-◌, ◌≤◌, ◌==◌, ◌^◌, T, Bool, true, false, cond, List, [], ◌∷◌, ◌++◌, length, map, All, refl, sym, ap, ◌∙◌, subst, arith, Option, Some, None, Result, Ok}
use Rattle.std.specs.Prelude.{ℤ, pos, ◌≤ℤ◌, not, count_by, int_le, IsTrue, IsSomeAnd}
use Rattle.std.specs.List.{AllByRecursion, list_all, zip, slice_get, enumerate_from}
use Rattle.std.specs.Option.{option_or, option_map, option_map_or}
use Rattle.std.proofs.lemmas.Int.{ints}
use Rattle.std.proofs.lemmas.Bool.{false≢true, eqb-true, eq-eqb, ne_eqb}
use Rattle.std.proofs.lemmas.Option.{none-some, slice_get-map}
use Rattle.std.proofs.lemmas.List.{append_assoc, length-map, map-append, map_push}
use Rattle.std.proofs.lemmas.List.Elements.{All-from_recursion}
use Rattle.std.proofs.lemmas.List.FromFn.{length-enumerate_from}
use Rattle.std.proofs.lemmas.List.Sums.{sum_by-cons}
use Rattle.ir_core.specs.Placed.{IsPlaced}
use Rattle.ir_core.specs.Laws.{PlacedLaws}
use Rattle.fhe_text.specs.declared.source.WrittenType.{WrittenType}
use Rattle.fhe_text.specs.declared.source.WrittenType.TheVariants as types
use Rattle.fhe_text.specs.declared.source.Arg.{Arg}
use Rattle.fhe_text.specs.declared.source.Entries.{Entries}
use Rattle.fhe_text.specs.declared.source.Entries.TheVariants as entries
use Rattle.fhe_text.specs.declared.source.Statement.{Statement}
use Rattle.fhe_text.specs.declared.source.Statement.TheVariants as statements
use Rattle.fhe_text.specs.declared.source.Source.{Source}
use Rattle.fhe_text.specs.Spellable.{IsEncrypted, IsWritable, IsArgument, AreEntries, IsStatement, AreStatements, IsSpellable}
use Rattle.fhe_level.specs.declared.fault.TypeFault.{TypeFault}
use Rattle.fhe_level.specs.declared.level.FheOp.{FheOp}
use Rattle.fhe_level.specs.declared.level.FheOp.TheVariants as ops
use Rattle.fhe_level.specs.declared.program.Program.{Program}
use Rattle.fhe_level.specs.Limits.{width_of, statement_width, is_look_up, limit_fault}
use Rattle.fhe_level.specs.Rows.{row_of, keeps_row, fits_table}
use Rattle.fhe_level.specs.Operations.{operands_of, type_of}
use Rattle.fhe_level.specs.Types.{type_range, is_range_in, keeps_declared, argument_range, argument_fault, value_type, same_type, is_type_of, are_types_of, statement_fault, body_fault, same_types, return_fault, argument_types, value_types, type_fault}
use Rattle.fhe_level.specs.Programs.{argument_op, statement_op, operations_in, numbered, program_of, typed, IsTyped}
use Rattle.fhe_level.specs.Clearing.{op_with, type_with, KeepsRow, HasEntries, HasWidth, is_argument, is_constant, AreArguments, IsResult, IsFhe}
use Rattle.fhe_level.specs.Checked.{looks_up, IsChecked}
use Rattle.fhe_level.proofs.Widths.{fold_max_all, first_none, IsWithin, within_limits}
use Rattle.fhe_level.specs.Standing.{both}
use Rattle.fhe_level.proofs.Steps.{each_declared, when_none, type_of_statement}
use Rattle.fhe_level.proofs.Whole.{types_of_arguments, types_of_body}
use Rattle.fhe_level.proofs.Graphs.{program_graph}

-- ---- no check fails

same_ok : {A B : Type 0} (a b : A) → ◌≡◌ {A = Result A B} (Ok a) (Ok b) → a ≡ b
same_ok a b same = cc

typed_ok : (source : Source) (found : Option TypeFault) (program : Program) → typed source found ≡ Ok program → (found ≡ None) × (program_of source ≡ program)
typed_ok source None program same = (refl, same_ok (program_of source) program same)
typed_ok source (Some fault) program same = absurd cc

-- ---- all of a list

all_join : {A : Type 0} (P : A → Type 0) (xs ys : List A) → AllByRecursion P xs → AllByRecursion P ys → AllByRecursion P (xs ++ ys)
all_join P [] ys first second = second
all_join P (x ∷ xs) ys first second = (first.0, all_join P xs ys first.1 second)

all_numbered : (P : FheOp → Type 0) (number : ℕ) (operations : List FheOp) → AllByRecursion P operations → AllByRecursion (λ (entry : ℕ × FheOp). P entry.1) (enumerate_from number operations)
all_numbered P number [] all = tt
all_numbered P number (op ∷ operations) all = (all.0, all_numbered P (number + 1) operations all.1)

-- what holds of the operations of arguments and of statements holds of all entries
each_entry : (P : FheOp → Type 0) (source : Source) → AllByRecursion P (map argument_op source.args) → AllByRecursion P (map statement_op source.body) → All (λ (entry : ℕ × FheOp). P entry.1) (enumerate_from 0 (operations_in source))
each_entry P source first second =
    All-from_recursion (λ (entry : ℕ × FheOp). P entry.1) (enumerate_from 0 (operations_in source)) (all_numbered P 0 (operations_in source) (all_join P (map argument_op source.args) (map statement_op source.body) first second))

-- ---- widths

argument_width : (ty : WrittenType) → IsEncrypted ty → width_of ty ≤ 16 → HasWidth ty
argument_width (types.Eint width) is le = (is.0, le)
argument_width (types.Int bits) is le = tt
argument_width (types.Tensor count bits) is le = tt

written_width : (ty : WrittenType) → IsWritable ty → width_of ty ≤ 16 → HasWidth ty
written_width (types.Eint width) is le = (is.0, le)
written_width (types.Int bits) is le = tt
written_width (types.Tensor count bits) is le = tt

argument_widths : (args : List Arg) → AllByRecursion IsArgument args → AllByRecursion (λ (arg : Arg). width_of arg.ty ≤ 16) args → AllByRecursion (λ (op : FheOp). HasWidth (type_of op)) (map argument_op args)
argument_widths [] are widths = tt
argument_widths (arg ∷ args) are widths = (argument_width arg.ty are.0.0 widths.0, argument_widths args are.1 widths.1)

has_width : (before : ℕ) (statement : Statement) → IsStatement before statement → statement_width statement ≤ 16 → HasWidth (type_of (statement_op statement))
has_width before (statements.Int value bits) is le = tt
has_width before (statements.Dense found count bits) is le = tt
has_width before (statements.Op name operands written result) is le = written_width result is.2 (omega (arith, le))

statement_widths : (before : ℕ) (body : List Statement) → AreStatements before body → AllByRecursion (λ (statement : Statement). statement_width statement ≤ 16) body → AllByRecursion (λ (op : FheOp). HasWidth (type_of op)) (map statement_op body)
statement_widths before [] are widths = tt
statement_widths before (statement ∷ body) are widths = (has_width before statement are.0 widths.0, statement_widths (before + 1) body are.1 widths.1)

-- ---- tables

no_tables : (args : List Arg) → AllByRecursion HasEntries (map argument_op args)
no_tables [] = tt
no_tables (arg ∷ args) = (tt, no_tables args)

table_entries : (found : Entries) (count bits : ℕ) → AreEntries count bits found → HasEntries (ops.Dense found count bits)
table_entries (entries.List numbers) count bits are = are.0
table_entries (entries.Splat value) count bits are = tt

has_entries : (before : ℕ) (statement : Statement) → IsStatement before statement → HasEntries (statement_op statement)
has_entries before (statements.Int value bits) is = tt
has_entries before (statements.Dense found count bits) is = table_entries found count bits is.2
has_entries before (statements.Op name operands written result) is = tt

statement_tables : (before : ℕ) (body : List Statement) → AreStatements before body → AllByRecursion HasEntries (map statement_op body)
statement_tables before [] are = tt
statement_tables before (statement ∷ body) are = (has_entries before statement are.0, statement_tables (before + 1) body are.1)

-- ---- the operation with a number

op_found : (first : ℕ) (operations : List FheOp) (place number : ℕ) (op : FheOp) → first + place ≡ number → slice_get operations place ≡ Some op → op_with (enumerate_from first operations) number ≡ Some op
op_found first [] place number op same at = absurd (none-some op at)
op_found first (own ∷ operations) zero number op same at =
    let is : (first == number) ≡ true = eq-eqb first number (omega (arith, same)) in
    rw is at
op_found first (own ∷ operations) (suc place) number op same at =
    let is_not : (first == number) ≡ false = ne_eqb first number (λ e. omega (arith, e, same)) in
    rw is_not (op_found (first + 1) operations place number op (omega (arith, same)) at)

get_front : (before more : List FheOp) (place : ℕ) (op : FheOp) → slice_get before place ≡ Some op → slice_get (before ++ more) place ≡ Some op
get_front [] more place op at = absurd (none-some op at)
get_front (own ∷ before) more zero op at = at
get_front (own ∷ before) more (suc place) op at = get_front before more place op at

same_written : (own ty : WrittenType) → same_type own ty ≡ true → own ≡ ty
same_written (types.Eint width) (types.Eint other) same = ap (λ n. types.Eint n) (eqb-true width other same)
same_written (types.Eint width) (types.Int bits) same = absurd (false≢true same)
same_written (types.Eint width) (types.Tensor count bits) same = absurd (false≢true same)
same_written (types.Int bits) (types.Eint width) same = absurd (false≢true same)
same_written (types.Int bits) (types.Int other) same = ap (λ n. types.Int n) (eqb-true bits other same)
same_written (types.Int bits) (types.Tensor count other) same = absurd (false≢true same)
same_written (types.Tensor count bits) (types.Eint width) same = absurd (false≢true same)
same_written (types.Tensor count bits) (types.Int other) same = absurd (false≢true same)
same_written (types.Tensor count bits) (types.Tensor other others) same =
    let parts = both (count == other) (bits == others) same in
    ap (λ n. types.Tensor n bits) (eqb-true count other parts.0) ∙ ap (λ n. types.Tensor other n) (eqb-true bits others parts.1)

-- a value of a type is an operation that gives it
pub record Gives (operations : List FheOp) (value : ℕ) (ty : WrittenType) : Type 0 where
  pub op : FheOp
  pub at : slice_get operations value ≡ Some op
  pub type : type_of op ≡ ty

gives_from : (operations : List FheOp) (value : ℕ) (ty : WrittenType) (found : Option FheOp) → slice_get operations value ≡ found → option_map_or (λ own. same_type own ty) (option_map type_of found) false ≡ true → Gives operations value ty
gives_from operations value ty None at is = absurd (false≢true is)
gives_from operations value ty (Some op) at is = record { op = op; at = at; type = same_written (type_of op) ty is }

gives : (operations : List FheOp) (value : ℕ) (ty : WrittenType) → is_type_of (map type_of operations) value ty ≡ true → Gives operations value ty
gives operations value ty is =
    gives_from operations value ty (slice_get operations value) refl (sym (ap (λ o. option_map_or (λ own. same_type own ty) o false) (slice_get-map type_of operations value)) ∙ is)

-- ---- rows

own_type : (before whole more : List FheOp) (value : ℕ) (ty : WrittenType) → whole ≡ before ++ more → is_type_of (map type_of before) value ty ≡ true → type_with (enumerate_from 0 whole) value ≡ ty
own_type before whole more value ty split is =
    let found = gives before value ty is in
    let at : slice_get whole value ≡ Some found.op = ap (λ l. slice_get l value) split ∙ get_front before more value found.op found.at in
    ap (λ o. option_map_or type_of o (types.Int 0)) (op_found 0 whole value value found.op (omega arith) at) ∙ found.type

own_types : (before whole more : List FheOp) (values : List ℕ) (written : List WrittenType) → whole ≡ before ++ more → length values ≡ length written
    → list_all (λ (p : ℕ × WrittenType). is_type_of (map type_of before) p.0 p.1) (zip values written) ≡ true → map (type_with (enumerate_from 0 whole)) values ≡ written
own_types before whole more [] [] split same are = refl
own_types before whole more [] (ty ∷ written) split same are = absurd (omega (arith, same))
own_types before whole more (value ∷ values) [] split same are = absurd (omega (arith, same))
own_types before whole more (value ∷ values) (ty ∷ written) split same are =
    let parts = both (is_type_of (map type_of before) value ty) _ are in
    ap (λ x. x ∷ map (type_with (enumerate_from 0 whole)) values) (own_type before whole more value ty split parts.0)
    ∙ ap (λ l. ty ∷ l) (own_types before whole more values written split (omega (arith, same)) parts.1)

keeps : (before whole more : List FheOp) (statement : Statement) → whole ≡ before ++ more → statement_fault (map type_of before) statement ≡ None → KeepsRow (enumerate_from 0 whole) (statement_op statement)
keeps before whole more (statements.Int value bits) split none = tt
keeps before whole more (statements.Dense found count bits) split none = tt
keeps before whole more (statements.Op name operands written result) split none =
    let arity = when_none (length operands == length (row_of name)) _ _ none in
    let own = when_none (are_types_of (map type_of before) operands written) _ _ arity.1 in
    let row = when_none (keeps_row name written result) _ _ own.1 in
    let table = when_none (fits_table name written) _ _ row.1 in
    let parts = both (length operands == length written) _ own.0 in
    let same : map (type_with (enumerate_from 0 whole)) operands ≡ written = own_types before whole more operands written split (eqb-true (length operands) (length written) parts.0) parts.1 in (
      eqb-true (length operands) (length (row_of name)) arity.0,
      subst (λ ts. IsTrue (keeps_row name ts result)) (sym same) row.0,
      subst (λ ts. IsTrue (fits_table name ts)) (sym same) table.0,
    )

no_fault : {A B : Type 0} (make : A → B) (first : Option A) (rest : Option B) → option_or (option_map make first) rest ≡ None → (first ≡ None) × (rest ≡ None)
no_fault make None rest none = (refl, none)
no_fault make (Some x) rest none = absurd cc

rows_from : (before whole : List FheOp) (body : List Statement) (place : ℕ) → whole ≡ before ++ map statement_op body → body_fault (map type_of before) place body ≡ None → AllByRecursion (KeepsRow (enumerate_from 0 whole)) (map statement_op body)
rows_from before whole [] place split none = tt
rows_from before whole (statement ∷ body) place split none =
    let op = statement_op statement in
    let parts = no_fault (λ kind. record { place = place; kind = kind }) (statement_fault (map type_of before) statement) (body_fault (map type_of before ++ value_type statement ∷ []) (place + 1) body) none in
    let earlier : map type_of before ++ value_type statement ∷ [] ≡ map type_of (before ++ op ∷ []) = ap (λ ty. map type_of before ++ ty ∷ []) (sym (type_of_statement statement)) ∙ sym (map_push type_of before op) in
    let rest : body_fault (map type_of (before ++ op ∷ [])) (place + 1) body ≡ None = ap (λ l. body_fault l (place + 1) body) (sym earlier) ∙ parts.1 in (
      keeps before whole (op ∷ map statement_op body) statement split parts.0,
      rows_from (before ++ op ∷ []) whole body (place + 1) (split ∙ sym (append_assoc before (op ∷ []) (map statement_op body))) rest,
    )

no_rows : (list : List (ℕ × FheOp)) (args : List Arg) → AllByRecursion (KeepsRow list) (map argument_op args)
no_rows list [] = tt
no_rows list (arg ∷ args) = (tt, no_rows list args)

-- ---- arguments

from_holds : (test : Bool) → T test → test ≡ true
from_holds true t = refl
from_holds false t = absurd t

at_most : (a b : ℕ) → a ≤ b → int_le (pos a) (pos b) ≡ true
at_most a b le = let is : pos a ≤ℤ pos b = omega (arith, ints, le) in from_holds (int_le (pos a) (pos b)) is.le

own_range : (ty : WrittenType) → is_range_in (type_range ty) (type_range ty) ≡ true
own_range ty =
    let most = 2 ^ width_of ty - 1 in
    let first = at_most 0 most (omega arith) in
    let second = at_most 0 0 (omega arith) in
    let third = at_most most most (omega arith) in
    rw first (rw second (rw third refl))

range_within : (ty : WrittenType) (declared : Option (ℤ × ℤ)) → option_map_or (is_range_in (type_range ty)) declared true ≡ true → is_range_in (type_range ty) (option_map_or (λ range. range) declared (type_range ty)) ≡ true
range_within ty None is = own_range ty
range_within ty (Some range) is = is

no_argument : (number : ℕ) (body : List Statement) → list_all (λ (entry : ℕ × FheOp). not (is_argument entry.1)) (enumerate_from number (map statement_op body)) ≡ true
no_argument number [] = refl
no_argument number (statements.Int value bits ∷ body) = no_argument (number + 1) body
no_argument number (statements.Dense found count bits ∷ body) = no_argument (number + 1) body
no_argument number (statements.Op name operands written result ∷ body) = no_argument (number + 1) body

arguments_first : (number : ℕ) (args : List Arg) (body : List Statement) → AllByRecursion (λ arg. keeps_declared arg ≡ true) args → AreArguments (enumerate_from number (map argument_op args ++ map statement_op body)) (map argument_range args)
arguments_first number [] body are = no_argument number body
arguments_first number (arg ∷ args) body are = (refl, range_within arg.ty arg.declared are.0, arguments_first (number + 1) args body are.1)

-- ---- results

no_constant : (op : FheOp) (ty : WrittenType) → type_of op ≡ ty → IsEncrypted ty → not (is_constant op) ≡ true
no_constant (ops.Arg own) ty same is = refl
no_constant (ops.Int value bits) ty same is = absurd (subst IsEncrypted (sym same) is)
no_constant (ops.Dense found count bits) ty same is = absurd (subst IsEncrypted (sym same) is)
no_constant (ops.Apply name operands own) ty same is = refl

one_result : (operations : List FheOp) (value : ℕ) (ty result : WrittenType) → is_type_of (map type_of operations) value ty ≡ true → same_type ty result ≡ true → IsEncrypted result → IsResult (enumerate_from 0 operations) value
one_result operations value ty result is same encrypted =
    let found = gives operations value ty is in
    let own : IsEncrypted ty = subst IsEncrypted (sym (same_written ty result same)) encrypted in
    subst (λ o. IsSomeAnd o (λ op. IsTrue (not (is_constant op)))) (sym (op_found 0 operations value value found.op (omega arith) found.at)) (no_constant found.op ty found.type own)

all_results : (operations : List FheOp) (values : List ℕ) (written results : List WrittenType) → length values ≡ length written → length written ≡ length results
    → list_all (λ (p : ℕ × WrittenType). is_type_of (map type_of operations) p.0 p.1) (zip values written) ≡ true → list_all (λ (p : WrittenType × WrittenType). same_type p.0 p.1) (zip written results) ≡ true → AllByRecursion IsEncrypted results
    → AllByRecursion (IsResult (enumerate_from 0 operations)) values
all_results operations [] written results same others are sames encrypted = tt
all_results operations (value ∷ values) [] results same others are sames encrypted = absurd (omega (arith, same))
all_results operations (value ∷ values) (ty ∷ written) [] same others are sames encrypted = absurd (omega (arith, others))
all_results operations (value ∷ values) (ty ∷ written) (result ∷ results) same others are sames encrypted =
    let one = both (is_type_of (map type_of operations) value ty) _ are in
    let two = both (same_type ty result) _ sames in
    (one_result operations value ty result one.0 two.0 encrypted.0, all_results operations values written results (omega (arith, same)) (omega (arith, others)) one.1 two.1 encrypted.1)

-- ---- look-ups

first_count : (entry : ℕ × FheOp) (list : List (ℕ × FheOp)) → count_by looks_up (entry ∷ list) ≡ cond (looks_up entry) 1 0 + count_by looks_up list
first_count entry list = sum_by-cons (λ x. cond (looks_up x) 1 0) entry list

first_look : (statement : Statement) (body : List Statement) → count_by is_look_up (statement ∷ body) ≡ cond (is_look_up statement) 1 0 + count_by is_look_up body
first_look statement body = sum_by-cons (λ x. cond (is_look_up x) 1 0) statement body

same_look : (number : ℕ) (statement : Statement) → looks_up (number, statement_op statement) ≡ is_look_up statement
same_look number (statements.Int value bits) = refl
same_look number (statements.Dense found count bits) = refl
same_look number (statements.Op name operands written result) = refl

body_looks : (number : ℕ) (body : List Statement) → count_by looks_up (enumerate_from number (map statement_op body)) ≡ count_by is_look_up body
body_looks number [] = refl
body_looks number (statement ∷ body) =
    first_count (number, statement_op statement) (enumerate_from (number + 1) (map statement_op body))
    ∙ ap (λ b. cond b 1 0 + count_by looks_up (enumerate_from (number + 1) (map statement_op body))) (same_look number statement)
    ∙ ap (λ n. cond (is_look_up statement) 1 0 + n) (body_looks (number + 1) body)
    ∙ sym (first_look statement body)

all_looks : (number : ℕ) (args : List Arg) (body : List Statement) → count_by looks_up (enumerate_from number (map argument_op args ++ map statement_op body)) ≡ count_by is_look_up body
all_looks number [] body = body_looks number body
all_looks number (arg ∷ args) body =
    omega (arith, first_count (number, argument_op arg) (enumerate_from (number + 1) (map argument_op args ++ map statement_op body)), all_looks (number + 1) args body)

-- ---- the whole

seconds : (number : ℕ) (operations : List FheOp) → map (λ (entry : ℕ × FheOp). entry.1) (enumerate_from number operations) ≡ operations
seconds number [] = refl
seconds number (op ∷ operations) = ap (λ l. op ∷ l) (seconds (number + 1) operations)

all_placed : (operations : List FheOp) → IsPlaced (numbered operations)
all_placed operations = record {
  numbers = ap (enumerate_from 0) (sym (seconds 0 operations));
  next = sym (length-enumerate_from 0 operations);
}

types_whole : (source : Source) → value_types source ≡ map type_of (operations_in source)
types_whole source =
    ap (λ l. l ++ map value_type source.body) (sym (types_of_arguments source.args))
    ∙ ap (λ l. map type_of (map argument_op source.args) ++ l) (sym (types_of_body source.body))
    ∙ sym (map-append type_of (map argument_op source.args) (map statement_op source.body))

unless_test : {A : Type 0} (test : Bool) (fault : A) → cond test None (Some fault) ≡ None → test ≡ true
unless_test true fault none = refl
unless_test false fault none = absurd cc

program_checked : PlacedLaws operands_of → (source : Source) → IsSpellable source → IsWithin source → argument_fault 0 source.args ≡ None → body_fault (argument_types source.args) 0 source.body ≡ None → return_fault (value_types source) source ≡ None → IsChecked (program_of source)
program_checked laws source spell within args body return =
    let operations = operations_in source in
    let list = enumerate_from 0 operations in
    let declared = each_declared 0 source.args args in
    let rows = rows_from (map argument_op source.args) operations source.body 0 refl (ap (λ l. body_fault l 0 source.body) (types_of_arguments source.args) ∙ body) in
    let ends = both (are_types_of (value_types source) source.returned source.returned_types) (same_types source.returned_types source.results) (unless_test _ _ return) in
    let own = both (length source.returned == length source.returned_types) _ ends.0 in
    let same = both (length source.returned_types == length source.results) _ ends.1 in
    let count = eqb-true (length source.returned) (length source.returned_types) own.0 in
    let others = eqb-true (length source.returned_types) (length source.results) same.0 in
    let are = sym (ap (λ ts. list_all (λ (p : ℕ × WrittenType). is_type_of ts p.0 p.1) (zip source.returned source.returned_types)) (types_whole source)) ∙ own.1 in
    let fhe : IsFhe (program_of source) = record {
      widths = each_entry (λ (op : FheOp). HasWidth (type_of op)) source
          (argument_widths source.args spell.args (fold_max_all (λ (arg : Arg). width_of arg.ty) 0 16 source.args within.widths).1)
          (statement_widths (length source.args) source.body spell.body (fold_max_all statement_width 0 16 source.body within.statement_widths).1);
      rows = each_entry (KeepsRow list) source (no_rows list source.args) rows;
      tables = each_entry HasEntries source (no_tables source.args) (statement_tables (length source.args) source.body spell.body);
      arguments = arguments_first 0 source.args source.body declared;
      results = All-from_recursion (IsResult list) source.returned (all_results operations source.returned source.returned_types source.results count others are same.1 spell.results.1);
    } in
    record {
      fhe = fhe;
      placed = all_placed operations;
      graph = program_graph laws source spell within (all_placed operations) fhe.rows;
      inputs = omega (arith, within.arguments, length-map source.args argument_range);
      some_result = omega (arith, spell.returned.0);
      results = omega (arith, within.results, count, others);
      look_ups = omega (arith, within.look_ups, all_looks 0 source.args source.body);
    }

pub checked : PlacedLaws operands_of → (source : Source) (program : Program) → IsSpellable source → limit_fault source ≡ None → IsTyped source program → IsChecked program
checked laws source program spell limits typed_so =
    let ok = typed_ok source (type_fault source) program typed_so in
    let outer = first_none _ _ ok.0 in
    let inner = first_none _ _ outer.0 in
    subst IsChecked ok.1 (program_checked laws source spell (within_limits source limits) inner.0 inner.1 outer.1)
