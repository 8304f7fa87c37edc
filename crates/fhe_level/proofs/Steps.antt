-- A program that is built statement by statement.
use Rattle.std.proofs.Common.{◌≡◌, ℕ, ◌+◌, ◌<◌, ◌≤◌, ◌==◌, Bool, true, false, cond, List, [], ◌∷◌, ◌++◌, length, map, get_or, take, drop, All, refl, sym, ap, ◌∙◌, subst, inl, inr, arith, Option, Some, None, add-one}
use Rattle.std.specs.Prelude.{◌&&◌, not}
use Rattle.std.specs.Option.{option_or, option_map, option_map_or}
use Rattle.std.specs.List.{list_all, zip, slice_get, AllByRecursion}
use Rattle.std.proofs.Math.Seq.{drop-cons}
use Rattle.std.proofs.lemmas.Bool.{cases_lt, false≢true, eqb-true}
use Rattle.std.proofs.lemmas.Option.{slice_get_past, slice_get-map}
use Rattle.std.proofs.lemmas.List.{map_push}
use Rattle.std.proofs.lemmas.List.Elements.{All-from_recursion}
use Rattle.ir_core.specs.Graph.{Operations}
use Rattle.ir_core.specs.Placed.{operations_of}
use Rattle.fhe_text.specs.declared.source.WrittenType.{WrittenType}
use Rattle.fhe_text.specs.declared.source.Arg.{Arg}
use Rattle.fhe_text.specs.declared.source.Statement.{Statement}
use Rattle.fhe_text.specs.declared.source.Statement.TheVariants as statements
use Rattle.fhe_level.specs.declared.fault.TypeFault.{TypeFault}
use Rattle.fhe_level.specs.declared.fault.TypeKind.TheVariants.{Declared}
use Rattle.fhe_level.specs.declared.level.FheOp.{FheOp}
use Rattle.fhe_level.specs.Rows.{row_of}
use Rattle.fhe_level.specs.Operations.{operands_of, type_of}
use Rattle.fhe_level.specs.Types.{keeps_declared, argument_fault, same_type, is_type_of, are_types_of, value_type, statement_fault, body_fault}
use Rattle.fhe_level.specs.Programs.{statement_op}
use Rattle.fhe_level.specs.Building.{types_in}
use Rattle.fhe_level.specs.Standing.{both}

-- ---- arguments

pub argument_fault_from : (args : List Arg) (place i : ℕ) (arg : Arg) → i < length args
    → argument_fault place (drop i args) ≡ cond (keeps_declared (get_or args i arg)) (argument_fault (place + 1) (drop (i + 1) args)) (Some (record { place = place; kind = Declared }))
argument_fault_from args place i arg within = rw (drop-cons args i arg within, add-one i) refl

-- where a test holds or a fault is there, and no fault is there, the test holds
pub unless_none : {A : Type 0} (test : Bool) (fault : A) (rest : Option A) → cond test rest (Some fault) ≡ None
    → (test ≡ true) × (rest ≡ None)
unless_none true fault rest none = (refl, none)
unless_none false fault rest none = absurd cc

-- where no argument breaks its type, each keeps it
pub each_declared : (place : ℕ) (args : List Arg) → argument_fault place args ≡ None → AllByRecursion (λ arg. keeps_declared arg ≡ true) args
each_declared place [] none = tt
each_declared place (arg ∷ args) none =
    let parts = unless_none (keeps_declared arg) _ _ none in
    (parts.0, each_declared (place + 1) args parts.1)

pub all_declared : (place : ℕ) (args : List Arg) → argument_fault place args ≡ None → All (λ arg. keeps_declared arg ≡ true) args
all_declared place args none =
    All-from_recursion (λ arg. keeps_declared arg ≡ true) args (each_declared place args none)

-- ---- types of values

-- the operation of a statement gives a value of the statement's type
pub type_of_statement : (statement : Statement) → type_of (statement_op statement) ≡ value_type statement
type_of_statement (statements.Int value bits) = refl
type_of_statement (statements.Dense found count bits) = refl
type_of_statement (statements.Op name operands written result) = refl

-- one operation more
pub types_more : (before after : Operations FheOp) (op : FheOp) → operations_of after ≡ operations_of before ++ op ∷ []
    → types_in after ≡ types_in before ++ type_of op ∷ []
types_more before after op more = ap (map type_of) more ∙ map_push type_of (operations_of before) op

-- a value that has a type is there
is_there : (earlier : List WrittenType) (value : ℕ) (ty : WrittenType) → is_type_of earlier value ty ≡ true → value < length earlier
is_there earlier value ty is =
    elim (cases_lt value (length earlier)) [
      | inl within ↦ within
      | inr past ↦ absurd (false≢true (sym (ap (λ found. option_map_or (λ own. same_type own ty) found false) (slice_get_past earlier value past)) ∙ is))
    ]

all_there : (earlier : List WrittenType) (values : List ℕ) (written : List WrittenType) → length values ≡ length written
    → list_all (λ (p : ℕ × WrittenType). is_type_of earlier p.0 p.1) (zip values written) ≡ true → AllByRecursion (λ value. value < length earlier) values
all_there earlier [] written same is = tt
all_there earlier (value ∷ values) [] same is = absurd (omega (arith, same))
all_there earlier (value ∷ values) (ty ∷ written) same is =
    let parts = both (is_type_of earlier value ty) _ is in
    (is_there earlier value ty parts.0, all_there earlier values written (omega (arith, same)) parts.1)

-- values that have types are there
pub are_there : (earlier : List WrittenType) (values : List ℕ) (written : List WrittenType) → are_types_of earlier values written ≡ true
    → All (λ value. value < length earlier) values
are_there earlier values written is =
    let parts = both (length values == length written) _ is in
    All-from_recursion (λ value. value < length earlier) values (all_there earlier values written (eqb-true (length values) (length written) parts.0) parts.1)

-- where a test fails or a fault is there, and no fault is there, the test fails
pub when_none : {A : Type 0} (test : Bool) (fault : A) (rest : Option A) → cond (not test) (Some fault) rest ≡ None
    → (test ≡ true) × (rest ≡ None)
when_none true fault rest none = (refl, none)
when_none false fault rest none = absurd cc

-- the operands of a statement that breaks no check are there
pub operands_there : (earlier : List WrittenType) (statement : Statement) → statement_fault earlier statement ≡ None
    → All (λ value. value < length earlier) (operands_of (statement_op statement))
operands_there earlier (statements.Int value bits) none = λ k d within. absurd (omega arith)
operands_there earlier (statements.Dense found count bits) none = λ k d within. absurd (omega arith)
operands_there earlier (statements.Op name operands written result) none =
    let arity = when_none (length operands == length (row_of name)) _ _ none in
    let own = when_none (are_types_of earlier operands written) _ _ arity.1 in
    are_there earlier operands written own.0

-- ---- statements

-- the statements from one on
pub body_fault_from : (earlier : List WrittenType) (body : List Statement) (place i : ℕ) (statement : Statement) → i < length body
    → body_fault earlier place (drop i body)
    ≡ option_or
    (option_map (λ kind. record { place = place; kind = kind }) (statement_fault earlier (get_or body i statement)))
    (body_fault (earlier ++ value_type (get_or body i statement) ∷ []) (place + 1) (drop (i + 1) body))
body_fault_from earlier body place i statement within = rw (drop-cons body i statement within, add-one i) refl

or_some : {A : Type 0} (first rest : Option A) (x : A) → option_or first None ≡ Some x → option_or first rest ≡ Some x
or_some None rest x e = absurd cc
or_some (Some y) rest x e = e

or_none : {A : Type 0} (first rest : Option A) → option_or first None ≡ None → option_or first rest ≡ rest
or_none None rest e = refl
or_none (Some y) rest e = absurd cc

module _ (earlier : List WrittenType) (body : List Statement) (i : ℕ) (statement : Statement) (within : i < length body) where
  -- a statement that breaks no check leaves the faults of those behind it
  pub step_over : body_fault earlier i (get_or body i statement ∷ []) ≡ None
      → body_fault earlier i (drop i body) ≡ body_fault (earlier ++ value_type (get_or body i statement) ∷ []) (i + 1) (drop (i + 1) body)
  step_over none =
      body_fault_from earlier body i i statement within
      ∙ or_none (option_map (λ kind. record { place = i; kind = kind }) (statement_fault earlier (get_or body i statement))) _ none

  -- and the fault of one that does is theirs
  pub step_fault : (fault : TypeFault) → body_fault earlier i (get_or body i statement ∷ []) ≡ Some fault
      → body_fault earlier i (drop i body) ≡ Some fault
  step_fault fault found =
      body_fault_from earlier body i i statement within
      ∙ or_some (option_map (λ kind. record { place = i; kind = kind }) (statement_fault earlier (get_or body i statement))) _ fault found
