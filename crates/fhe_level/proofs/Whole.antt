-- The program that was built, and the fault that was found, are those of the source.
use Rattle.std.proofs.Common.{◌≡◌, ℕ, List, [], ◌∷◌, ◌++◌, length, map, refl, sym, ap, ◌∙◌, Option, Some, None, Result, Ok, Err}
use Rattle.std.specs.List.{enumerate_from}
use Rattle.std.specs.Option.{option_or}
use Rattle.std.proofs.lemmas.List.{length-map, map-append}
use Rattle.ir_core.specs.Graph.{Operations}
use Rattle.ir_core.specs.Placed.{operations_of, IsPlaced}
use Rattle.refusals.specs.declared.refusal.Refusal.{Refusal}
use Rattle.refusals.specs.declared.refusal.Refusal.TheVariants.{Fault, Memory}
use Rattle.refusals.specs.Reading.{Refuses}
use Rattle.fhe_text.specs.declared.source.Arg.{Arg}
use Rattle.fhe_text.specs.declared.source.Statement.{Statement}
use Rattle.fhe_text.specs.declared.source.Source.{Source}
use Rattle.fhe_level.specs.declared.fault.TypeFault.{TypeFault}
use Rattle.fhe_level.specs.declared.level.FheOp.{FheOp}
use Rattle.fhe_level.specs.Operations.{type_of}
use Rattle.fhe_level.specs.Types.{argument_types, value_type, value_types, argument_fault, body_fault, return_fault, type_fault}
use Rattle.fhe_level.specs.Programs.{argument_op, statement_op, operations_in, numbered, program_of, typed, checked_program}
use Rattle.fhe_level.specs.Building.{types_in, Adds}
use Rattle.fhe_level.proofs.Steps.{type_of_statement}

-- a graph whose numbers are places is that of its operations
pub graph_is : (graph : Operations FheOp) (operations : List FheOp) → IsPlaced graph → operations_of graph ≡ operations → graph ≡ numbered operations
graph_is graph operations is same =
    let list : graph.list ≡ enumerate_from 0 operations = is.numbers ∙ ap (enumerate_from 0) same in
    let made : graph.made ≡ length operations = is.next ∙ sym (length-map graph.list (λ (entry : ℕ × FheOp). entry.1)) ∙ ap length same in
    ap (λ l. record { list = l; made = graph.made }) list ∙ ap (λ m. record { list = enumerate_from 0 operations; made = m }) made

module _ (source : Source) where
  abbrev arguments : Option TypeFault
  arguments = argument_fault 0 source.args

  abbrev body : Option TypeFault
  body = body_fault (argument_types source.args) 0 source.body

  abbrev return : Option TypeFault
  return = return_fault (value_types source) source

  -- no check fails
  pub none_fails : arguments ≡ None → body ≡ None → return ≡ None → checked_program source ≡ Ok (program_of source)
  none_fails a b r = rw (a, b, r) refl

  -- the first one that fails
  pub argument_fails : (fault : TypeFault) → arguments ≡ Some fault → checked_program source ≡ Err fault
  argument_fails fault a = rw a refl

  pub body_fails : (fault : TypeFault) → arguments ≡ None → body ≡ Some fault → checked_program source ≡ Err fault
  body_fails fault a b = rw (a, b) refl

  pub return_fails : (fault : TypeFault) → arguments ≡ None → body ≡ None → return ≡ Some fault → checked_program source ≡ Err fault
  return_fails fault a b r = rw (a, b, r) refl

-- ---- what was built so far

-- the types of arguments are those of their operations
pub types_of_arguments : (args : List Arg) → map type_of (map argument_op args) ≡ argument_types args
types_of_arguments [] = refl
types_of_arguments (arg ∷ args) = ap (λ rest. arg.ty ∷ rest) (types_of_arguments args)

pub types_of_body : (body : List Statement) → map type_of (map statement_op body) ≡ map value_type body
types_of_body [] = refl
types_of_body (statement ∷ body) =
    ap (λ ty. ty ∷ map type_of (map statement_op body)) (type_of_statement statement)
    ∙ ap (λ rest. value_type statement ∷ rest) (types_of_body body)

module _ (source : Source) (before : List FheOp) (none : argument_fault 0 source.args ≡ None) (args : before ≡ map argument_op source.args) where
  before_types : argument_types source.args ≡ map type_of before
  before_types = sym (ap (map type_of) args ∙ types_of_arguments source.args)

  -- a statement breaks a check
  pub body_refused : (refusal : Refusal TypeFault) (was after : Operations FheOp)
      → Adds was after (map statement_op source.body) (Err refusal) (body_fault (map type_of before) 0 source.body)
      → Refuses refusal (checked_program source)
  body_refused (Fault fault) was after found =
      body_fails source fault none (ap (λ earlier. body_fault earlier 0 source.body) before_types ∙ found)
  body_refused Memory was after found = tt

  module _ (after : List FheOp) (body_none : body_fault (map type_of before) 0 source.body ≡ None)
      (more : after ≡ before ++ map statement_op source.body) where
    -- all operations are there
    pub operations_are : after ≡ operations_in source
    operations_are = more ∙ ap (λ first. first ++ map statement_op source.body) args

    after_types : value_types source ≡ map type_of after
    after_types =
        ap (λ first. first ++ map value_type source.body) before_types
        ∙ ap (λ rest. map type_of before ++ rest) (sym (types_of_body source.body))
        ∙ sym (map-append type_of before (map statement_op source.body))
        ∙ ap (map type_of) (sym more)

    body_kept : body_fault (argument_types source.args) 0 source.body ≡ None
    body_kept = ap (λ earlier. body_fault earlier 0 source.body) before_types ∙ body_none

    -- what is returned breaks a check
    pub return_refused : (fault : TypeFault) → return_fault (map type_of after) source ≡ Some fault → checked_program source ≡ Err fault
    return_refused fault found =
        return_fails source fault none body_kept (ap (λ earlier. return_fault earlier source) after_types ∙ found)

    -- no check is broken
    pub checked_is : return_fault (map type_of after) source ≡ None → checked_program source ≡ Ok (program_of source)
    checked_is found = none_fails source none body_kept (ap (λ earlier. return_fault earlier source) after_types ∙ found)
