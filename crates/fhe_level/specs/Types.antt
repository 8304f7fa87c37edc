-- The checks of types, in their order: arguments, statements, and what is returned.
use Rattle.std.specs.Prelude.{◌≡◌, ℕ, ◌+◌, ◌-◌, ◌^◌, ◌==◌, ◌&&◌, not, Bool, true, false, List, [], ◌∷◌, ◌++◌, length, map, Option, Some, None, ℤ, pos, int_le, if◌then◌else◌}
use Rattle.std.specs.List.{list_all, zip, slice_get}
use Rattle.std.specs.Option.{option_or, option_map, option_map_or}
use Rattle.fhe_text.specs.declared.source.WrittenType.{WrittenType}
use Rattle.fhe_text.specs.declared.source.WrittenType.TheVariants as types
use Rattle.fhe_text.specs.declared.source.Arg.{Arg}
use Rattle.fhe_text.specs.declared.source.OpName.{OpName}
use Rattle.fhe_text.specs.declared.source.Statement.{Statement}
use Rattle.fhe_text.specs.declared.source.Statement.TheVariants as statements
use Rattle.fhe_text.specs.declared.source.Source.{Source}
use Rattle.fhe_level.specs.declared.fault.TypeKind.{TypeKind}
use Rattle.fhe_level.specs.declared.fault.TypeKind.TheVariants.{Declared, Arity, Operand, Rule, Table, Return}
use Rattle.fhe_level.specs.declared.fault.TypeFault.{TypeFault}
use Rattle.fhe_level.specs.Limits.{width_of}
use Rattle.fhe_level.specs.Rows.{row_of, keeps_row, fits_table}

-- ---- arguments

-- the range of an encrypted type: all numbers of so many bits
abbrev pub type_range : WrittenType → ℤ × ℤ
type_range ty = (pos 0, pos (2 ^ width_of ty - 1))

-- a range has a number, and lies in the other
abbrev pub is_range_in : ℤ × ℤ → ℤ × ℤ → Bool
is_range_in outer range = int_le range.0 range.1 && int_le outer.0 range.0 && int_le range.1 outer.1

-- the range of an argument, where one is declared, lies in its type's
abbrev pub keeps_declared : Arg → Bool
keeps_declared arg = option_map_or (is_range_in (type_range arg.ty)) arg.declared true

-- the range of an argument: the declared one, or its type's
abbrev pub argument_range : Arg → ℤ × ℤ
argument_range arg = option_map_or (λ range. range) arg.declared (type_range arg.ty)

-- the fault of these arguments, numbered from this number on
abbrev pub argument_fault : ℕ → List Arg → Option TypeFault
argument_fault place [] = None
argument_fault place (arg ∷ args) =
    if keeps_declared arg then argument_fault (place + 1) args else Some (record { place = place; kind = Declared })

-- ---- statements

-- the type of a value
abbrev pub value_type : Statement → WrittenType
value_type (statements.Int value bits) = types.Int bits
value_type (statements.Dense found count bits) = types.Tensor count bits
value_type (statements.Op name operands written result) = result

-- the same type
abbrev pub same_type : WrittenType → WrittenType → Bool
same_type (types.Eint width) (types.Eint other) = width == other
same_type (types.Int bits) (types.Int other) = bits == other
same_type (types.Tensor count bits) (types.Tensor other others) = (count == other) && (bits == others)
same_type _ _ = false

-- the type is that of the value with this number, where these values have these types
abbrev pub is_type_of : List WrittenType → ℕ → WrittenType → Bool
is_type_of earlier value ty = option_map_or (λ own. same_type own ty) (slice_get earlier value) false

-- as many types as values, each the value's own
abbrev pub are_types_of : List WrittenType → List ℕ → List WrittenType → Bool
are_types_of earlier values written =
    (length values == length written) && list_all (λ p. is_type_of earlier p.0 p.1) (zip values written)

-- the first check that an operation breaks, where the values before it have these types
abbrev pub operation_fault : List WrittenType → OpName → List ℕ → List WrittenType → WrittenType → Option TypeKind
operation_fault earlier name operands written result =
    if not (length operands == length (row_of name)) then Some Arity
    else (if not (are_types_of earlier operands written) then Some Operand
    else (if not (keeps_row name written result) then Some Rule
    else (if not (fits_table name written) then Some Table
    else None)))

-- constants break none
abbrev pub statement_fault : List WrittenType → Statement → Option TypeKind
statement_fault earlier (statements.Op name operands written result) =
    operation_fault earlier name operands written result
statement_fault earlier _ = None

-- the fault of these statements, numbered from this number on, where the values before them have these types
abbrev pub body_fault : List WrittenType → ℕ → List Statement → Option TypeFault
body_fault earlier place [] = None
body_fault earlier place (statement ∷ body) =
    option_or
    (option_map (λ kind. record { place = place; kind = kind }) (statement_fault earlier statement))
    (body_fault (earlier ++ value_type statement ∷ []) (place + 1) body)

-- ---- the return

-- as many types as types, each the same
abbrev pub same_types : List WrittenType → List WrittenType → Bool
same_types written others = (length written == length others) && list_all (λ p. same_type p.0 p.1) (zip written others)

-- the fault of what is returned, where all values have these types: as many values as written types and as results, and
-- each type is the value's own and the result's
abbrev pub return_fault : List WrittenType → Source → Option TypeFault
return_fault earlier source =
    if are_types_of earlier source.returned source.returned_types && same_types source.returned_types source.results
    then None
    else Some (record { place = length source.body; kind = Return })

-- ---- the whole

-- the types of all values, the arguments first
abbrev pub argument_types : List Arg → List WrittenType
argument_types args = map (λ arg. arg.ty) args

abbrev pub value_types : Source → List WrittenType
value_types source = argument_types source.args ++ map value_type source.body

-- the first check that fails
abbrev pub type_fault : Source → Option TypeFault
type_fault source =
    option_or (option_or
    (argument_fault 0 source.args)
    (body_fault (argument_types source.args) 0 source.body))
    (return_fault (value_types source) source)
