-- The program that tokens spell, and what begins one.
use Rattle.std.specs.Prelude.{◌≡◌, ℕ, Bool, true, false, List, [], ◌∷◌, ◌++◌, map, Option, Some, None, unwrap_or, ℤ, if◌then◌else◌}
use Rattle.std.specs.List.{before_first, position_or_len, slice_index_or}
use Rattle.std.specs.Str.{bytes_eq}
use Rattle.fhe_text.specs.declared.source.WrittenType.{WrittenType}
use Rattle.fhe_text.specs.declared.source.WrittenType.TheVariants as types
use Rattle.fhe_text.specs.declared.source.Arg.{Arg}
use Rattle.fhe_text.specs.declared.source.OpName.TheVariants.{AddEint}
use Rattle.fhe_text.specs.declared.source.Entries.{Entries}
use Rattle.fhe_text.specs.declared.source.Entries.TheVariants as entries
use Rattle.fhe_text.specs.declared.source.Statement.{Statement}
use Rattle.fhe_text.specs.declared.source.Statement.TheVariants as statements
use Rattle.fhe_text.specs.declared.source.Source.{Source}
use Rattle.fhe_text.specs.Patterns.{IsWhole, IsCut}
use Rattle.fhe_text.specs.Numbers.{number_of, width_of, length_of, itype_of, xtype_of, or_zero}
use Rattle.fhe_text.specs.Roles.{Spelled, Place, of_argument, of_function, of_operand, of_operation, of_return, Role, width, scalar, tensor_length, range_low, range_high, number, number_type, splat, dense_length, dense_cell, operation, operand, returned}
use Rattle.fhe_text.specs.Grammar.{program}
use Rattle.fhe_text.specs.Conditions.{Part, op_of, texts_in, names_of, is_argument, is_statement, is_item, MeetConditions}

-- ---- what the tokens in their roles spell

-- the same place
abbrev pub is_place : Place → Place → Bool
is_place of_argument of_argument = true
is_place of_function of_function = true
is_place of_operand of_operand = true
is_place of_operation of_operation = true
is_place of_return of_return = true
is_place _ _ = false

-- the roles of which each statement, argument or return has its own
abbrev pub is_range_low : Role → Bool
is_range_low range_low = true
is_range_low _ = false

abbrev pub is_range_high : Role → Bool
is_range_high range_high = true
is_range_high _ = false

abbrev pub is_single_number : Role → Bool
is_single_number number = true
is_single_number _ = false

abbrev pub is_number_type : Role → Bool
is_number_type number_type = true
is_number_type _ = false

abbrev pub is_splat : Role → Bool
is_splat splat = true
is_splat _ = false

abbrev pub is_dense_length : Role → Bool
is_dense_length dense_length = true
is_dense_length _ = false

abbrev pub is_dense_cell : Role → Bool
is_dense_cell dense_cell = true
is_dense_cell _ = false

abbrev pub is_operation : Role → Bool
is_operation operation = true
is_operation _ = false

abbrev pub is_operand : Role → Bool
is_operand operand = true
is_operand _ = false

abbrev pub is_returned : Role → Bool
is_returned returned = true
is_returned _ = false

-- the bytes of the first token, nothing where there is none
abbrev pub next_text : List Part → List ℕ
next_text [] = []
next_text (part ∷ parts) = part.1.1

-- the first of some texts, nothing where there is none
abbrev pub first_text : List (List ℕ) → List ℕ
first_text [] = []
first_text (text ∷ texts) = text

-- the type that begins with this token at the place, where one does: a width or an itype tells it, or the length of
-- a tensor with the xtype behind it
abbrev pub type_at : Place → Role → List ℕ → List Part → List WrittenType
type_at place (width other) text parts = if is_place place other then types.Eint (or_zero (width_of text)) ∷ [] else []
type_at place (scalar other) text parts = if is_place place other then types.Int (or_zero (itype_of text)) ∷ [] else []
type_at place (tensor_length other) text parts = if is_place place other then types.Tensor (or_zero (length_of text)) (or_zero (xtype_of (next_text parts))) ∷ [] else []
type_at place _ text parts = []

-- the types that are written at the place, in order
abbrev pub types_in : Place → List Part → List WrittenType
types_in place [] = []
types_in place (part ∷ parts) = type_at place part.0 part.1.1 parts ++ types_in place parts

-- the range with these least numbers and these greatest, where there is one
abbrev pub range_of : List (List ℕ) → List (List ℕ) → Option (ℤ × ℤ)
range_of [] highs = None
range_of (low ∷ lows) highs = Some (number_of low, number_of (first_text highs))

-- the argument that these tokens spell
abbrev pub arg_of : List Part → Arg
arg_of parts = record { ty = slice_index_or (types_in of_argument parts) 0 (types.Eint 0); declared = range_of (texts_in is_range_low parts) (texts_in is_range_high parts) }

-- the arguments: each from its name up to the next one's
abbrev pub args_in : List Part → List Arg
args_in [] = []
args_in (part ∷ parts) = if is_argument part.0 then arg_of (before_first (λ p. is_argument p.0) parts) ∷ args_in parts else args_in parts

-- the number of the value with this name
abbrev pub value_number : List (List ℕ) → List ℕ → ℕ
value_number names name = position_or_len (bytes_eq name) names

-- the entries: one INT for all of them, or those of the list
abbrev pub entries_of : List (List ℕ) → List (List ℕ) → Entries
entries_of [] items = entries.List (map number_of items)
entries_of (one ∷ others) items = entries.Splat (number_of one)

-- the constant that these tokens spell: a number where there is one, and else a tensor
abbrev pub constant_of : List Part → List (List ℕ) → Statement
constant_of parts (one ∷ others) = statements.Int (number_of one) (or_zero (itype_of (first_text (texts_in is_number_type parts))))
constant_of parts [] =
    statements.Dense (entries_of (texts_in is_splat parts) (texts_in is_item parts)) (or_zero (length_of (first_text (texts_in is_dense_length parts))))
    (or_zero (xtype_of (first_text (texts_in is_dense_cell parts))))

-- the statement that these tokens spell: an operation where one is named, and else a constant
abbrev pub statement_of : List (List ℕ) → List Part → List (List ℕ) → Statement
statement_of names parts (name ∷ others) =
    statements.Op (unwrap_or (op_of name) AddEint) (map (value_number names) (texts_in is_operand parts)) (types_in of_operand parts)
    (slice_index_or (types_in of_operation parts) 0 (types.Eint 0))
statement_of names parts [] = constant_of parts (texts_in is_single_number parts)

-- the statements: each from its name up to the next one's
abbrev pub statements_in : List (List ℕ) → List Part → List Statement
statements_in names [] = []
statements_in names (part ∷ parts) =
    if is_statement part.0
    then (let own : List Part = before_first (λ p. is_statement p.0) parts in statement_of names own (texts_in is_operation own)) ∷ statements_in names parts
    else statements_in names parts

-- the source that the tokens spell
unfoldable pub source_of : List Part → Source
source_of parts = record {
  args = args_in parts;
  results = types_in of_function parts;
  body = statements_in (names_of parts) parts;
  returned = map (value_number (names_of parts)) (texts_in is_returned parts);
  returned_types = types_in of_return parts;
}

-- ---- programs, and what begins one

-- the tokens in roles
abbrev pub tokens_in : List Part → List Spelled
tokens_in parts = map (λ (part : Part). part.1) parts

-- and the roles
abbrev pub roles_in : List Part → List Role
roles_in parts = map (λ (part : Part). part.0) parts

-- the tokens are a program and spell this source
abbrev pub IsProgram : List Spelled → Source → Type 0
IsProgram tokens source =
    (parts : List Part) × (tokens_in parts ≡ tokens) × IsWhole program (roles_in parts) × MeetConditions [] parts × (source ≡ source_of parts)

-- the tokens begin a program
abbrev pub BeginsProgram : List Spelled → Type 0
BeginsProgram tokens = (parts : List Part) × (tokens_in parts ≡ tokens) × IsCut program (roles_in parts) × MeetConditions [] parts
