-- How the reader goes through the tokens, production by production. No public clause speaks of it: that it gives the
-- source or the fault of the text is proved.
use Rattle.std.specs.Prelude.{ℕ, zero, suc, ◌==◌, nat_lt, ◌&&◌, Bool, false, List, [], ◌∷◌, ◌++◌, length, Option, Some, None, is_none, Result, Ok, Err, ℤ, codes, if◌then◌else◌}
use Rattle.refusals.specs.Reading.{◌>>=◌}
use Rattle.std.specs.List.{position}
use Rattle.std.specs.Str.{bytes_eq}
use Rattle.mlir_lex.specs.declared.TokenKind.{TokenKind}
use Rattle.mlir_lex.specs.declared.TokenKind.TheVariants.{Word, Int, Value, Text, TypeName, Sign}
use Rattle.fhe_text.specs.declared.source.WrittenType.{WrittenType}
use Rattle.fhe_text.specs.declared.source.WrittenType.TheVariants as types
use Rattle.fhe_text.specs.declared.source.Arg.{Arg}
use Rattle.fhe_text.specs.declared.source.OpName.{OpName}
use Rattle.fhe_text.specs.declared.source.Entries.{Entries}
use Rattle.fhe_text.specs.declared.source.Entries.TheVariants as entries
use Rattle.fhe_text.specs.declared.source.Statement.{Statement}
use Rattle.fhe_text.specs.declared.source.Statement.TheVariants as statements
use Rattle.fhe_text.specs.declared.source.Source.{Source}
use Rattle.fhe_text.specs.declared.fault.Wrong.{Wrong}
use Rattle.fhe_text.specs.declared.fault.TextKind.{TextKind}
use Rattle.fhe_text.specs.declared.fault.TextKind.TheVariants as kinds
use Rattle.fhe_text.specs.Numbers.{fits_bits, signed_of, width_of, length_of, itype_of, xtype_of}
use Rattle.fhe_text.specs.Roles.{Spelled, Role, word, sign, function_name, eint_name, range_word, argument_entry, operation_entry, entry_value, entry_type, return_word, kind_of, has_form, is_kind}
use Rattle.fhe_text.specs.Conditions.{op_of, is_among, all_fit, is_length_of}
use Rattle.mlir_lex.specs.declared.Token.{Token}
use Rattle.mlir_lex.specs.declared.LexFault.{LexFault}
use Rattle.fhe_text.specs.declared.fault.TextFault.{TextFault}
use Rattle.fhe_text.specs.Reading.{end_fault, wrong_fault}

-- a value at the front of some tokens, and the tokens behind it; or what is wrong
abbrev pub Read : Type 0 → Type 0
Read A = Result (A × List Spelled) Wrong

-- what is wrong at the first of these tokens: where there is none, the text has ended
abbrev pub wrong_at : TextKind → List Spelled → Wrong
wrong_at kind [] = record { left = 0; kind = kinds.End }
wrong_at kind (next ∷ rest) = record { left = length (next ∷ rest); kind = kind }

-- ---- one token

-- the bytes of a token of the kind
unfoldable pub kind_at : TokenKind → List Spelled → Read (List ℕ)
kind_at kind [] = Err (wrong_at kinds.Syntax [])
kind_at kind (next ∷ rest) = if is_kind kind next.0 then Ok (next.1, rest) else Err (wrong_at kinds.Syntax (next ∷ rest))

-- the bytes of a token that fits the role
unfoldable pub role_at : Role → List Spelled → Read (List ℕ)
role_at role tokens = do
  found ← kind_at (kind_of role) tokens
  if has_form role found.0 then Ok found else Err (wrong_at kinds.Syntax tokens)

-- the first token has the kind and these bytes
abbrev pub stands : TokenKind → List ℕ → List Spelled → Bool
stands kind text [] = false
stands kind text (next ∷ rest) = is_kind kind next.0 && bytes_eq next.1 text

-- the first token has the kind
abbrev pub kind_stands : TokenKind → List Spelled → Bool
kind_stands kind [] = false
kind_stands kind (next ∷ rest) = is_kind kind next.0

-- a value where there is one, and else what is wrong
abbrev pub some_or : {A : Type 0} → Option A → List Spelled → Wrong → Read A
some_or None rest wrong = Err wrong
some_or (Some x) rest wrong = Ok (x, rest)

-- the sign
unfoldable pub sign_at : List ℕ → List Spelled → Read (List ℕ)
sign_at text tokens = role_at (sign text) tokens

-- the length of a tensor
unfoldable pub length_at : List Spelled → Read ℕ
length_at tokens = do
  found ← kind_at Int tokens
  some_or (length_of found.0) found.1 (wrong_at kinds.Shape tokens)

-- a width
unfoldable pub width_at : List Spelled → Read ℕ
width_at tokens = do
  found ← kind_at Int tokens
  some_or (width_of found.0) found.1 (wrong_at kinds.Syntax tokens)

-- the bits of an itype
unfoldable pub itype_at : List Spelled → Read ℕ
itype_at tokens = do
  found ← kind_at Word tokens
  some_or (itype_of found.0) found.1 (wrong_at kinds.Syntax tokens)

-- the bits of an xtype
unfoldable pub xtype_at : List Spelled → Read ℕ
xtype_at tokens = do
  found ← kind_at Word tokens
  some_or (xtype_of found.0) found.1 (wrong_at kinds.Syntax tokens)

-- ---- as many as stand there

-- as many steps as the test lets, and at most so many
unfoldable pub many_at : {S : Type 0} → (List Spelled → Bool) → (S → List Spelled → Read S) → ℕ → S → List Spelled → Read S
many_at test step zero state tokens = Ok (state, tokens)
many_at test step (suc most) state tokens =
    if test tokens then step state tokens >>= (λ next. many_at test step most next.0 next.1) else Ok (state, tokens)

-- one behind its `,`
unfoldable pub behind_comma_at : {S : Type 0} → (S → List Spelled → Read S) → S → List Spelled → Read S
behind_comma_at item state tokens = do
  comma ← sign_at (codes ",") tokens
  item state comma.1

-- one or more, with `,` between
unfoldable pub listed_at : {S : Type 0} → (S → List Spelled → Read S) → S → List Spelled → Read S
listed_at item state tokens = do
  first ← item state tokens
  many_at (stands Sign (codes ",")) (behind_comma_at item) (length first.1) first.0 first.1

-- none or more, before the sign
unfoldable pub maybe_listed_at : {S : Type 0} → List ℕ → (S → List Spelled → Read S) → S → List Spelled → Read S
maybe_listed_at close item state tokens = if stands Sign close tokens then Ok (state, tokens) else listed_at item state tokens

-- ---- types

-- the width of `!FHE.eint<width>`
unfoldable pub etype_at : List Spelled → Read ℕ
etype_at tokens = do
  name ← role_at eint_name tokens
  open_ ← sign_at (codes "<") name.1
  bits ← width_at open_.1
  close ← sign_at (codes ">") bits.1
  Ok (bits.0, close.1)

-- `tensor<length xtype>`
unfoldable pub tensor_at : List Spelled → Read WrittenType
tensor_at tokens = do
  name ← role_at (word (codes "tensor")) tokens
  open_ ← sign_at (codes "<") name.1
  count ← length_at open_.1
  cell ← xtype_at count.1
  close ← sign_at (codes ">") cell.1
  Ok (types.Tensor count.0 cell.0, close.1)

-- any type
unfoldable pub type_at : List Spelled → Read WrittenType
type_at tokens =
    if stands TypeName (codes "!FHE.eint") tokens then (etype_at tokens >>= λ x. Ok (types.Eint x.0, x.1)) else (
    if stands Word (codes "tensor") tokens then tensor_at tokens else (
    itype_at tokens >>= λ x. Ok (types.Int x.0, x.1)))

-- one type more
unfoldable pub next_type_at : List WrittenType → List Spelled → Read (List WrittenType)
next_type_at found tokens = type_at tokens >>= λ x. Ok (found ++ x.0 ∷ [], x.1)

-- types, one or more
unfoldable pub types_at : List Spelled → Read (List WrittenType)
types_at tokens = listed_at next_type_at [] tokens

-- one more encrypted type
unfoldable pub next_etype_at : List WrittenType → List Spelled → Read (List WrittenType)
next_etype_at found tokens = etype_at tokens >>= λ x. Ok (found ++ types.Eint x.0 ∷ [], x.1)

-- encrypted types, one or more
unfoldable pub etypes_at : List Spelled → Read (List WrittenType)
etypes_at tokens = listed_at next_etype_at [] tokens

-- the types of the results of a function
unfoldable pub result_types_at : List Spelled → Read (List WrittenType)
result_types_at tokens =
    if stands Sign (codes "(") tokens
    then (do
      open_ ← sign_at (codes "(") tokens
      found ← etypes_at open_.1
      close ← sign_at (codes ")") found.1
      Ok (found.0, close.1))
    else next_etype_at [] tokens

-- ---- arguments

-- an end of a range
unfoldable pub range_end_at : List Spelled → Read ℤ
range_end_at tokens = do
  found ← kind_at Int tokens
  some_or (signed_of 128 found.0) found.1 (wrong_at kinds.Constant tokens)

-- `fhec.range = [low, high]`
unfoldable pub range_at : List Spelled → Read (ℤ × ℤ)
range_at tokens = do
  name ← role_at range_word tokens
  equal ← sign_at (codes "=") name.1
  open_ ← sign_at (codes "[") equal.1
  low ← range_end_at open_.1
  comma ← sign_at (codes ",") low.1
  high ← range_end_at comma.1
  close ← sign_at (codes "]") high.1
  Ok ((low.0, high.0), close.1)

-- the type of an entry, where one is written
unfoldable pub entry_type_at : List Spelled → Read (Unit {0})
entry_type_at tokens =
    if stands Sign (codes ":") tokens
    then (do
      colon ← sign_at (codes ":") tokens
      name ← role_at entry_type colon.1
      Ok (tt, name.1))
    else Ok (tt, tokens)

-- the value of an entry, behind its name
unfoldable pub entry_value_at : List Spelled → Read (Unit {0})
entry_value_at tokens = do
  equal ← sign_at (codes "=") tokens
  value ← role_at entry_value equal.1
  entry_type_at value.1

-- an entry with a name in the role
unfoldable pub entry_at : Role → List Spelled → Read (Unit {0})
entry_at role tokens = do
  name ← role_at role tokens
  entry_value_at name.1

-- an entry or the range of an argument's dict, with the range so far
unfoldable pub argument_entry_at : Option (ℤ × ℤ) → List Spelled → Read (Option (ℤ × ℤ))
argument_entry_at declared tokens =
    if stands Word (codes "fhec.range") tokens
    then (if is_none declared then (range_at tokens >>= λ x. Ok (Some x.0, x.1)) else Err (wrong_at kinds.Syntax tokens))
    else (entry_at argument_entry tokens >>= λ x. Ok (declared, x.1))

-- the range in the dict of an argument, where one is written
unfoldable pub argument_dict_at : List Spelled → Read (Option (ℤ × ℤ))
argument_dict_at tokens = do
  open_ ← sign_at (codes "{") tokens
  declared ← maybe_listed_at (codes "}") argument_entry_at None open_.1
  close ← sign_at (codes "}") declared.1
  Ok (declared.0, close.1)

-- the range of an argument, where a dict with one is written
unfoldable pub declared_at : List Spelled → Read (Option (ℤ × ℤ))
declared_at tokens = if stands Sign (codes "{") tokens then argument_dict_at tokens else Ok (None, tokens)

-- a name that is new
unfoldable pub new_name_at : List (List ℕ) → List Spelled → Read (List ℕ)
new_name_at names tokens = do
  name ← kind_at Value tokens
  if is_among names name.0 then Err (wrong_at kinds.Name tokens) else Ok name

-- an argument, with its name among the names
unfoldable pub arg_at : List (List ℕ) → List Spelled → Read (List (List ℕ) × Arg)
arg_at names tokens = do
  name ← new_name_at names tokens
  colon ← sign_at (codes ":") name.1
  bits ← etype_at colon.1
  declared ← declared_at bits.1
  Ok ((names ++ name.0 ∷ [], record { ty = types.Eint bits.0; declared = declared.0 }), declared.1)

-- ---- constants

-- an INT of a constant
unfoldable pub number_at : List Spelled → Read ℤ
number_at tokens = do
  found ← kind_at Int tokens
  some_or (signed_of 64 found.0) found.1 (wrong_at kinds.Syntax tokens)

-- `number : itype`
unfoldable pub scalar_constant_at : List Spelled → Read Statement
scalar_constant_at tokens = do
  value ← number_at tokens
  colon ← sign_at (codes ":") value.1
  bits ← itype_at colon.1
  if fits_bits bits.0 value.0 then Ok (statements.Int value.0 bits.0, bits.1) else Err (wrong_at kinds.Constant colon.1)

-- one number more
unfoldable pub next_number_at : List ℤ → List Spelled → Read (List ℤ)
next_number_at found tokens = number_at tokens >>= λ x. Ok (found ++ x.0 ∷ [], x.1)

-- numbers, one or more
unfoldable pub numbers_at : List Spelled → Read (List ℤ)
numbers_at tokens = listed_at next_number_at [] tokens

-- the numbers of a list
unfoldable pub list_at : List Spelled → Read (List ℤ)
list_at tokens = do
  open_ ← sign_at (codes "[") tokens
  found ← numbers_at open_.1
  close ← sign_at (codes "]") found.1
  Ok (found.0, close.1)

-- the entries of a tensor
unfoldable pub entries_at : List Spelled → Read Entries
entries_at tokens =
    if stands Sign (codes "[") tokens
    then (list_at tokens >>= λ x. Ok (entries.List x.0, x.1))
    else (number_at tokens >>= λ x. Ok (entries.Splat x.0, x.1))

-- how many INTs stand in a list, 0 where one stands for all
abbrev pub item_count : Entries → ℕ
item_count (entries.List numbers) = length numbers
item_count (entries.Splat value) = 0

-- the INTs
abbrev pub entry_numbers : Entries → List ℤ
entry_numbers (entries.List numbers) = numbers
entry_numbers (entries.Splat value) = value ∷ []

-- the length of the tensor, where so many INTs stand in a list
unfoldable pub dense_length_at : ℕ → List Spelled → Read ℕ
dense_length_at items tokens = do
  count ← length_at tokens
  if is_length_of items count.0 then Ok count else Err (wrong_at kinds.Shape tokens)

-- the bits of the tensor, which hold the numbers
unfoldable pub dense_cell_at : List ℤ → List Spelled → Read ℕ
dense_cell_at numbers tokens = do
  bits ← xtype_at tokens
  if all_fit bits.0 numbers then Ok bits else Err (wrong_at kinds.Constant tokens)

-- the tensor of these entries
unfoldable pub dense_type_at : Entries → List Spelled → Read Statement
dense_type_at found tokens = do
  name ← role_at (word (codes "tensor")) tokens
  open_ ← sign_at (codes "<") name.1
  count ← dense_length_at (item_count found) open_.1
  cell ← dense_cell_at (entry_numbers found) count.1
  close ← sign_at (codes ">") cell.1
  Ok (statements.Dense found count.0 cell.0, close.1)

-- `dense<entries> : tensor`
unfoldable pub dense_constant_at : List Spelled → Read Statement
dense_constant_at tokens = do
  name ← role_at (word (codes "dense")) tokens
  open_ ← sign_at (codes "<") name.1
  found ← entries_at open_.1
  close ← sign_at (codes ">") found.1
  colon ← sign_at (codes ":") close.1
  dense_type_at found.0 colon.1

-- a constant
unfoldable pub constant_at : List Spelled → Read Statement
constant_at tokens = do
  name ← role_at (word (codes "arith.constant")) tokens
  if stands Word (codes "dense") name.1 then dense_constant_at name.1 else scalar_constant_at name.1

-- ---- operations

-- the name of an operation
unfoldable pub op_at : List Spelled → Read OpName
op_at tokens = do
  found ← kind_at Text tokens
  some_or (op_of found.0) found.1 (wrong_at kinds.Op tokens)

-- the number of the value with the name, where it is defined
abbrev pub number_among : List (List ℕ) → List ℕ → Option ℕ
number_among names name = position (bytes_eq name) names

-- the number of a value whose name is defined
unfoldable pub known_name_at : List (List ℕ) → List Spelled → Read ℕ
known_name_at names tokens = do
  found ← kind_at Value tokens
  some_or (number_among names found.0) found.1 (wrong_at kinds.Name tokens)

-- one value more
unfoldable pub next_value_at : List (List ℕ) → List ℕ → List Spelled → Read (List ℕ)
next_value_at names found tokens = known_name_at names tokens >>= λ x. Ok (found ++ x.0 ∷ [], x.1)

-- values, one or more
unfoldable pub values_at : List (List ℕ) → List Spelled → Read (List ℕ)
values_at names tokens = listed_at (next_value_at names) [] tokens

-- an entry of an operation's dict
unfoldable pub operation_entry_at : Unit {0} → List Spelled → Read (Unit {0})
operation_entry_at state tokens = entry_at operation_entry tokens

-- the dict of an operation, where one is written
unfoldable pub operation_dict_at : List Spelled → Read (Unit {0})
operation_dict_at tokens =
    if stands Sign (codes "{") tokens
    then (do
      open_ ← sign_at (codes "{") tokens
      entries ← maybe_listed_at (codes "}") operation_entry_at tt open_.1
      close ← sign_at (codes "}") entries.1
      Ok (tt, close.1))
    else Ok (tt, tokens)

-- the result type of an operation
unfoldable pub result_at : List Spelled → Read WrittenType
result_at tokens =
    if stands Sign (codes "(") tokens
    then (do
      open_ ← sign_at (codes "(") tokens
      found ← type_at open_.1
      close ← sign_at (codes ")") found.1
      Ok (found.0, close.1))
    else type_at tokens

-- the operands of an operation, in brackets
unfoldable pub operands_at : List (List ℕ) → List Spelled → Read (List ℕ)
operands_at names tokens = do
  open_ ← sign_at (codes "(") tokens
  found ← maybe_listed_at (codes ")") (next_value_at names) [] open_.1
  close ← sign_at (codes ")") found.1
  Ok (found.0, close.1)

-- the types before a `)`, none or more
unfoldable pub maybe_types_at : List Spelled → Read (List WrittenType)
maybe_types_at tokens = maybe_listed_at (codes ")") next_type_at [] tokens

-- the types of an operation, in brackets, and that of its result
unfoldable pub signature_at : List Spelled → Read (List WrittenType × WrittenType)
signature_at tokens = do
  colon ← sign_at (codes ":") tokens
  open_ ← sign_at (codes "(") colon.1
  found ← maybe_types_at open_.1
  close ← sign_at (codes ")") found.1
  arrow ← sign_at (codes "->") close.1
  result ← result_at arrow.1
  Ok ((found.0, result.0), result.1)

-- an operation on values with these names
unfoldable pub applied_at : List (List ℕ) → List Spelled → Read Statement
applied_at names tokens = do
  name ← op_at tokens
  operands ← operands_at names name.1
  rest ← operation_dict_at operands.1
  signature ← signature_at rest.1
  Ok (statements.Op name.0 operands.0 signature.0.0 signature.0.1, signature.1)

-- ---- statements and the return

-- a constant or an operation
unfoldable pub computed_at : List (List ℕ) → List Spelled → Read Statement
computed_at names tokens = if stands Word (codes "arith.constant") tokens then constant_at tokens else applied_at names tokens

-- a statement, with its name among the names
unfoldable pub statement_at : List (List ℕ) → List Spelled → Read (List (List ℕ) × Statement)
statement_at names tokens = do
  name ← new_name_at names tokens
  equal ← sign_at (codes "=") name.1
  computed ← computed_at names equal.1
  Ok ((names ++ name.0 ∷ [], computed.0), computed.1)

-- one statement more
unfoldable pub next_statement_at : List (List ℕ) × List Statement → List Spelled → Read (List (List ℕ) × List Statement)
next_statement_at state tokens = statement_at state.0 tokens >>= λ x. Ok ((x.0.0, state.1 ++ x.0.1 ∷ []), x.1)

-- the statements
unfoldable pub statements_at : List (List ℕ) × List Statement → List Spelled → Read (List (List ℕ) × List Statement)
statements_at state tokens = many_at (kind_stands Value) next_statement_at (length tokens) state tokens

-- the word of a return, where a name is defined
unfoldable pub return_word_at : List (List ℕ) → List Spelled → Read (List ℕ)
return_word_at names tokens = do
  found ← role_at return_word tokens
  if nat_lt 0 (length names) then Ok found else Err (wrong_at kinds.Syntax tokens)

-- the values that are returned, and their types
unfoldable pub return_at : List (List ℕ) → List Spelled → Read (List ℕ × List WrittenType)
return_at names tokens = do
  found ← return_word_at names tokens
  values ← values_at names found.1
  colon ← sign_at (codes ":") values.1
  written ← types_at colon.1
  Ok ((values.0, written.0), written.1)

-- ---- the program

-- one more argument
unfoldable pub next_arg_at : List (List ℕ) × List Arg → List Spelled → Read (List (List ℕ) × List Arg)
next_arg_at state tokens = arg_at state.0 tokens >>= λ x. Ok ((x.0.0, state.1 ++ x.0.1 ∷ []), x.1)

-- the arguments, in brackets
unfoldable pub args_at : List (List ℕ) × List Arg → List Spelled → Read (List (List ℕ) × List Arg)
args_at state tokens = do
  open_ ← sign_at (codes "(") tokens
  found ← maybe_listed_at (codes ")") next_arg_at state open_.1
  close ← sign_at (codes ")") found.1
  Ok (found.0, close.1)

-- the body: the statements and the return
unfoldable pub body_at : List (List ℕ) → List Spelled → Read (List Statement × (List ℕ × List WrittenType))
body_at names tokens = do
  open_ ← sign_at (codes "{") tokens
  found ← statements_at (names, []) open_.1
  last ← return_at found.0.0 found.1
  close ← sign_at (codes "}") last.1
  Ok ((found.0.1, last.0), close.1)

-- the function
unfoldable pub func_at : List Spelled → Read Source
func_at tokens = do
  name ← role_at (word (codes "func.func")) tokens
  symbol ← role_at function_name name.1
  args ← args_at ([], []) symbol.1
  arrow ← sign_at (codes "->") args.1
  results ← result_types_at arrow.1
  body ← body_at args.0.0 results.1
  Ok (record { args = args.0.1; results = results.0; body = body.0.0; returned = body.0.1.0; returned_types = body.0.1.1 }, body.1)

-- the function, in a module
unfoldable pub module_at : List Spelled → Read Source
module_at tokens = do
  name ← role_at (word (codes "module")) tokens
  open_ ← sign_at (codes "{") name.1
  source ← func_at open_.1
  close ← sign_at (codes "}") source.1
  Ok (source.0, close.1)

-- the function, alone or in a module
unfoldable pub unit_at : List Spelled → Read Source
unit_at tokens = if stands Word (codes "module") tokens then module_at tokens else func_at tokens

-- the source of all of the tokens
unfoldable pub source_at : List Spelled → Result Source Wrong
source_at tokens = unit_at tokens >>= λ x. if length x.1 == 0 then Ok x.0 else Err (wrong_at kinds.Syntax x.1)

-- the source where the tokens reach the end of the bytes, and else the fault at its place
abbrev pub finished : List ℕ → List Token → Option LexFault → Result Source Wrong → Result Source TextFault
finished bytes tokens None (Ok source) = Ok source
finished bytes tokens (Some stop) (Ok source) = Err (end_fault bytes (Some stop))
finished bytes tokens stop (Err wrong) = Err (wrong_fault bytes tokens stop wrong)
