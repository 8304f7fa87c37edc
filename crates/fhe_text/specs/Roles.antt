-- What a token is at its place in a program: the role in which it stands.
use Rattle.std.specs.Prelude.{ℕ, Bool, true, false, not, ◌&&◌, ◌||◌, List, codes, is_some}
use Rattle.std.specs.Str.{bytes_eq}
use Rattle.mlir_lex.specs.declared.TokenKind.{TokenKind}
use Rattle.mlir_lex.specs.declared.TokenKind.TheVariants.{Word, Int, Value, Symbol, TypeName, Text, Sign}
use Rattle.fhe_text.specs.Numbers.{signed_of, width_of, itype_of, xtype_of}

-- a token as its kind and its bytes
abbrev pub Spelled : Type 0
Spelled = TokenKind × List ℕ

-- whose type is written
pub data Place : Type 0 where
  of_argument : Place
  of_function : Place
  of_operand : Place
  of_operation : Place
  of_return : Place

pub data Role : Type 0 where
  -- this word, this sign
  word : List ℕ → Role
  sign : List ℕ → Role
  -- the name of the function
  function_name : Role
  -- in a type: the word before a width, the width, an itype, the length of a tensor and its xtype
  eint_name : Role
  width : Place → Role
  scalar : Place → Role
  tensor_length : Place → Role
  tensor_cell : Place → Role
  -- the name of an argument, the word before its range, and the ends of its range
  argument : Role
  range_word : Role
  range_low : Role
  range_high : Role
  -- in an entry: its name in an argument's dict, its name in an operation's dict, its number and its type
  argument_entry : Role
  operation_entry : Role
  entry_value : Role
  entry_type : Role
  -- the name before `=`
  statement : Role
  -- in a constant: its number and its itype; an INT of a list, an INT for all entries, the length and the xtype
  number : Role
  number_type : Role
  item : Role
  splat : Role
  dense_length : Role
  dense_cell : Role
  -- the name of an operation, and of an operand
  operation : Role
  operand : Role
  -- the word of a return, and the name of a returned value
  return_word : Role
  returned : Role

-- the kind of the tokens in a role
abbrev pub kind_of : Role → TokenKind
kind_of (word text) = Word
kind_of (sign text) = Sign
kind_of function_name = Symbol
kind_of eint_name = TypeName
kind_of (width place) = Int
kind_of (scalar place) = Word
kind_of (tensor_length place) = Int
kind_of (tensor_cell place) = Word
kind_of argument = Value
kind_of range_word = Word
kind_of range_low = Int
kind_of range_high = Int
kind_of argument_entry = Word
kind_of operation_entry = Word
kind_of entry_value = Int
kind_of entry_type = Word
kind_of statement = Value
kind_of number = Int
kind_of number_type = Word
kind_of item = Int
kind_of splat = Int
kind_of dense_length = Int
kind_of dense_cell = Word
kind_of operation = Text
kind_of operand = Value
kind_of return_word = Word
kind_of returned = Value

-- a token of that kind with these bytes may stand in the role, whatever stands before it
abbrev pub has_form : Role → List ℕ → Bool
has_form (word text) bytes = bytes_eq bytes text
has_form (sign text) bytes = bytes_eq bytes text
has_form eint_name bytes = bytes_eq bytes (codes "!FHE.eint")
has_form (width place) bytes = is_some (width_of bytes)
has_form (scalar place) bytes = is_some (itype_of bytes)
has_form (tensor_cell place) bytes = is_some (xtype_of bytes)
has_form range_word bytes = bytes_eq bytes (codes "fhec.range")
has_form argument_entry bytes = not (bytes_eq bytes (codes "fhec.range"))
has_form number bytes = is_some (signed_of 64 bytes)
has_form number_type bytes = is_some (itype_of bytes)
has_form item bytes = is_some (signed_of 64 bytes)
has_form splat bytes = is_some (signed_of 64 bytes)
has_form dense_cell bytes = is_some (xtype_of bytes)
has_form return_word bytes = bytes_eq bytes (codes "return") || bytes_eq bytes (codes "func.return")
has_form function_name bytes = true
has_form (tensor_length place) bytes = true
has_form argument bytes = true
has_form range_low bytes = true
has_form range_high bytes = true
has_form operation_entry bytes = true
has_form entry_value bytes = true
has_form entry_type bytes = true
has_form statement bytes = true
has_form dense_length bytes = true
has_form operation bytes = true
has_form operand bytes = true
has_form returned bytes = true

-- the same kind
abbrev pub is_kind : TokenKind → TokenKind → Bool
is_kind Word Word = true
is_kind Int Int = true
is_kind Value Value = true
is_kind Symbol Symbol = true
is_kind TypeName TypeName = true
is_kind Text Text = true
is_kind Sign Sign = true
is_kind _ _ = false

-- the token may stand in the role, whatever stands before it
abbrev pub fits : Role → Spelled → Bool
fits role found = is_kind (kind_of role) found.0 && has_form role found.1
