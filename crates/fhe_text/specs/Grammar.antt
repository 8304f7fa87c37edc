-- The productions of a program.
use Rattle.std.specs.Prelude.{codes}
use Rattle.fhe_text.specs.Patterns.{Pattern, token, either, many, ◌▹◌, optional}
use Rattle.fhe_text.specs.Roles.{Place, of_argument, of_function, of_operand, of_operation, of_return, Role, word, sign, function_name, eint_name, width, scalar, tensor_length, tensor_cell, argument, range_word, range_low, range_high, argument_entry, operation_entry, entry_value, entry_type, statement, number, number_type, item, splat, dense_length, dense_cell, operation, operand, return_word, returned}

-- a pattern over the roles of a program
abbrev pub Production : Type 0
Production = Pattern Role

-- one or more, with `,` between
abbrev pub listed : Production → Production
listed entry = entry ▹ many (token (sign (codes ",")) ▹ entry)

-- none or more, with `,` between
abbrev pub maybe_listed : Production → Production
maybe_listed entry = optional (listed entry)

-- `!FHE.eint` `<` width `>`
abbrev pub etype : Place → Production
etype place = token eint_name ▹ token (sign (codes "<")) ▹ token (width place) ▹ token (sign (codes ">"))

-- `tensor` `<` length xtype `>`
abbrev pub tensor : Place → Production
tensor place = token (word (codes "tensor")) ▹ token (sign (codes "<")) ▹ token (tensor_length place) ▹ token (tensor_cell place) ▹ token (sign (codes ">"))

-- etype, tensor or itype
abbrev pub any_type : Place → Production
any_type place = either (etype place) (either (tensor place) (token (scalar place)))

-- `fhec.range` `=` `[` INT `,` INT `]`
abbrev pub range : Production
range = token range_word ▹ token (sign (codes "=")) ▹ token (sign (codes "[")) ▹ token range_low ▹ token (sign (codes ",")) ▹ token range_high ▹ token (sign (codes "]"))

-- WORD `=` INT, or WORD `=` INT `:` WORD
abbrev pub dict_entry : Role → Production
dict_entry name = token name ▹ token (sign (codes "=")) ▹ token entry_value ▹ optional (token (sign (codes ":")) ▹ token entry_type)

-- `{` none or more entries or ranges `}`
abbrev pub argument_dict : Production
argument_dict = token (sign (codes "{")) ▹ maybe_listed (either range (dict_entry argument_entry)) ▹ token (sign (codes "}"))

-- `{` none or more entries `}`
abbrev pub operation_dict : Production
operation_dict = token (sign (codes "{")) ▹ maybe_listed (dict_entry operation_entry) ▹ token (sign (codes "}"))

-- VALUE `:` etype, and a dict or none
abbrev pub arg : Production
arg = token argument ▹ token (sign (codes ":")) ▹ etype of_argument ▹ optional argument_dict

-- etype, or `(` one or more etype `)`
abbrev pub result_types : Production
result_types = either (etype of_function) (token (sign (codes "(")) ▹ listed (etype of_function) ▹ token (sign (codes ")")))

-- INT `:` itype
abbrev pub scalar_constant : Production
scalar_constant = token number ▹ token (sign (codes ":")) ▹ token number_type

-- INT, or `[` one or more INT `]`
abbrev pub dense_entries : Production
dense_entries = either (token splat) (token (sign (codes "[")) ▹ listed (token item) ▹ token (sign (codes "]")))

-- `dense` `<` entries `>` `:` tensor
abbrev pub dense_constant : Production
dense_constant =
    token (word (codes "dense")) ▹ token (sign (codes "<")) ▹ dense_entries ▹ token (sign (codes ">")) ▹ token (sign (codes ":"))
    ▹ token (word (codes "tensor")) ▹ token (sign (codes "<")) ▹ token dense_length ▹ token dense_cell ▹ token (sign (codes ">"))

-- `arith.constant`, and a number or a tensor
abbrev pub constant : Production
constant = token (word (codes "arith.constant")) ▹ either scalar_constant dense_constant

-- type, or `(` type `)`
abbrev pub operation_result : Production
operation_result = either (any_type of_operation) (token (sign (codes "(")) ▹ any_type of_operation ▹ token (sign (codes ")")))

-- STRING `(` operands `)`, a dict or none, `:` `(` types `)` `->` result
abbrev pub applied : Production
applied =
    token operation ▹ token (sign (codes "(")) ▹ maybe_listed (token operand) ▹ token (sign (codes ")")) ▹ optional operation_dict
    ▹ token (sign (codes ":")) ▹ token (sign (codes "(")) ▹ maybe_listed (any_type of_operand) ▹ token (sign (codes ")"))
    ▹ token (sign (codes "->")) ▹ operation_result

-- VALUE `=` constant or operation
abbrev pub one_statement : Production
one_statement = token statement ▹ token (sign (codes "=")) ▹ either constant applied

-- the word, one or more VALUE, `:`, one or more types
abbrev pub return_line : Production
return_line = token return_word ▹ listed (token returned) ▹ token (sign (codes ":")) ▹ listed (any_type of_return)

-- `func.func` SYMBOL `(` arguments `)` `->` results `{` statements return `}`
abbrev pub func : Production
func =
    token (word (codes "func.func")) ▹ token function_name ▹ token (sign (codes "(")) ▹ maybe_listed arg ▹ token (sign (codes ")"))
    ▹ token (sign (codes "->")) ▹ result_types
    ▹ token (sign (codes "{")) ▹ many one_statement ▹ return_line ▹ token (sign (codes "}"))

-- func, alone or in `module` `{` `}`
abbrev pub program : Production
program = either func (token (word (codes "module")) ▹ token (sign (codes "{")) ▹ func ▹ token (sign (codes "}")))
