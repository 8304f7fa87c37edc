-- The one layout in which a program is printed.
use Rattle.std.specs.Prelude.{ℕ, ◌+◌, ◌-◌, nat_lt, List, [], ◌∷◌, ◌++◌, length, codes, Option, Some, None, ℤ, if◌then◌else◌}
use Rattle.std.specs.List.{join_by}
use Rattle.std.specs.Fmt.{decimal, signed_decimal}
use Rattle.fhe_text.specs.declared.source.WrittenType.{WrittenType}
use Rattle.fhe_text.specs.declared.source.WrittenType.TheVariants as types
use Rattle.fhe_text.specs.declared.source.Arg.{Arg}
use Rattle.fhe_text.specs.declared.source.Entries.{Entries}
use Rattle.fhe_text.specs.declared.source.Entries.TheVariants as entries
use Rattle.fhe_text.specs.declared.source.Statement.{Statement}
use Rattle.fhe_text.specs.declared.source.Statement.TheVariants as statements
use Rattle.fhe_text.specs.declared.source.Source.{Source}
use Rattle.fhe_text.specs.Conditions.{op_text, quoted}

-- a line feed
abbrev pub line_feed : List ℕ
line_feed = 10 ∷ []

-- a comma and a blank
abbrev pub comma : List ℕ
comma = codes ", "

-- between entries: before all but the first
abbrev pub comma_before : ℕ → List ℕ
comma_before place = if nat_lt 0 place then comma else []

-- a type
abbrev pub type_text : WrittenType → List ℕ
type_text (types.Eint width) = codes "!FHE.eint<" ++ (decimal width ++ codes ">")
type_text (types.Int bits) = codes "i" ++ decimal bits
type_text (types.Tensor count bits) = codes "tensor<" ++ (decimal count ++ (codes "xi" ++ (decimal bits ++ codes ">")))

-- the name of a value behind so many arguments, which are numbered first
abbrev pub value_text : ℕ → ℕ → List ℕ
value_text args value = if nat_lt value args then codes "%arg" ++ decimal value else codes "%" ++ decimal (value - args)

-- types, names and numbers, with a comma between
abbrev pub types_text : List WrittenType → List ℕ
types_text written = join_by type_text comma written

abbrev pub values_text : ℕ → List ℕ → List ℕ
values_text args values = join_by (value_text args) comma values

abbrev pub numbers_text : List ℤ → List ℕ
numbers_text numbers = join_by signed_decimal comma numbers

-- the entries of a tensor: a list in brackets, or the one number
abbrev pub entries_text : Entries → List ℕ
entries_text (entries.List numbers) = codes "[" ++ (numbers_text numbers ++ codes "]")
entries_text (entries.Splat value) = signed_decimal value

-- what a statement computes
abbrev pub statement_text : ℕ → Statement → List ℕ
statement_text args (statements.Int value bits) = codes "arith.constant " ++ (signed_decimal value ++ (codes " : i" ++ decimal bits))
statement_text args (statements.Dense found count bits) =
    codes "arith.constant dense<" ++ (entries_text found ++ (codes "> : tensor<" ++ (decimal count ++ (codes "xi" ++ (decimal bits ++ codes ">")))))
statement_text args (statements.Op name operands written result) =
    quoted (op_text name) ++ (codes "(" ++ (values_text args operands ++ (codes ") : (" ++ (types_text written ++ (codes ") -> " ++ type_text result)))))

-- the line of the statement with this number
abbrev pub statement_line : ℕ → ℕ → Statement → List ℕ
statement_line args place statement = codes "  %" ++ (decimal place ++ (codes " = " ++ (statement_text args statement ++ line_feed)))

-- the statements, each on a line of its own, numbered from this number on
abbrev pub statements_text : ℕ → ℕ → List Statement → List ℕ
statements_text args place [] = []
statements_text args place (statement ∷ body) = statement_line args place statement ++ statements_text args (place + 1) body

-- the range of an argument, where one is declared
abbrev pub declared_text : Option (ℤ × ℤ) → List ℕ
declared_text None = []
declared_text (Some range) = codes " {fhec.range = [" ++ (signed_decimal range.0 ++ (comma ++ (signed_decimal range.1 ++ codes "]}")))

-- the argument with this number
abbrev pub arg_text : ℕ → Arg → List ℕ
arg_text place arg = codes "%arg" ++ (decimal place ++ (codes ": " ++ (type_text arg.ty ++ declared_text arg.declared)))

-- the arguments from this number on, behind others
abbrev pub more_args_text : ℕ → List Arg → List ℕ
more_args_text place [] = []
more_args_text place (arg ∷ args) = comma ++ (arg_text place arg ++ more_args_text (place + 1) args)

-- the arguments
abbrev pub args_text : List Arg → List ℕ
args_text [] = []
args_text (arg ∷ args) = arg_text 0 arg ++ more_args_text 1 args

-- the types of the results: one alone, others in brackets
abbrev pub results_text : List WrittenType → List ℕ
results_text [] = codes "()"
results_text (one ∷ []) = type_text one
results_text (one ∷ other ∷ more) = codes "(" ++ (types_text (one ∷ other ∷ more) ++ codes ")")

-- the text of a program
unfoldable pub program_text : Source → List ℕ
program_text source =
    codes "func.func @main(" ++ (args_text source.args
    ++ (codes ") -> " ++ (results_text source.results
    ++ (codes " {" ++ (line_feed ++ (statements_text (length source.args) 0 source.body
    ++ (codes "  return " ++ (values_text (length source.args) source.returned
    ++ (codes " : " ++ (types_text source.returned_types ++ (line_feed ++ (codes "}" ++ line_feed))))))))))))
